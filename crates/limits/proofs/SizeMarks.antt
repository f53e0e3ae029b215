-- Marks in a table of sizes: a loop over declarations from their end, and marks that are taken away again.
use mathlib.Core.Path.{◌≡◌, refl, ap, ap₂, sym, subst, ◌∙◌}
use mathlib.Core.Bool.{Bool, true, false, cond}
use mathlib.Core.List.{List, [], ◌∷◌, ◌++◌, append_assoc, append-nil}
use mathlib.Core.Logic.{◌⊎◌, inl, inr}
use Prim.Native.Nat.{ℕ, zero, suc, ◌+◌, ◌-◌, ◌*◌, ◌/◌, ◌%◌, ◌≤◌, ◌<◌, max}
use native.Mathlib.Omega.{arith}
use lib.Dec.{eqb}
use lib.ListN.{length, drop, get_or, set, length-set, length-append, get_or-append}
use lib.Seq.{get_or-drop, drop_at, drop-drop, get_or-set_other, ext_get_or}
use borrow.Author.Tests.{eqb-true, eqb-false, ne_eqb}
use Rattle.term_sizes.specs.SizesByNumber.{Bounds, absolute}
use Rattle.limits.specs.DossierSizesByNumber.{entry_size, type_size, marks_of, marks, marked, Clear}
use Rattle.lexical.proofs.Zeros.{zero-at}

-- ---- one declaration ----

pub size-other : (on : Bool) (code : List ℕ) (at : ℕ) → (get_or code (at + 3) 0 ≡ 2 → ⊥) → 0 ≡ entry_size on code at
unfolding type_size
size-other true code at h = rw (type_size, ne_eqb (get_or code (at + 3) 0) 2 h)
size-other false code at h = refl

pub size-range : (on : Bool) (code : List ℕ) (at x y r : ℕ) → on ≡ true → get_or code (at + 3) 0 ≡ 2 → x ≡ absolute (get_or code (at + 1) 0) → y ≡ absolute (get_or code at 0) → r ≡ max x y
    → r ≡ entry_size on code at
unfolding type_size
size-range on code at x y r o k p q e =
    e ∙ ap₂ max p q ∙ sym (ap (λ (b : Bool). entry_size b code at) o ∙ ap (λ (n : ℕ). type_size n (get_or code (at + 1) 0) (get_or code at 0)) k)

pub set-one : (S U : Bounds) (x y n m : ℕ) → U ≡ set S x n → x ≡ y → n ≡ m → U ≡ set S y m
set-one S U x y n m e p q = e ∙ ap₂ (λ (a b : ℕ). set S a b) p q

-- ---- the loop ----

-- the declarations from number n on are marked
abbrev pub MarkedFrom : (on : Bool) (code : List ℕ) (s : ℕ) (n : ℕ) (S U : Bounds) → Type 0
MarkedFrom on code s n S U = U ≡ marks_of on (length code / 8 - n) (drop (n * 8) code) s S

-- before the first step
pub mark-start : (on : Bool) (code : List ℕ) (s n : ℕ) (S : Bounds) → n ≡ length code / 8 → MarkedFrom on code s n S S
unfolding marks_of
mark-start on code s n S e = ap (λ (k : ℕ). marks_of on k (drop (n * 8) code) s S) zero_left
  where
    zero_left : 0 ≡ length code / 8 - n
    zero_left = omega arith

entry-drop : (on : Bool) (code : List ℕ) (at : ℕ) → entry_size on (drop at code) 4 ≡ entry_size on code (at + 4)
entry-drop on code at = rw (get_or-drop at code 7 0, get_or-drop at code 5 0, get_or-drop at code 4 0, seven, five)
  where
    seven : at + 7 ≡ at + 4 + 3
    seven = omega arith

    five : at + 5 ≡ at + 4 + 1
    five = omega arith

-- one declaration before those that are marked
pub mark-step : (on : Bool) (code : List ℕ) (s n : ℕ) (S U W : Bounds) → 0 < n → n ≤ length code / 8 → MarkedFrom on code s n S U
    → W ≡ set U (get_or code ((n - 1) * 8 + 1) 0 + s) (entry_size on code ((n - 1) * 8 + 4)) → MarkedFrom on code s (n - 1) S W
unfolding marks_of
mark-step on code s n S U W p b w e =
    e ∙ ap₂ (λ (T : Bounds) (x : ℕ). set T (x + s) (entry_size on code ((n - 1) * 8 + 4))) (w ∙ ap (λ (l : List ℕ). marks_of on (length code / 8 - n) l s S) behind) (sym (get_or-drop ((n - 1) * 8) code 1 0))
    ∙ ap (set (marks_of on (length code / 8 - n) (drop 8 (drop ((n - 1) * 8) code)) s S) (get_or (drop ((n - 1) * 8) code) 1 0 + s)) (sym (entry-drop on code ((n - 1) * 8)))
    ∙ ap (λ (k : ℕ). marks_of on k (drop ((n - 1) * 8) code) s S) more
  where
    eight : (n - 1) * 8 + 8 ≡ n * 8
    eight = omega arith

    behind : drop (n * 8) code ≡ drop 8 (drop ((n - 1) * 8) code)
    behind = sym (drop-drop 8 ((n - 1) * 8) code ∙ ap (λ (k : ℕ). drop k code) eight)

    more : suc (length code / 8 - n) ≡ length code / 8 - (n - 1)
    more = omega arith

less_none : (n : ℕ) → n - 0 ≡ n
less_none n = omega arith

pub mark-end : (on : Bool) (code : List ℕ) (s n : ℕ) (S U : Bounds) → n ≤ 0 → MarkedFrom on code s n S U → U ≡ marks on code s S
mark-end on code s zero S U h w = w ∙ ap (λ (k : ℕ). marks_of on k code s S) (less_none (length code / 8))
mark-end on code s (suc n) S U h w = absurd (omega arith)

-- ---- declarations from the last to the first ----

-- what is left is the beginning of `code`
pub record Begins (code rest : List ℕ) : Type 0 where
  pub left : List ℕ
  pub here : code ≡ rest ++ left

pub begins-whole : (code rest : List ℕ) → rest ≡ code → Begins code rest
begins-whole code rest e = record { left = []; here = sym e ∙ sym (append-nil rest) }

-- a piece comes off the end, in front of what makes no whole piece
module _ (code d rest behind after : List ℕ) (cut : rest ≡ (behind ++ d) ++ after) where
  pub begins-on : Begins code rest → Begins code behind
  begins-on b = record {
    left = d ++ (after ++ b.left);
    here = b.here ∙ (ap (λ (l : List ℕ). l ++ b.left) cut ∙ (append_assoc (behind ++ d) after b.left ∙ append_assoc behind d (after ++ b.left)));
  }

  back-length : length rest ≡ length behind + length d + length after
  back-length = ap length cut ∙ (length-append (behind ++ d) after ∙ ap (λ (n : ℕ). n + length after) (length-append behind d))

  back-fits : Begins code rest → length rest ≤ length code
  back-fits b = let e = ap length b.here ∙ length-append rest b.left in omega arith

  -- its numbers are those of `code` from its place on
  back-piece : Begins code rest → (k : ℕ) → k < length d → get_or d k 0 ≡ get_or code (length behind + k) 0
  unfolding begins-on
  back-piece b k h =
      sym (get_or-append d (after ++ b.left) 0 k h)
      ∙ (ap (λ (l : List ℕ). get_or l k 0) (sym (drop_at behind (d ++ (after ++ b.left)) (length behind) refl) ∙ ap (drop (length behind)) (sym (begins-on b).here))
      ∙ get_or-drop (length behind) code k 0)

sized : (on : Bool) (x y z a b c : ℕ) → x ≡ a → y ≡ b → z ≡ c → cond on (type_size x y z) 0 ≡ cond on (type_size a b c) 0
sized on x y z a b c p q r =
    ap (λ (n : ℕ). cond on (type_size n y z) 0) p ∙ (ap (λ (n : ℕ). cond on (type_size a n z) 0) q ∙ ap (λ (n : ℕ). cond on (type_size a b n) 0) r)

number-at : (code : List ℕ) (m n : ℕ) → m ≡ n → get_or code m 0 ≡ get_or code n 0
number-at code m n e = ap (λ (k : ℕ). get_or code k 0) e

pub mark-back : (on : Bool) (code : List ℕ) (s : ℕ) (d rest behind after : List ℕ) (S U W : Bounds) → rest ≡ (behind ++ d) ++ after → length d ≡ 8 → length after ≡ length rest % 8
    → Begins code rest → MarkedFrom on code s (length rest / 8) S U → W ≡ set U (get_or d 1 0 + s) (entry_size on d 4) → MarkedFrom on code s (length behind / 8) S W
mark-back on code s d rest behind after S U W cut long over b w e =
    subst (λ (k : ℕ). MarkedFrom on code s k S W) (sym one)
    (mark-step on code s n S U W some few w (e ∙ ap₂ (λ (x y : ℕ). set U (x + s) y) (piece 1 (omega arith) ∙ number-at code (length behind + 1) ((n - 1) * 8 + 1) (omega (arith, at))) size))
  where
    n : ℕ
    n = length rest / 8

    sum : length rest ≡ length behind + 8 + length after
    sum = let l = back-length code d rest behind after cut in omega (arith, long)

    at : length behind ≡ (n - 1) * 8
    at = omega (arith, sum, over)

    one : length behind / 8 ≡ n - 1
    one = omega (arith, at)

    some : 0 < n
    some = omega (arith, sum)

    few : n ≤ length code / 8
    few = omega (arith, back-fits code d rest behind after cut b)

    piece : (k : ℕ) → k < 8 → get_or d k 0 ≡ get_or code (length behind + k) 0
    piece k h = back-piece code d rest behind after cut b k (omega (arith, long))

    size : entry_size on d 4 ≡ entry_size on code ((n - 1) * 8 + 4)
    size = sized on _ _ _ _ _ _ (piece 7 (omega arith) ∙ number-at code (length behind + 7) ((n - 1) * 8 + 4 + 3) (omega (arith, at)))
        (piece 5 (omega arith) ∙ number-at code (length behind + 5) ((n - 1) * 8 + 4 + 1) (omega (arith, at)))
        (piece 4 (omega arith) ∙ number-at code (length behind + 4) ((n - 1) * 8 + 4) (omega (arith, at)))

-- three groups, one behind the other
pub three-marked : (on : Bool) (a b : List ℕ) (s : ℕ) (c : List ℕ) (S T U V : Bounds) → T ≡ marks on c 0 S → U ≡ marks on b s T → V ≡ marks on a 0 U → V ≡ marked on a b s c S
three-marked on a b s c S T U V p q r = r ∙ ap (λ (X : Bounds). marks on a 0 X) (q ∙ ap (λ (X : Bounds). marks on b s X) p)

-- ---- marks that are taken away ----

pub marks-length : (on : Bool) (k : ℕ) (code : List ℕ) (s : ℕ) (S : Bounds) → length (marks_of on k code s S) ≡ length S
unfolding marks_of
marks-length on zero code s S = refl
marks-length on (suc k) code s S = length-set (marks_of on k (drop 8 code) s S) (get_or code 1 0 + s) (entry_size on code 4) ∙ marks-length on k (drop 8 code) s S

-- an entry that is set to 0, or out of the table
zero-set : (S : Bounds) (x : ℕ) → get_or (set S x 0) x 0 ≡ 0
zero-set [] x = refl
zero-set (y ∷ S) zero = refl
zero-set (y ∷ S) (suc x) = zero-set S x

-- the entry x, after marks are taken away: 0, or no declaration has changed it
Apart : (k : ℕ) (code : List ℕ) (s x : ℕ) (S T : Bounds) → Type 0
Apart k code s x S T = (get_or (marks_of false k code s S) x 0 ≡ get_or S x 0) × (get_or (marks_of true k code s T) x 0 ≡ get_or T x 0)

away : (k : ℕ) (code : List ℕ) (s x : ℕ) (S T : Bounds) → (get_or (marks_of false k code s S) x 0 ≡ 0) ⊎ Apart k code s x S T
unfolding marks_of Apart
away zero code s x S T = inr (refl, refl)
away (suc k) code s x S T = on (eqb x (get_or code 1 0 + s)) refl (away k (drop 8 code) s x S T)
  where
    on : (b : Bool) → eqb x (get_or code 1 0 + s) ≡ b → (get_or (marks_of false k (drop 8 code) s S) x 0 ≡ 0) ⊎ Apart k (drop 8 code) s x S T
        → (get_or (set (marks_of false k (drop 8 code) s S) (get_or code 1 0 + s) 0) x 0 ≡ 0)
        ⊎ ((get_or (set (marks_of false k (drop 8 code) s S) (get_or code 1 0 + s) 0) x 0 ≡ get_or S x 0)
        × (get_or (set (marks_of true k (drop 8 code) s T) (get_or code 1 0 + s) (entry_size true code 4)) x 0 ≡ get_or T x 0))
    on true e w = inl (ap (λ (y : ℕ). get_or (set (marks_of false k (drop 8 code) s S) y 0) x 0) (sym (eqb-true x _ e)) ∙ zero-set (marks_of false k (drop 8 code) s S) x)
    on false e (inl z) = inl (get_or-set_other (marks_of false k (drop 8 code) s S) (get_or code 1 0 + s) x 0 0 (eqb-false x _ e) ∙ z)
    on false e (inr w) =
        inr (
          get_or-set_other (marks_of false k (drop 8 code) s S) (get_or code 1 0 + s) x 0 0 (eqb-false x _ e) ∙ w.0,
          get_or-set_other (marks_of true k (drop 8 code) s T) (get_or code 1 0 + s) x (entry_size true code 4) 0 (eqb-false x _ e) ∙ w.1,
        )

module _ (a b : List ℕ) (s : ℕ) (c : List ℕ) (Z : Bounds) (clear : Clear Z) where
  -- the table with the marks of one, two and three groups, and these taken away in the same order
  abbrev M₁ : Bounds
  M₁ = marks true c 0 Z

  abbrev M₂ : Bounds
  M₂ = marks true b s M₁

  abbrev M₃ : Bounds
  M₃ = marks true a 0 M₂

  abbrev W₁ : Bounds
  W₁ = marks false c 0 M₃

  abbrev W₂ : Bounds
  W₂ = marks false b s W₁

  abbrev W₃ : Bounds
  W₃ = marks false a 0 W₂

  empty : (x : ℕ) → get_or Z x 0 ≡ 0
  empty x = ap (λ (l : Bounds). get_or l x 0) clear ∙ zero-at (length Z) x

  all-zero : (x : ℕ) → get_or W₃ x 0 ≡ 0
  unfolding Apart
  all-zero x = first (away (length a / 8) a 0 x W₂ M₂)
    where
      third : get_or W₃ x 0 ≡ get_or W₁ x 0 → get_or M₃ x 0 ≡ get_or M₁ x 0 → (get_or W₁ x 0 ≡ 0) ⊎ Apart (length c / 8) c 0 x M₃ Z → get_or W₃ x 0 ≡ 0
      third p q (inl z) = p ∙ z
      third p q (inr w) = p ∙ w.0 ∙ q ∙ w.1 ∙ empty x

      second : get_or W₃ x 0 ≡ get_or W₂ x 0 → get_or M₃ x 0 ≡ get_or M₂ x 0 → (get_or W₂ x 0 ≡ 0) ⊎ Apart (length b / 8) b s x W₁ M₁ → get_or W₃ x 0 ≡ 0
      second p q (inl z) = p ∙ z
      second p q (inr w) = third (p ∙ w.0) (q ∙ w.1) (away (length c / 8) c 0 x M₃ Z)

      first : (get_or W₃ x 0 ≡ 0) ⊎ Apart (length a / 8) a 0 x W₂ M₂ → get_or W₃ x 0 ≡ 0
      first (inl z) = z
      first (inr w) = second w.0 w.1 (away (length b / 8) b s x W₁ M₁)

  long : length W₃ ≡ length Z
  long =
      marks-length false (length a / 8) a 0 W₂ ∙ marks-length false (length b / 8) b s W₁ ∙ marks-length false (length c / 8) c 0 M₃
      ∙ marks-length true (length a / 8) a 0 M₂ ∙ marks-length true (length b / 8) b s M₁ ∙ marks-length true (length c / 8) c 0 Z

  -- a clear table is clear again
  pub restored : marked false a b s c (marked true a b s c Z) ≡ Z
  restored = ext_get_or 0 W₃ Z long (λ x h. all-zero x ∙ sym (empty x))

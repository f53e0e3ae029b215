-- The number of the binding that a point gives some slots, and the point at which they have the k-th binding, are each other's inverse; what a search finds among numbers. Assumes nothing.
use mathlib.Core.Path.{◌≡◌, refl, sym, ap, ap₂, subst, ◌∙◌}
use mathlib.Core.Bool.{Bool, true, false, cond}
use mathlib.Core.Logic.{inl, inr}
use mathlib.Core.List.{List, [], ◌∷◌, ◌++◌}
use Prim.Native.Nat.{ℕ, zero, suc, ◌+◌, ◌*◌, ◌/◌, ◌%◌, ◌<◌, ◌≤◌}
use native.Mathlib.Nat.{zero-lt-suc, one-mul, mul-pos, mul_comm, mul_assoc, mod-lt, mod-eq_of_lt, zero-add, lt_of_lt_of_le, div-add-mod', div-lt_iff_lt-mul, div-div-eq-div-mul}
use native.Mathlib.Decide.{ℕ_discrete}
use native.Mathlib.Omega.{arith}
use borrow.Author.Tests.{eq-eqb, ne_eqb, lt-ltb, le-ltb}
use lib.Arith.{digits_lt, digits_div, digits_mod, mod-mul, lt-one}
use lib.Dec.{ltb}
use Rattle.lexical.specs.Lists.{any, upward}
use Rattle.meaning.specs.Bindings.{Among}
use Rattle.meaning.proofs.Members.{any-put}
use Rattle.meaning.proofs.UpwardNumbers.{among-upward}
use Rattle.slot_carriers.specs.Cells.{count_in}
use Rattle.points.specs.Points.{Point, moved, span, number_of, placed, Tame, Beside, Apart, Distinct, more_slots, no_slots}
use Rattle.points.specs.Searches.{Sought}

-- the variables of all these slots have values
abbrev pub Counts : (cells ss : List ℕ) → Type 0
Counts cells ss = (s : ℕ) → Among s ss → 0 < count_in cells s

pub counts-rest : (cells : List ℕ) (s : ℕ) (ss : List ℕ) → Counts cells (s ∷ ss) → Counts cells ss
unfolding Among
counts-rest cells s ss c t m = c t (inr m)

pub counts-first : (cells : List ℕ) (s : ℕ) (ss : List ℕ) → Counts cells (s ∷ ss) → 0 < count_in cells s
unfolding Among
counts-first cells s ss c = c s (inl refl)

-- Form 8: by `Distinct` of specs/Points, since specs/ cites nothing of proofs/, where meaning/proofs/Distinct has its own; both are by recursion on a list of numbers and `among-upward`.
pub distinct-upward : (k n : ℕ) → Distinct (upward k n)
unfolding upward
distinct-upward k zero = no_slots
distinct-upward k (suc n) = more_slots (λ m. let h = (among-upward (suc k) n k m).0 in omega arith) (distinct-upward (suc k) n)

-- points that differ from others that differ there
pub beside-twice : {ss : List ℕ} {δ ε φ : Point} → Beside ss δ ε → Beside ss ε φ → Beside ss δ φ
beside-twice u v = record { same = λ s m. v.same s m ∙ u.same s m }

-- ---- one slot is moved

pub moved_here : (δ : Point) (s x : ℕ) → moved δ s x s ≡ x
unfolding moved
moved_here δ s x = ap (λ (b : Bool). cond b x (δ s)) (eq-eqb s s refl)

pub moved_other : (δ : Point) (s x t : ℕ) → (t ≡ s → ⊥) → moved δ s x t ≡ δ t
unfolding moved
moved_other δ s x t n = ap (λ (b : Bool). cond b x (δ t)) (ne_eqb t s n)

-- to the value that it has
moved_same : (δ : Point) (s x t : ℕ) → x ≡ δ s → moved δ s x t ≡ δ t
moved_same δ s x t h = go (ℕ_discrete t s)
  where
    go : Dec (t ≡ s) → moved δ s x t ≡ δ t
    go (yes e) = ap (moved δ s x) e ∙ moved_here δ s x ∙ h ∙ ap δ (sym e)
    go (no n) = moved_other δ s x t n

pub tame-moved : (cells : List ℕ) (δ : Point) (s x : ℕ) → Tame cells δ → x < count_in cells s → Tame cells (moved δ s x)
tame-moved cells δ s x τ h = record { low = λ t c. go t c (ℕ_discrete t s) }
  where
    go : (t : ℕ) → 0 < count_in cells t → Dec (t ≡ s) → moved δ s x t < count_in cells t
    go t c (yes e) =
        subst (λ (y : ℕ). moved δ s x y < count_in cells y) (sym e) (subst (λ (y : ℕ). y < count_in cells s) (sym (moved_here δ s x)) h)
    go t c (no n) = subst (λ (y : ℕ). y < count_in cells t) (sym (moved_other δ s x t n)) (τ.low t c)

-- ---- how many bindings there are

pub span-some : (cells ss : List ℕ) → Counts cells ss → 0 < span cells ss
unfolding span
span-some cells [] c = zero-lt-suc 0
span-some cells (s ∷ ss) c = mul-pos (counts-first cells s ss c) (span-some cells ss (counts-rest cells s ss c))

pub span-append : (cells os ks : List ℕ) → span cells (os ++ ks) ≡ span cells os * span cells ks
unfolding span
span-append cells [] ks = sym (one-mul (span cells ks))
span-append cells (s ∷ os) ks =
    ap (λ (x : ℕ). count_in cells s * x) (span-append cells os ks) ∙ sym (mul_assoc (count_in cells s) (span cells os) (span cells ks))

-- ---- the number of a binding

pub number-low : (cells ss : List ℕ) (δ : Point) → Tame cells δ → Counts cells ss → number_of cells ss δ < span cells ss
unfolding number_of span
number-low cells [] δ τ c = zero-lt-suc 0
number-low cells (s ∷ ss) δ τ c = digits_lt (τ.low s (counts-first cells s ss c)) (number-low cells ss δ τ (counts-rest cells s ss c))

pub number_append : (cells os ks : List ℕ) (δ : Point) → number_of cells (os ++ ks) δ ≡ number_of cells os δ * span cells ks + number_of cells ks δ
unfolding number_of span
number_append cells [] ks δ = let z : number_of cells ks δ ≡ 0 * span cells ks + number_of cells ks δ = omega arith in z
number_append cells (s ∷ os) ks δ =
    ap₂ (λ (x y : ℕ). δ s * x + y) (span-append cells os ks) (number_append cells os ks δ)
    ∙ regroup (δ s) (span cells os) (span cells ks) (number_of cells os δ) (number_of cells ks δ)
  where
    regroup : (d a b n m : ℕ) → d * (a * b) + (n * b + m) ≡ (d * a + n) * b + m
    regroup d a b n m = omega arith

-- two points that are the same at these slots give them the same binding
pub number_same : (cells ss : List ℕ) (δ ε : Point) → ((s : ℕ) → Among s ss → ε s ≡ δ s) → number_of cells ss ε ≡ number_of cells ss δ
unfolding number_of Among
number_same cells [] δ ε h = refl
number_same cells (s ∷ ss) δ ε h =
    ap₂ (λ (x y : ℕ). x * span cells ss + y) (h s (inl refl)) (number_same cells ss δ ε (λ t m. h t (inr m)))

pub number-apart : (cells us ss : List ℕ) (δ ε : Point) → Apart us ss → Beside ss δ ε → number_of cells us ε ≡ number_of cells us δ
number-apart cells us ss δ ε a b = number_same cells us δ ε (λ s m. b.same s (a.none s m))

-- and two that give them the same binding are the same there
pub same_number : (cells ss : List ℕ) (δ ε : Point) → Tame cells δ → Tame cells ε → Counts cells ss → number_of cells ss ε ≡ number_of cells ss δ
    → (s : ℕ) → Among s ss → ε s ≡ δ s
unfolding number_of Among
same_number cells [] δ ε τ υ c e s m = absurd m
same_number cells (s ∷ ss) δ ε τ υ c e t (inl q) =
    let k : Counts cells ss = counts-rest cells s ss c in
    ap ε q
    ∙ (sym (digits_div (ε s) (number-low cells ss ε υ k)) ∙ ap (λ (x : ℕ). x / span cells ss) e ∙ digits_div (δ s) (number-low cells ss δ τ k))
    ∙ ap δ (sym q)
same_number cells (s ∷ ss) δ ε τ υ c e t (inr m) =
    let k : Counts cells ss = counts-rest cells s ss c in
    same_number cells ss δ ε τ υ k
    (sym (digits_mod (ε s) (number-low cells ss ε υ k)) ∙ ap (λ (x : ℕ). x % span cells ss) e ∙ digits_mod (δ s) (number-low cells ss δ τ k)) t m

-- ---- the point of a binding

pub placed-other : (cells ss : List ℕ) (δ : Point) (k t : ℕ) → (Among t ss → ⊥) → placed cells ss δ k t ≡ δ t
unfolding placed Among
placed-other cells [] δ k t n = refl
placed-other cells (s ∷ ss) δ k t n =
    placed-other cells ss (moved δ s (k / span cells ss)) (k % span cells ss) t (λ m. n (inr m)) ∙ moved_other δ s (k / span cells ss) t (λ e. n (inl e))

pub beside_placed : (cells ss : List ℕ) (δ : Point) (k : ℕ) → Beside ss δ (placed cells ss δ k)
beside_placed cells ss δ k = record { same = λ t n. placed-other cells ss δ k t n }

pub tame-placed : (cells ss : List ℕ) (δ : Point) (k : ℕ) → Tame cells δ → Counts cells ss → k < span cells ss → Tame cells (placed cells ss δ k)
unfolding placed span
tame-placed cells [] δ k τ c h = τ
tame-placed cells (s ∷ ss) δ k τ c h =
    let p : 0 < span cells ss = span-some cells ss (counts-rest cells s ss c) in
    tame-placed cells ss (moved δ s (k / span cells ss)) (k % span cells ss) (tame-moved cells δ s (k / span cells ss) τ ((div-lt_iff_lt-mul p).1 h))
    (counts-rest cells s ss c) (mod-lt k p)

-- the digits of k for the second of two groups, by those for both
rest-div : (k a b n : ℕ) → 0 < a → 0 < b → n ≡ a * b → k % n / b ≡ k / b % a
rest-div k a b n p q e = ap (λ (x : ℕ). k % x / b) e ∙ ap (λ (x : ℕ). x / b) (mod-mul k p q) ∙ digits_div (k / b % a) (mod-lt k q)

rest-mod : (k a b n : ℕ) → 0 < a → 0 < b → n ≡ a * b → k % n % b ≡ k % b
rest-mod k a b n p q e = ap (λ (x : ℕ). k % x % b) e ∙ ap (λ (x : ℕ). x % b) (mod-mul k p q) ∙ digits_mod (k / b % a) (mod-lt k q)

pub placed-append : (cells os ks : List ℕ) (δ : Point) (k : ℕ) → Counts cells os → Counts cells ks → k < span cells (os ++ ks)
    → placed cells (os ++ ks) δ k ≡ placed cells ks (placed cells os δ (k / span cells ks)) (k % span cells ks)
unfolding placed span
placed-append cells [] ks δ k c d h = ap (placed cells ks δ) (sym (mod-eq_of_lt h))
placed-append cells (s ∷ os) ks δ k c d h =
    let r : Counts cells os = counts-rest cells s os c in
    let p : 0 < span cells os = span-some cells os r in
    let q : 0 < span cells ks = span-some cells ks d in
    let e : span cells (os ++ ks) ≡ span cells os * span cells ks = span-append cells os ks in
    let n : 0 < span cells (os ++ ks) = subst (λ (x : ℕ). 0 < x) (sym e) (mul-pos p q) in
    placed-append cells os ks (moved δ s (k / span cells (os ++ ks))) (k % span cells (os ++ ks)) r d (mod-lt k n)
    ∙ ap₂ (placed cells ks)
    (ap₂ (λ (x : ℕ). placed cells os (moved δ s x)) (ap (λ (x : ℕ). k / x) (e ∙ mul_comm (span cells os) (span cells ks)) ∙ sym (div-div-eq-div-mul k (span cells ks) (span cells os)))
    (rest-div k (span cells os) (span cells ks) (span cells (os ++ ks)) p q e))
    (rest-mod k (span cells os) (span cells ks) (span cells (os ++ ks)) p q e)

pub number-placed : (cells ss : List ℕ) (δ : Point) (k : ℕ) → Distinct ss → Counts cells ss → k < span cells ss → number_of cells ss (placed cells ss δ k) ≡ k
unfolding placed span number_of
number-placed cells [] δ k d c h = sym (lt-one h)
number-placed cells (s ∷ ss) δ k (more_slots n d) c h =
    let p : 0 < span cells ss = span-some cells ss (counts-rest cells s ss c) in
    ap₂ (λ (x y : ℕ). x * span cells ss + y)
    (placed-other cells ss (moved δ s (k / span cells ss)) (k % span cells ss) s n ∙ moved_here δ s (k / span cells ss))
    (number-placed cells ss (moved δ s (k / span cells ss)) (k % span cells ss) d (counts-rest cells s ss c) (mod-lt k p))
    ∙ div-add-mod' k (span cells ss)

-- two points that are the same everywhere stay so
placed_same : (cells ss : List ℕ) (δ ε : Point) (k t : ℕ) → ((s : ℕ) → ε s ≡ δ s) → placed cells ss ε k t ≡ placed cells ss δ k t
placed_same cells ss δ ε k t h = ap (λ (φ : Point). placed cells ss φ k t) (λ i s. h s i)

pub placed-number : (cells ss : List ℕ) (δ : Point) → Tame cells δ → Counts cells ss → (s : ℕ) → placed cells ss δ (number_of cells ss δ) s ≡ δ s
unfolding placed number_of
placed-number cells [] δ τ c t = refl
placed-number cells (s ∷ ss) δ τ c t =
    let l : number_of cells ss δ < span cells ss = number-low cells ss δ τ (counts-rest cells s ss c) in
    let k : ℕ = δ s * span cells ss + number_of cells ss δ in
    placed_same cells ss δ (moved δ s (k / span cells ss)) (k % span cells ss) t (λ u. moved_same δ s (k / span cells ss) u (digits_div (δ s) l))
    ∙ ap (λ (x : ℕ). placed cells ss δ x t) (digits_mod (δ s) l)
    ∙ placed-number cells ss δ τ (counts-rest cells s ss c) t

-- ---- what is found among numbers

some-from : (f : ℕ → Bool) (k n r : ℕ) → k ≤ r → r ≤ k + n → ((i : ℕ) → k ≤ i → i < r → f i ≡ false) → (r < k + n → f r ≡ true)
    → any f (upward k n) ≡ ltb r (k + n)
unfolding upward any Among
some-from f k zero r l h past found = sym (le-ltb r (k + 0) (omega arith))
some-from f k (suc n) r l h past found = go (ℕ_discrete k r) (λ m. some-from f (suc k) n r m (omega arith) (λ i a b. past i (omega arith) b) (λ b. found (omega arith)))
  where
    shift : suc k + n ≡ k + suc n
    shift = omega arith

    go : Dec (k ≡ r) → (suc k ≤ r → any f (upward (suc k) n) ≡ ltb r (suc k + n)) → any f (k ∷ upward (suc k) n) ≡ ltb r (k + suc n)
    go (yes e) on = any-put f k (k ∷ upward (suc k) n) (inl refl) (ap f e ∙ found (omega arith)) ∙ sym (lt-ltb r (k + suc n) (omega arith))
    go (no n') on = rw (past k (omega arith) (omega arith), any) (on (omega arith) ∙ ap (ltb r) shift)

-- some number passes exactly if the search from 0 did not come to the end
pub sought-some : (f : ℕ → Bool) (w r : ℕ) → Sought f 0 w r → any f (upward 0 w) ≡ ltb r w
sought-some f w r s =
    some-from f 0 w r (omega arith) (subst (λ (x : ℕ). r ≤ x) (sym (zero-add w)) s.high) s.past (λ h. s.found (omega arith)) ∙ ap (ltb r) (zero-add w)

-- a test that agrees with another at all numbers below the end is passed at the same ones
pub sought-same : {f g : ℕ → Bool} {from end r : ℕ} → Sought f from end r → ((k : ℕ) → k < end → f k ≡ g k) → Sought g from end r
sought-same {f} {g} {from} {end} {r} s e =
    record {
      low = s.low;
      high = s.high;
      past = λ k a b. sym (e k (lt_of_lt_of_le b s.high)) ∙ s.past k a b;
      found = λ a. sym (e r a) ∙ s.found a;
    }

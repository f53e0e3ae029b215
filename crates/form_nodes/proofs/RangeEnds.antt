-- A - after in or notin, by the codes of the symbols around it.
use mathlib.Core.Path.{◌≡◌, refl, ap, ◌∙◌, sym, subst}
use mathlib.Core.Bool.{Bool, true, false, cond, not, ◌&&◌, ◌||◌, beq, false≢true}
use mathlib.Core.List.{List, [], ◌∷◌}
use mathlib.Core.Option.{Option, none, some}
use Prim.Native.Nat.{ℕ, zero, suc, ◌+◌, ◌-◌, ◌≤◌, ◌<◌}
use native.Mathlib.Omega.{arith}
use native.Mathlib.Numerals.{add-one}
use lib.Dec.{eqb, leb}
use lib.ListN.{drop, get_or, get_or-map}
use lib.Seq.{get_or-drop}
use borrow.Author.Tests.{eq-eqb, ne_eqb, eqb-true, eqb-false, le-leb, lt-leb, leb-true, leb-false, le-ltb, lt-ltb}
use Rattle.lexical.specs.Lists.{all}
use Rattle.lexical.specs.Kinds as kind
use Rattle.lexical.specs.Kinds.{Kind, code_of, lookup, is}
use Rattle.lexical.specs.Symbols.{Symbol, fixed, kind_of}
use Rattle.refusals.specs.Refusals.{Refusal, deep}
use Rattle.std.specs.Cmp.{booleans_Decides}
use Rattle.std.proofs.lemmas.Bool.{and_parts, and_right}
use Rattle.form.specs.Written.{opens, binds}
use Rattle.form.specs.Form.{kind_at, is_range_end, is_used, settled, excess, refuse}
use Rattle.form_nodes.specs.FormPromises.{codes, range_end_at, RangeEnd, range_below, Members, Ranged, positive, negative, unranged}
use Rattle.form.specs.Machine.{kind_before}
use Rattle.form_nodes.proofs.Classes.{every-kind, no-class}
use Rattle.form_nodes.proofs.ReadParts.{Within}

-- a test that takes `end` for 0 does not tell the two defaults apart
by_default : (t : ℕ → Bool) → t 44 ≡ t 0 → (s : List ℕ) (j : ℕ) → t (get_or s j 44) ≡ t (get_or s j 0)
by_default t e [] j = e
by_default t e (x ∷ s) zero = refl
by_default t e (x ∷ s) (suc j) = by_default t e s j

-- a test of the kind at a place is one of the code there
pub code-test : (t : ℕ → Bool) → t 44 ≡ t 0 → (w : List Symbol) {s : List ℕ} → codes w ≡ s → (j : ℕ) → t (code_of (kind_at w j)) ≡ t (get_or s j 0)
unfolding codes kind_at code_of
code-test t e w {s} q j =
    ap t (sym (get_or-map (λ (x : Symbol). code_of (kind_of x)) w j (fixed kind.END)) ∙ ap (λ (l : List ℕ). get_or l j 44) q) ∙ by_default t e s j

kind-behind : (w : List Symbol) (m i : ℕ) → kind_at (drop m w) i ≡ kind_at w (m + i)
unfolding kind_at
kind-behind w m i = ap kind_of (get_or-drop m w i (fixed kind.END))

member-code : (κ : Kind) → (is κ kind.IN || is κ kind.NOTIN) ≡ (leb 56 (code_of κ) && leb (code_of κ) 57)
unfolding is code_of all
member-code κ = (booleans_Decides _ _).0 (every-kind (λ (j : Kind). beq (is j kind.IN || is j kind.NOTIN) (leb 56 (code_of j) && leb (code_of j) 57)) κ refl refl)

pub range-test : (w : List Symbol) {s : List ℕ} → codes w ≡ s → (at : ℕ) → is_range_end (kind_before kind.END w at) (kind_at w at) (drop (suc at) w) ≡ range_end_at s at
unfolding is_range_end range_end_at is code_of
range-test w q zero = refl
range-test w {s} q (suc p) =
    let a : (is (kind_at w p) kind.IN || is (kind_at w p) kind.NOTIN) ≡ (leb 56 (get_or s p 0) && leb (get_or s p 0) 57) =
    member-code (kind_at w p) ∙ code-test (λ (x : ℕ). leb 56 x && leb x 57) refl w q p in
    let b : is (kind_at w (suc p)) kind.minus ≡ eqb (get_or s (suc p) 0) 29 = code-test (λ (x : ℕ). eqb x 29) refl w q (suc p) in
    let c : is (kind_at (drop (suc (suc p)) w) 0) kind.number ≡ eqb (get_or s (suc p + 1) 0) 1 =
    ap (λ (κ : Kind). is κ kind.number) (kind-behind w (suc (suc p)) 0) ∙ code-test (λ (x : ℕ). eqb x 1) refl w q (suc (suc p) + 0)
    ∙ ap (λ (j : ℕ). eqb (get_or s j 0) 1) (omega arith) in
    let d : is (kind_at (drop (suc (suc p)) w) 1) kind.up_to ≡ eqb (get_or s (suc p + 2) 0) 21 =
    ap (λ (κ : Kind). is κ kind.up_to) (kind-behind w (suc (suc p)) 1) ∙ code-test (λ (x : ℕ). eqb x 21) refl w q (suc (suc p) + 1)
    ∙ ap (λ (j : ℕ). eqb (get_or s j 0) 21) (omega arith) in
    cc

abbrev five : Bool → Bool → Bool → Bool → Bool → Bool
five a b x y z = (a && b) && x && y && z

no_second : (a x y z : Bool) → five a false x y z ≡ false
no_second true x y z = refl
no_second false x y z = refl

no_third : (a b y z : Bool) → five a b false y z ≡ false
no_third true true y z = refl
no_third true false y z = refl
no_third false b y z = refl

pub below-parts : (s : List ℕ) (at : ℕ) → range_below s at ≡ true → (get_or s at 0 ≡ 29) × ((get_or s (at + 1) 0 ≡ 1) × (get_or s (at + 2) 0 ≡ 21))
unfolding range_below
below-parts s at q =
    let a = and_parts (eqb (get_or s at 0) 29 && eqb (get_or s (at + 1) 0) 1) (eqb (get_or s (at + 2) 0) 21) q in
    let b = and_parts (eqb (get_or s at 0) 29) (eqb (get_or s (at + 1) 0) 1) a.0 in
    (eqb-true (get_or s at 0) 29 b.0, (eqb-true (get_or s (at + 1) 0) 1 b.1, eqb-true (get_or s (at + 2) 0) 21 a.1))

pub below-holds : (s : List ℕ) (at : ℕ) → get_or s at 0 ≡ 29 → get_or s (at + 1) 0 ≡ 1 → get_or s (at + 2) 0 ≡ 21 → range_below s at ≡ true
unfolding range_below
below-holds s at x y z =
    ap (λ (b : Bool). b && eqb (get_or s (at + 1) 0) 1 && eqb (get_or s (at + 2) 0) 21) (eq-eqb (get_or s at 0) 29 x)
    ∙ ap (λ (b : Bool). b && eqb (get_or s (at + 2) 0) 21) (eq-eqb (get_or s (at + 1) 0) 1 y)
    ∙ eq-eqb (get_or s (at + 2) 0) 21 z

-- a test of three, by the outcome of the first two
pub below-first : (s : List ℕ) (at : ℕ) → get_or s at 0 ≡ 29 → get_or s (at + 1) 0 ≡ 1 → eqb (get_or s (at + 2) 0) 21 ≡ range_below s at
unfolding range_below
below-first s at x y =
    sym
    (ap (λ (b : Bool). b && eqb (get_or s (at + 1) 0) 1 && eqb (get_or s (at + 2) 0) 21) (eq-eqb (get_or s at 0) 29 x)
    ∙ ap (λ (b : Bool). b && eqb (get_or s (at + 2) 0) 21) (eq-eqb (get_or s (at + 1) 0) 1 y))

pub below-fails : (s : List ℕ) (at : ℕ) → (get_or s at 0 ≡ 29 → get_or s (at + 1) 0 ≡ 1 → ⊥) → false ≡ range_below s at
below-fails s at n = on (range_below s at) refl
  where
    on : (b : Bool) → range_below s at ≡ b → false ≡ range_below s at
    on true q = let h = below-parts s at q in absurd (n h.0 h.1.0)
    on false q = sym q

-- each way in which the codes tell, where p stands before at
module _ (s : List ℕ) (p at : ℕ) (e : at ≡ suc p) where
  told : range_end_at s at ≡ five (leb 56 (get_or s p 0)) (leb (get_or s p 0) 57) (eqb (get_or s at 0) 29) (eqb (get_or s (at + 1) 0) 1) (eqb (get_or s (at + 2) 0) 21)
  unfolding range_end_at
  told =
      subst (λ (j : ℕ). range_end_at s j ≡ five (leb 56 (get_or s p 0)) (leb (get_or s p 0) 57) (eqb (get_or s j 0) 29) (eqb (get_or s (j + 1) 0) 1) (eqb (get_or s (j + 2) 0) 21)) (sym e) refl

  below : get_or s p 0 < 56 → range_end_at s at ≡ false
  below h = told ∙ ap (λ (b : Bool). five b (leb (get_or s p 0) 57) (eqb (get_or s at 0) 29) (eqb (get_or s (at + 1) 0) 1) (eqb (get_or s (at + 2) 0) 21)) (lt-leb 56 (get_or s p 0) h)

  above : 57 < get_or s p 0 → range_end_at s at ≡ false
  above h =
      told ∙ ap (λ (b : Bool). five (leb 56 (get_or s p 0)) b (eqb (get_or s at 0) 29) (eqb (get_or s (at + 1) 0) 1) (eqb (get_or s (at + 2) 0) 21)) (lt-leb (get_or s p 0) 57 h)
      ∙ no_second (leb 56 (get_or s p 0)) (eqb (get_or s at 0) 29) (eqb (get_or s (at + 1) 0) 1) (eqb (get_or s (at + 2) 0) 21)

  pub no_minus : (get_or s at 0 ≡ 29 → ⊥) → range_end_at s at ≡ false
  no_minus h =
      told ∙ ap (λ (b : Bool). five (leb 56 (get_or s p 0)) (leb (get_or s p 0) 57) b (eqb (get_or s (at + 1) 0) 1) (eqb (get_or s (at + 2) 0) 21)) (ne_eqb (get_or s at 0) 29 h)
      ∙ no_third (leb 56 (get_or s p 0)) (leb (get_or s p 0) 57) (eqb (get_or s (at + 1) 0) 1) (eqb (get_or s (at + 2) 0) 21)

  -- behind in or notin the rest tells
  pub behind-member : 56 ≤ get_or s p 0 → get_or s p 0 ≤ 57 → range_end_at s at ≡ range_below s at
  unfolding range_below
  behind-member a b =
      told
      ∙ ap (λ (t : Bool). five t (leb (get_or s p 0) 57) (eqb (get_or s at 0) 29) (eqb (get_or s (at + 1) 0) 1) (eqb (get_or s (at + 2) 0) 21)) (le-leb 56 (get_or s p 0) a)
      ∙ ap (λ (t : Bool). five true t (eqb (get_or s at 0) 29) (eqb (get_or s (at + 1) 0) 1) (eqb (get_or s (at + 2) 0) 21)) (le-leb (get_or s p 0) 57 b)

  pub by-below : {r : Bool} → (56 ≤ get_or s p 0) × (get_or s p 0 ≤ 57) → r ≡ range_below s at → RangeEnd s at r
  by-below a q = record {
    test = behind-member a.0 a.1 ∙ sym q;
    minus = λ e. let h = below-parts s at (sym q ∙ e) in (h.0, h.1.0);
  }

  pub no_member : (56 ≤ get_or s p 0 → get_or s p 0 ≤ 57 → ⊥) → range_end_at s at ≡ false
  no_member h = on (leb 56 (get_or s p 0)) refl
    where
      on : (b : Bool) → leb 56 (get_or s p 0) ≡ b → range_end_at s at ≡ false
      on true e = let l : 56 ≤ get_or s p 0 = leb-true 56 (get_or s p 0) e in let m : get_or s p 0 ≤ 57 → ⊥ = h l in above (omega arith)
      on false e = let l = leb-false 56 (get_or s p 0) e in below (omega arith)

  pub is-end : 56 ≤ get_or s p 0 → get_or s p 0 ≤ 57 → get_or s at 0 ≡ 29 → get_or s (at + 1) 0 ≡ 1 → get_or s (at + 2) 0 ≡ 21 → range_end_at s at ≡ true
  is-end a b x y z = behind-member a b ∙ below-holds s at x y z

-- what no membership is
pub no-membership : (k : ℕ) {r : Bool} → Members k r → r ≡ false → 56 ≤ k → k ≤ 57 → ⊥
unfolding code_of lookup is
no-membership k h q a b = on (eqb k 56) refl
  where
    on : (t : Bool) → eqb k 56 ≡ t → ⊥
    on true e = let w : ◌≡◌ {A = ℕ} 1 0 = no-class h.classes q kind.IN (sym (eqb-true k 56 e)) in omega arith
    on false e = let n : k ≡ 56 → ⊥ = eqb-false k 56 e in let w : ◌≡◌ {A = ℕ} 1 0 = no-class h.classes q kind.NOTIN (omega arith) in omega arith

-- a range, by whether it begins below 0
pub ranged-below : (s : List ℕ) (at : ℕ) {r : Bool} → r ≡ range_below s at → r ≡ true → Ranged s at true
ranged-below s at q e = let h = below-parts s at (sym q ∙ e) in negative h.0 h.1.0 (ap (λ (j : ℕ). get_or s j 0) (omega arith) ∙ h.1.1)

not-below : (s : List ℕ) (at : ℕ) {r : Bool} → r ≡ range_below s at → r ≡ false → get_or s at 0 ≡ 29 → get_or s (at + 1) 0 ≡ 1 → get_or s (at + 1 + 1) 0 ≡ 21 → ⊥
not-below s at q e x y z = false≢true (sym e ∙ q ∙ below-holds s at x y (ap (λ (j : ℕ). get_or s j 0) (omega arith) ∙ z))

pub ranged-above : (s : List ℕ) (at : ℕ) → get_or s at 0 ≡ 1 → Ranged s at (eqb (get_or s (at + 1) 0) 21)
ranged-above s at x = on (eqb (get_or s (at + 1) 0) 21) refl
  where
    on : (b : Bool) → eqb (get_or s (at + 1) 0) 21 ≡ b → Ranged s at b
    on true e = positive x (eqb-true (get_or s (at + 1) 0) 21 e)
    on false e = unranged (λ p q. eqb-false (get_or s (at + 1) 0) 21 e q) (λ p q r. absurd (omega arith))

pub no-range : (s : List ℕ) (at : ℕ) {r : Bool} → r ≡ range_below s at → r ≡ false → (get_or s at 0 ≡ 1 → ⊥) → Ranged s at false
no-range s at q e n = unranged (λ x y. n x) (λ x y z. not-below s at q e x y z)

pub behind-first : (at : ℕ) → (at ≡ 0 → ⊥) → at ≡ suc (at - 1)
behind-first at h = omega arith

-- what a function that finds none says
pub no_end : {s : List ℕ} {at : ℕ} → range_end_at s at ≡ false → RangeEnd s at false
no_end q = record { test = q; minus = λ e. absurd (subst (λ (b : Bool). elim b as (λ (x : Bool). Type 0) [ true ↦ ⊥ | false ↦ Unit {0} ]) e tt) }

-- whether a symbol that opens a depth, or a name that is bound, counts
open-quiet : (n : ℕ) → n ≤ 24 → excess (opens n) ≡ none
unfolding excess refuse
open-quiet n h = ap (λ (b : Bool). refuse b deep) (le-ltb 24 n h)

open-over : (n : ℕ) → 24 < n → excess (opens n) ≡ some deep
unfolding excess refuse
open-over n h = ap (λ (b : Bool). refuse b deep) (lt-ltb 24 n h)

either-none : (b : Bool) (x : Option Refusal) → x ≡ none → cond b none x ≡ none
either-none true x q = refl
either-none false x q = q

-- a depth of at most 24 is well; a depth over 24 is not, but of the - of a range
pub open_well : (s : List ℕ) (at n : ℕ) → n ≤ 24 → Within s at (λ k j v. settled k j v (opens n) ≡ none)
unfolding settled
open_well s at n h w q =
    either-none (is_range_end (kind_before kind.END w at) (kind_at w at) (drop (suc at) w)) (excess (opens n)) (open-quiet n h)

pub open-deep : (s : List ℕ) (at n : ℕ) → 24 < n → range_end_at s at ≡ false → Within s at (λ k j v. settled k j v (opens n) ≡ some deep)
unfolding settled
open-deep s at n h e w q =
    ap (λ (b : Bool). cond b none (excess (opens n))) (range-test w q at ∙ e) ∙ open-over n h

pub range-well : (s : List ℕ) (at n : ℕ) → range_end_at s at ≡ true → Within s at (λ k j v. settled k j v (opens n) ≡ none)
unfolding settled
range-well s at n e w q = ap (λ (b : Bool). cond b none (excess (opens n))) (range-test w q at ∙ e)

-- only a - may be one
pub other-kind : (s : List ℕ) (at : ℕ) → (get_or s at 0 ≡ 29 → ⊥) → range_end_at s at ≡ false
unfolding range_end_at
other-kind s zero h = refl
other-kind s (suc p) h = no_minus s p (suc p) refl h

-- a bound name, by whether a : follows a name after {
pub bind_well : (s : List ℕ) (at n : ℕ) → n ≤ 3 → Within s at (λ k j v. settled k j v (binds n) ≡ none)
unfolding settled excess refuse
bind_well s at n h w q =
    either-none (is_used (kind_before kind.END w at) (drop (suc at) w)) (excess (binds n)) (ap (λ (b : Bool). refuse b deep) (le-ltb 3 n h))

-- at the symbol behind p
behind : (s : List ℕ) (p : ℕ) (P : Kind → Kind → List Symbol → Type 0) → Within s (suc p) P → Within s (p + 1) P
behind s p P h = subst (λ (j : ℕ). Within s j P) (sym (add-one p)) h

used-test : (w : List Symbol) {s : List ℕ} → codes w ≡ s → (p : ℕ) → is_used (kind_at w p) (drop (suc (suc p)) w) ≡ (eqb (get_or s p 0) 19 && not (eqb (get_or s (p + 1 + 1) 0) 10))
unfolding is_used is code_of
used-test w {s} q p =
    let a : is (kind_at w p) kind.open_brace ≡ eqb (get_or s p 0) 19 = code-test (λ (x : ℕ). eqb x 19) refl w q p in
    let b : is (kind_at (drop (suc (suc p)) w) 0) kind.colon ≡ eqb (get_or s (p + 1 + 1) 0) 10 =
    ap (λ (κ : Kind). is κ kind.colon) (kind-behind w (suc (suc p)) 0) ∙ code-test (λ (x : ℕ). eqb x 10) refl w q (suc (suc p) + 0)
    ∙ ap (λ (j : ℕ). eqb (get_or s j 0) 10) (omega arith) in
    cc

pub used-well : (s : List ℕ) (p n : ℕ) → get_or s p 0 ≡ 19 → (get_or s (p + 1 + 1) 0 ≡ 10 → ⊥) → Within s (p + 1) (λ k j v. settled k j v (binds n) ≡ none)
unfolding settled
used-well s p n a b = behind s p (λ k j v. settled k j v (binds n) ≡ none) (λ w q.
    ap (λ (x : Bool). cond x none (excess (binds n)))
    (used-test w q p ∙ ap (λ (x : Bool). x && not (eqb (get_or s (p + 1 + 1) 0) 10)) (eq-eqb (get_or s p 0) 19 a) ∙ ap not (ne_eqb (get_or s (p + 1 + 1) 0) 10 b)))

bind-over : (n : ℕ) → 3 < n → excess (binds n) ≡ some deep
unfolding excess refuse
bind-over n h = ap (λ (b : Bool). refuse b deep) (lt-ltb 3 n h)

pub bound-deep : (s : List ℕ) (p n : ℕ) → 3 < n → get_or s (p + 1 + 1) 0 ≡ 10 → Within s (p + 1) (λ k j v. settled k j v (binds n) ≡ some deep)
unfolding settled
bound-deep s p n h b = behind s p (λ k j v. settled k j v (binds n) ≡ some deep) (λ w q.
    ap (λ (x : Bool). cond x none (excess (binds n)))
    (used-test w q p ∙ ap (λ (x : Bool). eqb (get_or s p 0) 19 && not x) (eq-eqb (get_or s (p + 1 + 1) 0) 10 b) ∙ and_right (eqb (get_or s p 0) 19) false refl)
    ∙ bind-over n h)

-- behind anything but {
pub bound-elsewhere : (s : List ℕ) (p n : ℕ) → 3 < n → (get_or s p 0 ≡ 19 → ⊥) → Within s (p + 1) (λ k j v. settled k j v (binds n) ≡ some deep)
unfolding settled
bound-elsewhere s p n h a = behind s p (λ k j v. settled k j v (binds n) ≡ some deep) (λ w q.
    ap (λ (x : Bool). cond x none (excess (binds n))) (used-test w q p ∙ ap (λ (x : Bool). x && not (eqb (get_or s (p + 1 + 1) 0) 10)) (ne_eqb (get_or s p 0) 19 a)) ∙ bind-over n h)

-- The least of some faults as a number: laws over lists that are joined, wholes that are judged and what stands inside a binder.
use mathlib.Core.Path.{◌≡◌, refl, ap, ap₂, ◌∙◌, sym}
use mathlib.Core.Bool.{Bool, true, false, ◌&&◌, ◌||◌, cond}
use mathlib.Core.List.{List, [], ◌∷◌, ◌++◌}
use mathlib.Core.Option.{Option, none, some}
use Prim.Native.Nat.{ℕ, zero, suc, ◌≤◌, ◌<◌}
use native.Mathlib.Omega.{arith}
use lib.Dec.{eqb, ltb}
use borrow.Author.Tests.{eqb-true, eqb-false, ne_eqb, ltb-true, ltb-false, lt-ltb, le-ltb}
use Rattle.refusals.specs.Refusals as faults
use Rattle.refusals.specs.Refusals.{Refusal, Fault, fault, number_of, before, least, unless}
use Rattle.refusals.proofs.RefusalNumbers.{small-number}
use Rattle.declared_names.specs.StaticRulesNames.{whole, inside}
use Rattle.type_rules.specs.TypesByNumber.{key_room, key, lesser, unless_key, judged_key, inside_key, key_of, least_key}

-- ---- the lesser of two numbers, 0 being none ----

pub lesser-zero : (a : ℕ) → lesser a 0 ≡ a
unfolding lesser
lesser-zero a = on (eqb a 0) refl
  where
    on : (b : Bool) → eqb a 0 ≡ b → cond b 0 a ≡ a
    on true q = sym (eqb-true a 0 q)
    on false q = refl

pub positive : (a : ℕ) → 1 ≤ a → a ≡ 0 → ⊥
positive a h e = omega arith

lesser-right : (a b : ℕ) → 1 ≤ b → b < a → lesser a b ≡ b
unfolding lesser
lesser-right a b h lt = rw (ne_eqb a 0 (positive a (omega arith)), ne_eqb b 0 (positive b h), lt-ltb b a lt)

lesser-left : (a b : ℕ) → 1 ≤ a → a ≤ b → lesser a b ≡ a
unfolding lesser
lesser-left a b h le = rw (ne_eqb a 0 (positive a h), ne_eqb b 0 (positive b (omega arith)), le-ltb b a le)

pub zero-lesser : (b : ℕ) → lesser 0 b ≡ b
unfolding lesser
zero-lesser b = refl

pub lesser-assoc : (a b c : ℕ) → lesser (lesser a b) c ≡ lesser a (lesser b c)
lesser-assoc zero b c = ap (λ (z : ℕ). lesser z c) (zero-lesser b) ∙ sym (zero-lesser (lesser b c))
lesser-assoc (suc a) zero c = ap (λ (z : ℕ). lesser z c) (lesser-zero (suc a)) ∙ sym (ap (lesser (suc a)) (zero-lesser c))
lesser-assoc (suc a) (suc b) zero = lesser-zero (lesser (suc a) (suc b)) ∙ sym (ap (lesser (suc a)) (lesser-zero (suc b)))
lesser-assoc (suc a) (suc b) (suc c) = on (ltb (suc b) (suc a)) refl (ltb (suc c) (suc b)) refl
  where
    first : {x : ℕ} → lesser (suc a) (suc b) ≡ x → lesser (lesser (suc a) (suc b)) (suc c) ≡ lesser x (suc c)
    first e = ap (λ (z : ℕ). lesser z (suc c)) e

    second : {x : ℕ} → lesser (suc b) (suc c) ≡ x → lesser (suc a) x ≡ lesser (suc a) (lesser (suc b) (suc c))
    second e = sym (ap (lesser (suc a)) e)

    on : (p : Bool) → ltb (suc b) (suc a) ≡ p → (q : Bool) → ltb (suc c) (suc b) ≡ q → lesser (lesser (suc a) (suc b)) (suc c) ≡ lesser (suc a) (lesser (suc b) (suc c))
    on true p true q =
        let p' = ltb-true (suc b) (suc a) p in let q' = ltb-true (suc c) (suc b) q in
        first (lesser-right (suc a) (suc b) (omega arith) p') ∙ lesser-right (suc b) (suc c) (omega arith) q'
        ∙ sym (lesser-right (suc a) (suc c) (omega arith) (omega arith)) ∙ second (lesser-right (suc b) (suc c) (omega arith) q')
    on true p false q =
        let p' = ltb-true (suc b) (suc a) p in let q' = ltb-false (suc c) (suc b) q in
        first (lesser-right (suc a) (suc b) (omega arith) p') ∙ lesser-left (suc b) (suc c) (omega arith) q'
        ∙ sym (lesser-right (suc a) (suc b) (omega arith) p') ∙ second (lesser-left (suc b) (suc c) (omega arith) q')
    on false p true q =
        let p' = ltb-false (suc b) (suc a) p in let q' = ltb-true (suc c) (suc b) q in
        first (lesser-left (suc a) (suc b) (omega arith) p') ∙ second (lesser-right (suc b) (suc c) (omega arith) q')
    on false p false q =
        let p' = ltb-false (suc b) (suc a) p in let q' = ltb-false (suc c) (suc b) q in
        first (lesser-left (suc a) (suc b) (omega arith) p') ∙ lesser-left (suc a) (suc c) (omega arith) (omega arith)
        ∙ sym (lesser-left (suc a) (suc b) (omega arith) p') ∙ second (lesser-left (suc b) (suc c) (omega arith) q')

-- ---- faults by their keys ----

abbrev fault_key : Fault → ℕ
fault_key f = key f.place (number_of f.refusal)

-- a fault comes before another exactly if its key is the lesser
before-key : (g f : Fault) → before g f ≡ ltb (fault_key g) (fault_key f)
unfolding before
before-key g f = on (ltb g.place f.place) refl (eqb g.place f.place) refl (ltb (number_of g.refusal) (number_of f.refusal)) refl
  where
    hg : number_of g.refusal < key_room
    hg = small-number g.refusal

    hf : number_of f.refusal < key_room
    hf = small-number f.refusal

    on : (p : Bool) → ltb g.place f.place ≡ p → (q : Bool) → eqb g.place f.place ≡ q → (r : Bool) → ltb (number_of g.refusal) (number_of f.refusal) ≡ r
        → (p || q && r) ≡ ltb (fault_key g) (fault_key f)
    on true p q hq r hr = sym (lt-ltb (fault_key g) (fault_key f) (omega (arith, hg, hf, ltb-true g.place f.place p)))
    on false p true q true r = sym (lt-ltb (fault_key g) (fault_key f) (omega (arith, hg, hf, eqb-true g.place f.place q, ltb-true (number_of g.refusal) (number_of f.refusal) r)))
    on false p true q false r = sym (le-ltb (fault_key g) (fault_key f) (omega (arith, hg, hf, eqb-true g.place f.place q, ltb-false (number_of g.refusal) (number_of f.refusal) r)))
    on false p false q r hr =
        let ne : g.place ≡ f.place → ⊥ = eqb-false g.place f.place q in
        sym (le-ltb (fault_key g) (fault_key f) (omega (arith, hg, hf, ltb-false g.place f.place p)))

lesser-key : (f : Fault) (o : Option Fault) → fault_key (faults.lesser f o) ≡ lesser (fault_key f) (key_of o)
unfolding faults.lesser
lesser-key f none = sym (lesser-zero (fault_key f))
lesser-key f (some g) = on (before g f) refl
  where
    on : (b : Bool) → before g f ≡ b → fault_key (elim b [ true ↦ g | false ↦ f ]) ≡ lesser (fault_key f) (fault_key g)
    on true q = sym (lesser-right (fault_key f) (fault_key g) (omega arith) (ltb-true (fault_key g) (fault_key f) (sym (before-key g f) ∙ q)))
    on false q = sym (lesser-left (fault_key f) (fault_key g) (omega arith) (ltb-false (fault_key g) (fault_key f) (sym (before-key g f) ∙ q)))

least-cons : (f : Fault) (fs : List Fault) → least_key (f ∷ fs) ≡ lesser (fault_key f) (least_key fs)
unfolding least
least-cons f fs = lesser-key f (least fs)

pub least-append : (xs ys : List Fault) → least_key (xs ++ ys) ≡ lesser (least_key xs) (least_key ys)
unfolding least
least-append [] ys = sym (zero-lesser (least_key ys))
least-append (f ∷ xs) ys =
    least-cons f (xs ++ ys) ∙ ap (lesser (fault_key f)) (least-append xs ys)
    ∙ sym (lesser-assoc (fault_key f) (least_key xs) (least_key ys)) ∙ sym (ap (λ (z : ℕ). lesser z (least_key ys)) (least-cons f xs))

-- two parts, each by its own number
pub two-parts : (xs ys : List Fault) {a b : ℕ} → a ≡ least_key xs → b ≡ least_key ys → lesser a b ≡ least_key (xs ++ ys)
two-parts xs ys p q = ap₂ lesser p q ∙ sym (least-append xs ys)

pub least-nil : least_key [] ≡ 0
unfolding least
least-nil = refl

pub least-positive : (f : Fault) (fs : List Fault) → 1 ≤ least_key (f ∷ fs)
unfolding least
least-positive f fs = omega arith

pub unless-least : (ok : Bool) (i : ℕ) (r : Refusal) → unless_key ok (key i (number_of r)) ≡ least_key (unless ok (fault i r))
unfolding unless least faults.lesser
unless-least true i r = refl
unless-least false i r = refl

pub one-fault : (i : ℕ) (r : Refusal) → key i (number_of r) ≡ least_key (fault i r ∷ [])
unfolding least faults.lesser
one-fault i r = refl

-- a whole: it is judged where its parts have no faults
pub whole-least : (ok fits : Bool) (i j : ℕ) (r : Refusal) (m : ℕ) (parts : List Fault) → m ≡ least_key parts → j ≡ i → (parts ≡ [] → ok ≡ fits)
    → judged_key ok (key i (number_of r)) m ≡ least_key (whole fits (fault j r) parts)
unfolding whole
whole-least ok fits i j r m [] e p h =
    rw (e, least-nil) (ap₂ (λ (b : Bool) (n : ℕ). unless_key b (key n (number_of r))) (h refl) (sym p) ∙ unless-least fits j r)
whole-least ok fits i j r m (x ∷ parts) e p h = rw (ne_eqb m 0 (positive m (omega (arith, least-positive x parts)))) e

pub inside-least : (m n : ℕ) (xs ys : List Fault) → m ≡ least_key xs → (xs ≡ [] → n ≡ least_key ys) → inside_key m n ≡ least_key (inside xs ys)
unfolding inside
inside-least m n [] ys e h = rw (e, least-nil) (h refl)
inside-least m n (x ∷ xs) ys e h = rw (ne_eqb m 0 (positive m (omega (arith, least-positive x xs)))) e

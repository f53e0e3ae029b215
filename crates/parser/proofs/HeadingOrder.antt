-- The faults of number 7 come in the order of their places: the first is the least.
use Rattle.std.specs.Prelude.{Some, None}
use Rattle.std.specs.Prelude as prelude
use mathlib.Core.Path.{◌≡◌, refl, ap, ◌∙◌}
use mathlib.Core.Bool.{Bool, true, false, ◌&&◌, ◌||◌}
use mathlib.Core.List.{List, [], ◌∷◌, ◌++◌}
use mathlib.Core.Option.{Option, none, some}
use Prim.Native.Nat.{ℕ, ◌≤◌}
use native.Mathlib.Omega.{arith}
use borrow.Author.Tests.{le-ltb}
use lib.Dec.{eqb, ltb}
use Rattle.refusals.specs.Refusals.{Refusal, Fault, fault, heading_differs, number_of, before, lesser, least}
use Rattle.std.proofs.lemmas.Bool.{and_right}
use Rattle.parser.specs.Sections.{Finds}

-- faults of number 7, at i or behind it, in the order of their places
abbrev pub Rising : ℕ → List Fault → Type 0
Rising i [] = Unit {0}
Rising i (f ∷ fs) = (i ≤ f.place) × (f.refusal ≡ heading_differs) × Rising f.place fs

pub rising-from : (j i : ℕ) (fs : List Fault) → j ≤ i → Rising i fs → Rising j fs
rising-from j i [] l h = tt
rising-from j i (f ∷ fs) l h = (let k = h.0 in omega arith, h.1, h.2)

head_of : List Fault → Option Fault
head_of [] = none
head_of (f ∷ fs) = some f

not-before : (f g : Fault) → f.place ≤ g.place → f.refusal ≡ heading_differs → g.refusal ≡ heading_differs → before g f ≡ false
unfolding before number_of
not-before f g l p q =
    ap (λ (b : Bool). b || eqb g.place f.place && ltb (number_of g.refusal) (number_of f.refusal)) (le-ltb g.place f.place l)
    ∙ ap (λ (r : Refusal). eqb g.place f.place && ltb (number_of r) (number_of f.refusal)) q
    ∙ ap (λ (r : Refusal). eqb g.place f.place && ltb 7 (number_of r)) p ∙ and_right (eqb g.place f.place) false refl

least_first : (i : ℕ) (fs : List Fault) → Rising i fs → least fs ≡ head_of fs
unfolding least lesser head_of
least_first i [] h = refl
least_first i (f ∷ []) h = refl
least_first i (f ∷ g ∷ fs) h =
    ap (λ (x : Option Fault). some (lesser f x)) (least_first f.place (g ∷ fs) h.2)
    ∙ ap (λ (b : Bool). some (elim b as (λ (x : Bool). Fault) [ true ↦ g | false ↦ f ])) (not-before f g h.2.0 h.1 h.2.1)

-- the answer of the code: the place of the first fault
abbrev pub headed : List Fault → prelude.Option ℕ
headed [] = None
headed (f ∷ fs) = Some f.place

pub finds-first : (i : ℕ) (fs : List Fault) → Rising i fs → Finds fs (headed fs)
unfolding head_of
finds-first i [] h = least_first i [] h
finds-first i (f ∷ fs) h = least_first i (f ∷ fs) h ∙ ap (λ (r : Refusal). some (fault f.place r)) h.1

-- where the first faults are none, the others decide
pub others-first : (fs gs : List Fault) → headed fs ≡ None → headed (fs ++ gs) ≡ headed gs
others-first [] gs e = refl
others-first (f ∷ fs) gs e = let z : ◌≡◌ {A = ℕ} 0 1 = cc in absurd (omega arith)

pub one-first : (fs gs : List Fault) (p : ℕ) → headed fs ≡ Some p → headed (fs ++ gs) ≡ Some p
one-first [] gs p e = let z : ◌≡◌ {A = ℕ} 0 1 = cc in absurd (omega arith)
one-first (f ∷ fs) gs p e = e

-- Groups at given bindings, one after the other: each can be put there, and what the arrays show then. Assumes nothing.
use mathlib.Core.Path.{◌≡◌, subst}
use mathlib.Core.List.{List, [], ◌∷◌}
use Prim.Native.Nat.{ℕ, zero, suc, ◌+◌, ◌<◌, ◌≤◌}
use native.Mathlib.Omega.{arith}
use lib.IntN.{ℤ}
use lib.ListN.{get_or, length}
use Rattle.points.specs.Points.{Shows}
use Rattle.step_searches.specs.declared.Given.{Given}
use Rattle.step_searches.specs.StepPromises.{Bindable, PutAsked, PutAnswers, no_group, given_at, EachBindable}

group-of : (cells : List ℕ) (gs : List Given) → EachBindable cells gs → (i : ℕ) → i < length gs
    → Bindable cells (get_or gs i no_group).base (get_or gs i no_group).size.variables (get_or gs i no_group).size.bindings (get_or gs i no_group).k
unfolding EachBindable
group-of cells [] e i h = absurd (omega arith)
group-of cells (g ∷ gs) e zero h = e.0
group-of cells (g ∷ gs) e (suc i) h = group-of cells gs e.1 i (omega arith)

pub given-group : {cells : List ℕ} (gs : List Given) {i : ℕ} {now : List (List ℤ)} → EachBindable cells gs → i < length gs → Shows cells (given_at cells gs i) now
    → PutAsked cells (get_or gs i no_group).base (get_or gs i no_group).size.variables (get_or gs i no_group).size.bindings (get_or gs i no_group).k now
given-group {cells} gs {i} e h σ = record { point = given_at cells gs i; shows = σ; group = group-of cells gs e i h }

pub given-first : {cells : List ℕ} (gs : List Given) {now : List (List ℤ)} → Shows cells (λ (s : ℕ). 0) now → Shows cells (given_at cells gs 0) now
unfolding given_at
given-first gs σ = σ

pub given-next : {cells : List ℕ} (gs : List Given) (i : ℕ) {now after : List (List ℤ)} → Shows cells (given_at cells gs i) now
    → PutAnswers cells (get_or gs i no_group).base (get_or gs i no_group).size.variables (get_or gs i no_group).k now after → Shows cells (given_at cells gs (i + 1)) after
unfolding given_at
given-next {cells} gs i {after = after} σ p =
    let e : suc i ≡ i + 1 = omega arith in subst (λ (m : ℕ). Shows cells (given_at cells gs m) after) e (p.means (given_at cells gs i) σ)

pub given-all : {cells : List ℕ} (gs : List Given) {i : ℕ} {now : List (List ℤ)} → Shows cells (given_at cells gs i) now → i ≤ length gs → length gs ≤ i
    → Shows cells (given_at cells gs (length gs)) now
given-all {cells} gs {i} {now} σ h g = let e : i ≡ length gs = omega arith in subst (λ (m : ℕ). Shows cells (given_at cells gs m) now) e σ

-- The truth of a predicate at a point, and what the evaluator is asked for it. Nothing here need be believed.
use Rattle.std.specs.Prelude.{◌≡◌, Bool, List, [], ◌∷◌, ℕ, zero, suc, ◌/◌, ◌%◌, get_or, ℤ}
use Rattle.static_rules.specs.FormTree.{Pred}
use Rattle.static_rules.specs.Carriers.{Variable}
use Rattle.static_rules.specs.Scope.{Scope}
use Rattle.meaning.specs.Meaning.{Binding, holds}
use Rattle.slot_carriers.specs.CarriersValuesByNumber.{value_at}
use Rattle.slot_carriers.specs.Cells.{CellOf}
use Rattle.truths.specs.TablePlacesResolvedTable.{Slots}
use Rattle.truths.specs.EvaluationEvaluationByNumber.{Values, TruthIs}
use Rattle.truths.specs.Promises.{Asked, Answers}
use Rattle.points.specs.Points.{Point, primed_slot, Shows}

-- the binding that a point gives variables in these slots
unfoldable pub binding_by : List Variable → Slots → Point → Binding
binding_by [] W δ = []
binding_by (v ∷ vs) [] δ = []
binding_by (v ∷ vs) (w ∷ W) δ = (v.called, value_at v.carrier (δ w.1)) ∷ binding_by vs W δ

unfoldable pub truth_at : Scope → Slots → Pred → Point → Bool
truth_at Γ W q δ = holds q (record { givens = Γ.givens; values = binding_by Γ.reach W δ })

-- the state before (0) is read by the slots, the state after (1) by the primed slots in their stead
unfoldable pub side_slot : (side s : ℕ) → ℕ
side_slot zero s = s
side_slot (suc n) s = primed_slot s

unfoldable pub side_of : (side : ℕ) → Point → Point
side_of side δ s = δ (side_slot side s)

-- the variables in reach have their names, and the cells of their carriers, in these slots
unfoldable pub Celled : (cells : List ℕ) (side : ℕ) → List Variable → Slots → Type 0
Celled cells side [] [] = Unit {0}
Celled cells side [] (w ∷ W) = ⊥
Celled cells side (v ∷ vs) [] = ⊥
Celled cells side (v ∷ vs) (w ∷ W) = (w.0 ≡ v.called) × CellOf cells (side_slot side w.1) v.carrier × Celled cells side vs W

-- the nodes up to e give the truth b, with values in slots
pub record Given (table : List ℕ) (e : ℕ) (σ : Values) (b : Bool) : Type 0 where
  pub fuel : ℕ
  pub is : TruthIs fuel table e σ b

-- e, twice a place in the table, and 1 more where the state after is asked, is a test of f: at every point the evaluator can be asked, and answers f, which the nodes give
pub record Test (table cells : List ℕ) (e : ℕ) (f : Point → Bool) : Type 0 where
  pub asked : (δ : Point) (arrays : List (List ℤ)) → Shows cells δ arrays → Asked table (e / 2) (get_or arrays (e % 2) [])
  pub answers : (δ : Point) (arrays : List (List ℤ)) → Shows cells δ arrays → (r : Bool) → Answers table (e / 2) (get_or arrays (e % 2) []) r → r ≡ f δ
  pub gives : (δ : Point) (arrays : List (List ℤ)) → Shows cells δ arrays → Given table (e / 2) (get_or arrays (e % 2) []) (f δ)

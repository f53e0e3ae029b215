-- The slots that a predicate leaves out: the truth of each of its conjuncts is the same with any value there. Nothing here need be believed.
use Rattle.std.specs.Prelude.{◌≡◌, Bool, true, List, ℕ, ◌+◌, ◌*◌, ◌<◌, ◌≤◌, get_or}
use Rattle.sets.specs.Sets.{has}
use Rattle.form.specs.Tree.{Pred}
use Rattle.static_rules.specs.Scope.{Scope, Context}
use Rattle.table_places.specs.ResolvedTable.{Slots}
use Rattle.mentions.specs.MentionPromises.{TruthFree}
use Rattle.states.specs.ReadPredicatesPredicateRows.{RowsAt, ContextAt}

-- asked: rows of conjuncts stand between two places
pub record RowsStand (table rows : List ℕ) (from to : ℕ) : Type 0 where
  pub scope : Scope
  pub slots : Slots
  pub conjuncts : List Pred
  pub low : to ≤ 16384
  pub stand : RowsAt table rows scope slots to from conjuncts

-- every row between two places: its conjunct is free of the slot
pub record RowsFree (table rows : List ℕ) (from to slot : ℕ) : Type 0 where
  pub each : (n : ℕ) → from + 8 * n < to → TruthFree table (get_or rows (from + 8 * n + 1) 0) slot

-- a yes says so
pub record RowsSay (table rows : List ℕ) (from to slot : ℕ) (r : Bool) : Type 0 where
  pub means : r ≡ true → RowsFree table rows from to slot

-- each bit that is set: the predicate of the context has no conjunct that depends on the slot
pub record LeftOut (table rows firsts : List ℕ) (context slot count r : ℕ) : Type 0 where
  pub low : (k : ℕ) → has r k ≡ true → k < count
  pub means : (k : ℕ) → has r k ≡ true → RowsFree table rows (get_or firsts context 0) (get_or firsts (context + 1) 0) (slot + k)

-- a context of some dossier stands at this number
pub record ContextStands (table rows firsts : List ℕ) (n : ℕ) : Type 0 where
  pub context : Context
  pub slots : Slots
  pub at : ContextAt table rows firsts n context slots

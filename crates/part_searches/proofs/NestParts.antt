-- What the nests of all parts are made of: the rows that their plans ask, searches without variables and over one group, groups that have no slot in common.
use mathlib.Core.Path.{◌≡◌, refl, ◌∙◌, subst}
use mathlib.Core.Bool.{Bool, true}
use mathlib.Core.Logic.{◌⊎◌, inl, inr}
use mathlib.Core.List.{List, [], ◌++◌}
use mathlib.Core.Option.{some}
use Prim.Native.Nat.{ℕ, ◌+◌, ◌<◌, ◌≤◌}
use native.Mathlib.Omega.{arith}
use lib.ListN.{length, get_elem?}
use Rattle.lexical.specs.Lists.{upward}
use Rattle.form.specs.Tree.{Pred, Operation, Dossier}
use Rattle.static_rules.specs.Carriers.{Variable}
use Rattle.static_rules.specs.Scope.{outputs}
use Rattle.meaning.specs.Bindings.{Among}
use Rattle.meaning.proofs.Members.{among-append}
use Rattle.meaning.proofs.Places.{entry-below}
use Rattle.meaning.proofs.UpwardNumbers.{among-upward}
use Rattle.readings.specs.TablePlacesResolvedTable.{Slots}
use Rattle.readings.specs.ReadPredicatesPredicateRows.{TestsOf}
use Rattle.readings.proofs.ReadPredicatesCountedRows.{rows-many, rows-low}
use Rattle.states.proofs.StateLaws.{ContextOf, abstract-context, concrete-context, ainit-context, cinit-context, retrieve-context}
use Rattle.states.proofs.StepLaws.{abstract-operation, concrete-operation}
use Rattle.part_tests.specs.PointsPoints.{Point, Tame, Apart, no_slots}
use Rattle.part_tests.specs.PointsSearches.{SearchOf}
use Rattle.part_tests.specs.PlansPlanPromises.{SlotsIn, RowsOf, CommonRows, OperationRows, LevelsIn}
use Rattle.part_tests.specs.PlansPlansByNumber.{no_asking}
use Rattle.part_searches.proofs.AskingKinds.{Anywhere}
use Rattle.part_searches.proofs.SearchPlans.{Searched, none-asked, search_of}
use Rattle.part_searches.proofs.SlotGroups.{Filled, searched}

-- ---- rows

rows_of : {table rows firsts : List ℕ} {d : Dossier} {m : ℕ} {p : Pred} {vs : List Variable} {W : Slots} → TestsOf table rows firsts d → ContextOf d m p vs W → RowsOf rows firsts m
rows_of {m = m} {W = W} t c =
    let k = t.tests m c.context W c.is c.slots_are in
    record { many = length k.conjuncts; inside = k.inside; is = rows-many k.stand; low = k.low; ends = λ i h. rows-low k.stand i h }

pub common-rows : {table rows firsts : List ℕ} {d : Dossier} → TestsOf table rows firsts d → CommonRows rows firsts
common-rows {d = d} t = record {
  abstractly = rows_of t (abstract-context d);
  concretely = rows_of t (concrete-context d);
  ainit = rows_of t (ainit-context d);
  cinit = rows_of t (cinit-context d);
  retrieve = rows_of t (retrieve-context d);
}

pub operation-rows : {table rows firsts : List ℕ} {d : Dossier} {op : Operation} {j : ℕ} → TestsOf table rows firsts d → get_elem? d.operations j ≡ some op
    → length d.operations ≤ 16 → length (outputs d op) ≤ 3 → OperationRows rows firsts j (length (outputs d op))
operation-rows {d = d} {op = op} {j = j} t e h k =
    let l = entry-below op d.operations j e in
    record {
      common = common-rows t;
      few = omega arith;
      few_outputs = k;
      abstractly = rows_of t (abstract-operation d j op e);
      concretely = rows_of t (concrete-operation d j op e);
    }

-- ---- searches

-- the same predicate by another name
abbrev pub search_same : {table plan cells : List ℕ} {u : ℕ} {ss : List ℕ} {P Q : Point → Bool} → SearchOf table plan cells u ss P → ((δ : Point) → Tame cells δ → P δ ≡ Q δ)
    → SearchOf table plan cells u ss Q
search_same s e = record { tests = s.tests; planned = s.planned; distinct = s.distinct; whole = λ δ t. s.whole δ t ∙ e δ t }

no_variables : {plan cells : List ℕ} {u : ℕ} → u < 5 → Searched plan cells u []
no_variables h = record {
  search_low = h;
  few = omega arith;
  slots = λ i l. let z : ⊥ = omega arith in absurd z;
  slot_low = λ i l. let z : ⊥ = omega arith in absurd z;
  readable = λ i l. let z : ⊥ = omega arith in absurd z;
  some = λ i l. let z : ⊥ = omega arith in absurd z;
  distinct = no_slots;
}

-- a search without variables and tests
pub nothing-searched : {table rows plan cells : List ℕ} {u : ℕ} → LevelsIn rows plan u no_asking no_asking no_asking → u < 5 → SearchOf table plan cells u [] (λ (δ : Point). true)
nothing-searched k h = search_of {see = Anywhere} none-asked none-asked none-asked k (no_variables h)

one-group : (a t v : ℕ) → upward a 0 ++ upward t v ≡ upward t v
unfolding upward
one-group a t v = refl

pub one-searched : {plan cells : List ℕ} {u t : ℕ} (v : ℕ) → u < 5 → SlotsIn plan u t 0 t → v ≤ 8 → t + v ≤ 38 → ((i : ℕ) → i < v → Filled cells (t + i))
    → Searched plan cells u (upward t v)
one-searched {plan} {cells} {u} {t} v h s l k f =
    subst (λ (ss : List ℕ). Searched plan cells u ss) (one-group t t v)
    (searched plan cells u t 0 t v h s (omega arith) l (omega arith) k (inr refl) (λ i j. let z : ⊥ = omega arith in absurd z) f)

-- ---- groups that have no slot in common

-- no slot of a list is one of the n from a on
pub record Outside (a n : ℕ) (ts : List ℕ) : Type 0 where
  pub none : (s : ℕ) → Among s ts → a ≤ s → s < a + n → ⊥

pub outside-run : {a n : ℕ} (k m : ℕ) → ((s : ℕ) → k ≤ s → s < k + m → a ≤ s → s < a + n → ⊥) → Outside a n (upward k m)
outside-run k m f = record { none = λ s h. let l = among-upward k m s h in f s l.0 l.1 }

pub outside-append : {a n : ℕ} {us vs : List ℕ} → Outside a n us → Outside a n vs → Outside a n (us ++ vs)
outside-append {a} {n} {us} {vs} f g = record { none = λ s m. go s (among-append s us vs m) }
  where
    go : (s : ℕ) → Among s us ⊎ Among s vs → a ≤ s → s < a + n → ⊥
    go s (inl h) = f.none s h
    go s (inr h) = g.none s h

pub run-apart : {a n : ℕ} {ts : List ℕ} → Outside a n ts → Apart (upward a n) ts
run-apart {a} {n} f = record { none = λ s h k. let l = among-upward a n s h in f.none s k l.0 l.1 }

pub none_apart : {ts : List ℕ} → Apart [] ts
unfolding Among
none_apart = record { none = λ s m. absurd m }

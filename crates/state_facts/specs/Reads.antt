-- Facts of a dossier whose reading the arrays are: what is asked, and what a search among the numbers of bindings promises. Nothing here need be believed.
use Rattle.std.specs.Prelude.{◌≡◌, Bool, ◌&&◌, not, Option, List, ℕ, length, count_by}
use Rattle.std.specs.List.{range_with_len}
use Rattle.lexical.specs.Lists.{any}
use Rattle.form.specs.Tree.{Dossier}
use Rattle.static_rules.specs.Scope.{unprimed}
use Rattle.meaning.specs.Meaning.{Binding}
use Rattle.meaning.specs.Operations.{abstract_bindings, concrete_bindings, is_state, abstract_initial, related}
use Rattle.states.specs.ReadPredicatesPredicateRows.{TestsOf}
use Rattle.part_places.specs.ReadingsReadings.{ReadingOf}
use Rattle.plans.specs.declared.Part.{Part}
use Rattle.part_places.specs.PartTestsPartsByNumber.{abstract_at, concrete_at}
pub use Rattle.step_searches.specs.StepPromises.{ReadAsked}
use Rattle.step_searches.specs.StepPromises.{First}
use Rattle.state_facts.specs.Placings.{StatesAre}

-- ---- the tests, by numbers of bindings

abbrev pub abstract_count : Dossier → ℕ
abstract_count d = length (abstract_bindings d)

abbrev pub concrete_count : Dossier → ℕ
concrete_count d = length (concrete_bindings d)

abbrev pub abstract_initial_at : Dossier → ℕ → Bool
abstract_initial_at d a = abstract_initial d (abstract_at d a)

abbrev pub abstract_state_at : Dossier → ℕ → Bool
abstract_state_at d a = is_state d d.abstract (abstract_at d a)

abbrev pub concrete_state_at : Dossier → ℕ → Bool
concrete_state_at d c = is_state d d.concrete (concrete_at d c)

abbrev pub related_at : Dossier → (a c : ℕ) → Bool
related_at d a c = related d (abstract_at d a) (concrete_at d c)

-- a binding that no binding of the other side is related to; a state of which that is so
abbrev pub unrelated_concrete : Dossier → ℕ → Bool
unrelated_concrete d c = not (any (λ (a : Binding). related d a (concrete_at d c)) (abstract_bindings d))

abbrev pub unrelated_abstract : Dossier → ℕ → Bool
unrelated_abstract d a = not (any (λ (c : Binding). related d (abstract_at d a) c) (concrete_bindings d))

abbrev pub lonely_concrete : Dossier → ℕ → Bool
lonely_concrete d c = concrete_state_at d c && unrelated_concrete d c

abbrev pub lonely_abstract : Dossier → ℕ → Bool
lonely_abstract d a = abstract_state_at d a && unrelated_abstract d a

-- ---- promised

-- of every dossier whose reading the arrays are: f is the test, n how many bindings there are
pub record Next (table rows firsts groups : List ℕ) (operations : ℕ) (f : Dossier → ℕ → Bool) (n : Dossier → ℕ) (from : ℕ) (r : Option ℕ) : Type 0 where
  pub first : (d : Dossier) → ReadingOf table rows firsts groups d → operations ≡ length d.operations → First (f d) from (n d) r

-- r is how many numbers of bindings pass the test
pub record Counted (table rows firsts groups : List ℕ) (operations : ℕ) (f : Dossier → ℕ → Bool) (n : Dossier → ℕ) (r : ℕ) : Type 0 where
  pub count : (d : Dossier) → ReadingOf table rows firsts groups d → operations ≡ length d.operations → r ≡ count_by (f d) (range_with_len 0 (n d))

-- ---- over the cells of both states

pub record StatesRead (table rows firsts cells : List ℕ) (p : Part) (d : Dossier) : Type 0 where
  pub tests : TestsOf table rows firsts d
  pub are : StatesAre cells p (unprimed d d.abstract) (unprimed d d.concrete)

pub record SearchAsked (table rows firsts cells : List ℕ) (p : Part) : Type 0 where
  pub dossier : Dossier
  pub read : StatesRead table rows firsts cells p dossier

-- the answer of a test at a number, and of one at two of them
pub record TestIs (table rows firsts cells : List ℕ) (p : Part) (f : Dossier → ℕ → Bool) (k : ℕ) (r : Bool) : Type 0 where
  pub means : (d : Dossier) → StatesRead table rows firsts cells p d → r ≡ f d k

pub record PairIs (table rows firsts cells : List ℕ) (p : Part) (f : Dossier → (a c : ℕ) → Bool) (a c : ℕ) (r : Bool) : Type 0 where
  pub means : (d : Dossier) → StatesRead table rows firsts cells p d → r ≡ f d a c

-- Searches among the numbers of bindings: what the tests ask and answer where two bindings stand in the slots, and the steps of a search. Assumes nothing.
use mathlib.Core.Path.{◌≡◌, refl, sym, subst, ◌∙◌}
use mathlib.Core.Bool.{Bool}
use mathlib.Core.List.{List}
use Prim.Native.Nat.{ℕ, ◌<◌}
use native.Mathlib.Omega.{arith}
use Rattle.std.specs.Prelude.{Option, count_by}
use Rattle.std.specs.List.{filter, range_with_len}
use Rattle.std.proofs.lemmas.List.Sums.{length-filter}
use lib.ListN.{length}
use Rattle.form.specs.Tree.{Dossier}
use Rattle.static_rules.specs.Scope.{unprimed}
use Rattle.meaning.specs.Bindings.{bindings}
use Rattle.meaning.specs.Operations.{abstract_bindings, concrete_bindings, is_state}
use Rattle.evaluation.specs.EvaluationByNumber.{Values}
use Rattle.states.specs.Promises.{ContextAsked, ContextAnswers, AbstractIn, ConcreteIn, AbstractInitialAsked, AbstractInitialAnswers, RelatedAsked, RelatedAnswers}
use Rattle.states.proofs.StateLaws.{abstract-context, asked-at, answer_at}
use Rattle.part_places.specs.ReadingsReadings.{ReadingOf}
use Rattle.plans.specs.declared.Part.{Part}
use Rattle.part_places.specs.PartTestsPartsByNumber.{abstract_at, concrete_at}
use Rattle.part_places.specs.Places.{PartAsked, PartSet}
use Rattle.part_places.proofs.ReadingGroups.{reading-groups}
use Rattle.state_facts.specs.Placings.{StatesSized, PairBound}
use Rattle.step_searches.specs.StepPromises.{ReadAsked}
use Rattle.step_searches.proofs.ConcreteStates.{placed_at}
use Rattle.step_searches.proofs.PartSizes.{abstract-count, concrete-count}
use Rattle.state_facts.specs.Reads.{abstract_count, concrete_count, abstract_initial_at, abstract_state_at, concrete_state_at, related_at}
use Rattle.state_facts.specs.Reads.{Next, Counted, StatesRead, SearchAsked, TestIs, PairIs}
use Rattle.step_searches.specs.StepPromises.{First, ConcreteStates, StateAnswers}
use Rattle.state_facts.proofs.ShownLaws.{opening-states}

-- ---- a binding in its slots

module _ {table rows firsts cells : List ℕ} {p : Part} {a c : ℕ} {σ : Values} (B : PairBound cells p a c σ) (e : length σ ≡ 64) where
  module _ (d : Dossier) (R : StatesRead table rows firsts cells p d) where
    pub abstract_in : a < p.meeting.bindings → AbstractIn d (abstract_at d a) σ
    unfolding abstract_bindings
    abstract_in l =
        placed_at (unprimed d d.abstract) a 0 σ (subst (λ (n : ℕ). a < n) R.are.abstracts.count l)
        (B.abstracts (unprimed d d.abstract) (unprimed d d.concrete) R.are) e

    pub concrete_in : c < p.concretes.bindings → ConcreteIn d (concrete_at d c) σ
    unfolding concrete_bindings
    concrete_in l =
        placed_at (unprimed d d.concrete) c 8 σ (subst (λ (n : ℕ). c < n) R.are.concretes.count l)
        (B.concretes (unprimed d d.abstract) (unprimed d d.concrete) R.are) e

  -- ---- the tests

  module _ (A : SearchAsked table rows firsts cells p) where
    pub initial-asked : a < p.meeting.bindings → AbstractInitialAsked table rows firsts σ
    initial-asked l = record { dossier = A.dossier; state = abstract_at A.dossier a; tests = A.read.tests; placed = abstract_in A.dossier A.read l }

    pub abstract-asked : a < p.meeting.bindings → ContextAsked table rows firsts 0 σ
    abstract-asked l = asked-at A.read.tests (abstract-context A.dossier) (abstract_in A.dossier A.read l)

    pub related-asked : a < p.meeting.bindings → c < p.concretes.bindings → RelatedAsked table rows firsts σ
    related-asked l m = record {
      dossier = A.dossier;
      abstractly = abstract_at A.dossier a;
      concretely = concrete_at A.dossier c;
      tests = A.read.tests;
      abstract_in = abstract_in A.dossier A.read l;
      concrete_in = concrete_in A.dossier A.read m;
    }

  module _ {r : Bool} where
    pub initial-is : a < p.meeting.bindings → AbstractInitialAnswers table rows firsts σ r → TestIs table rows firsts cells p abstract_initial_at a r
    initial-is l w = record { means = λ d R. w.means d (abstract_at d a) R.tests (abstract_in d R l) }

    pub abstract_is : a < p.meeting.bindings → ContextAnswers table rows firsts 0 σ r → TestIs table rows firsts cells p abstract_state_at a r
    unfolding is_state
    abstract_is l w = record { means = λ d R. answer_at R.tests (abstract-context d) (abstract_in d R l) w }

    pub related-is : a < p.meeting.bindings → c < p.concretes.bindings → RelatedAnswers table rows firsts σ r → PairIs table rows firsts cells p related_at a c r
    related-is l m w = record { means = λ d R. w.means d (abstract_at d a) (concrete_at d c) R.tests (abstract_in d R l) (concrete_in d R m) }

-- of one dossier: what a test says, and how many bindings there are
module _ {table rows firsts cells : List ℕ} {p : Part} {d : Dossier} (R : StatesRead table rows firsts cells p d) where
  pub says : (f : Dossier → ℕ → Bool) (k : ℕ) {r : Bool} → TestIs table rows firsts cells p f k r → f d k ≡ r
  says f k t = sym (t.means d R)

  pub pair-says : (a c : ℕ) {r : Bool} → PairIs table rows firsts cells p related_at a c r → related_at d a c ≡ r
  pair-says a c t = sym (t.means d R)

  pub abstracts : p.meeting.bindings ≡ abstract_count d
  abstracts = R.are.abstracts.count ∙ sym (abstract-count d)

  pub concretes : p.concretes.bindings ≡ concrete_count d
  concretes = R.are.concretes.count ∙ sym (concrete-count d)

-- the cells of the concrete state are those of both states
module _ {table rows firsts cells : List ℕ} {p : Part} where
  pub concretes-read : {d : Dossier} → StatesRead table rows firsts cells p d → ConcreteStates table rows firsts cells p d
  concretes-read R = record {
    tests = R.tests;
    celled = R.are.concretes.each;
    count = sym R.are.concretes.long;
    bindings = R.are.concretes.count;
    few = R.are.concretes.few;
  }

  pub concrete-is : {d : Dossier} → StatesRead table rows firsts cells p d → {c : ℕ} {r : Bool} → StateAnswers table rows firsts cells p c r → r ≡ concrete_state_at d c
  concrete-is {d} R a = a.is d (concretes-read R)

-- the cells are asked for
module _ {table rows firsts cells : List ℕ} {p : Part} (A : SearchAsked table rows firsts cells p) where
  pub both-sized : StatesSized cells p
  both-sized = record { abstractly = unprimed A.dossier A.dossier.abstract; concretely = unprimed A.dossier A.dossier.concrete; are = A.read.are }

-- ---- of a dossier whose reading the arrays are

pub states-read : {table rows firsts groups cells : List ℕ} {p : Part} → PartSet table groups 0 cells p → (d : Dossier) → ReadingOf table rows firsts groups d
    → StatesRead table rows firsts cells p d
states-read P d R = record { tests = R.tests; are = opening-states P d (reading-groups R) refl }

module _ {table rows firsts groups : List ℕ} {operations : ℕ} where
  pub first-part-asked : ReadAsked table rows firsts groups operations → PartAsked table groups 0
  first-part-asked a = record { dossier = a.dossier; groups_are = reading-groups a.reading; inside = omega arith }

  module _ {cells : List ℕ} {p : Part} (P : PartSet table groups 0 cells p) where
    pub search-asked : ReadAsked table rows firsts groups operations → SearchAsked table rows firsts cells p
    search-asked a = record { dossier = a.dossier; read = states-read P a.dossier a.reading }

    pub abstract-next : {f : Dossier → ℕ → Bool} {from : ℕ} {r : Option ℕ} → ((d : Dossier) → StatesRead table rows firsts cells p d → First (f d) from p.meeting.bindings r)
        → Next table rows firsts groups operations f abstract_count from r
    abstract-next {f} {from} {r} w = record {
      first = λ d R m. subst (λ (n : ℕ). First (f d) from n r) (abstracts (states-read P d R)) (w d (states-read P d R));
    }

    pub concrete-next : {f : Dossier → ℕ → Bool} {from : ℕ} {r : Option ℕ} → ((d : Dossier) → StatesRead table rows firsts cells p d → First (f d) from p.concretes.bindings r)
        → Next table rows firsts groups operations f concrete_count from r
    concrete-next {f} {from} {r} w = record {
      first = λ d R m. subst (λ (n : ℕ). First (f d) from n r) (concretes (states-read P d R)) (w d (states-read P d R));
    }

    -- those that a filter keeps are counted
    pub concrete-counted : {r : ℕ} → ((d : Dossier) → StatesRead table rows firsts cells p d → r ≡ length (filter (concrete_state_at d) (range_with_len 0 p.concretes.bindings)))
        → Counted table rows firsts groups operations concrete_state_at concrete_count r
    concrete-counted {r} w = record {
      count = λ d R m. subst (λ (n : ℕ). r ≡ count_by (concrete_state_at d) (range_with_len 0 n)) (concretes (states-read P d R))
          (w d (states-read P d R) ∙ length-filter (concrete_state_at d) (range_with_len 0 p.concretes.bindings));
    }

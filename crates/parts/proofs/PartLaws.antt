-- One part: its sizes fit, it is passed over or gone through, and what its places come to is what the checks of a dossier come to. Assumes nothing.
use Rattle.std.specs.Prelude.{Option, None, is_some}
use mathlib.Core.Path.{◌≡◌, refl, sym, ◌∙◌, subst}
use mathlib.Core.Bool.{Bool}
use mathlib.Core.List.{List}
use Prim.Native.Nat.{ℕ, ◌+◌, ◌<◌, ◌≤◌, min}
use native.Mathlib.Omega.{arith}
use lib.IntN.{ℤ}
use Rattle.obligations.specs.Subjects.{subject_of}
use Rattle.plans.specs.declared.Part.{Part}
use Rattle.nest.specs.NestStepsPartTests.{places, passing, stopped_at, Looked}
use Rattle.nest.specs.NestStepsNestPromises.{NestAsked}
use Rattle.nest.specs.SweepPromises.{SweepAnswers}
use Rattle.part_setup.specs.SetupPromises.{FewPlaces, Filled}
use Rattle.part_setup.specs.PartTestsPartOrder.{part_size, part_begin}
use Rattle.part_setup.proofs.PartTestsLookedChecks.{passes_place}
use Rattle.parts.specs.SearchPromises.{PartAsked, PartAnswers, PartReady, LookAsked, LookAnswers}

module _ {table plan cells : List ℕ} {p : Part} where
  pub few-places : PartAsked table plan cells p → FewPlaces p
  few-places a =
      let z = a.nest.sized in
      record { few_a = z.abstracts.few; few_c = z.concretes.few; few_i = z.inputs.few; few_q = z.outputs.few; few_k = z.primes.few }

  pub nest-asked : {before : List (List ℤ)} → PartAsked table plan cells p → Filled cells before → NestAsked table plan cells p before
  nest-asked a f = record { groups = a.groups; tests = a.tests; point = λ s. 0; nest = a.nest; shows = f.shows }

  module _ {size : ℕ} (e : size ≡ places p) where
    -- a part that ends before the places asked for
    pub part-passed : {from end : ℕ} → size ≤ from → PartAnswers table plan cells p from end size None
    part-passed h = record { size_is = e; past = λ l. refl; looked = λ l G T n. absurd (omega arith) }

    -- one that does not
    pub part-swept : {from end to : ℕ} {failing : Option ℕ} → from < size → to ≡ min end size → SweepAnswers table plan cells p from to failing
        → PartAnswers table plan cells p from end size failing
    part-swept {from} {end} {to} {failing} h m w = record {
      size_is = e;
      past = λ l. absurd (omega arith);
      looked = λ l G T n. subst (λ (x : ℕ). Looked (passing p T) from x (stopped_at x failing) (is_some failing)) m (w.looked G T n);
    }

-- tests that agree at all places up to the end
looked-same : (f g : ℕ → Bool) (from end at : ℕ) (failed : Bool) → ((q : ℕ) → q < end → f q ≡ g q) → Looked f from end at failed → Looked g from end at failed
looked-same f g from end at failed same w = record {
  low = w.low;
  high = w.high;
  past = λ j low high. sym (same j (omega (arith, w.high))) ∙ w.past j low high;
  whole = w.whole;
  fault = λ e. ((w.fault e).0, sym (same at (w.fault e).0) ∙ (w.fault e).1);
}

module _ {table rows firsts groups plan cells : List ℕ} {p : Part} {k : ℕ} where
  pub ready-asked : PartReady table rows firsts groups k plan cells p → LookAsked table rows firsts groups k → PartAsked table plan cells p
  ready-asked r a =
      let x = r.is_part a.dossier a.reading a.part in
      record { groups = x.groups; tests = x.tests; nest = x.nest; first_values = r.first_values }

  pub part-answers : {from end size : ℕ} {failing : Option ℕ}
      → PartReady table rows firsts groups k plan cells p → PartAnswers table plan cells p from end size failing → LookAnswers table rows firsts groups k from end size failing
  part-answers {from} {end} {size} {failing} r w = record {
    size_is = λ d R h. w.size_is ∙ (r.is_part d R h).many;
    past = w.past;
    looked = λ d R h l.
        let y = r.is_part d R h in
        let e : size ≡ part_size d k = w.size_is ∙ y.many in
        looked-same (passing p y.tests) (λ (q : ℕ). passes_place (subject_of d) (part_begin d k + q)) from (min end size) (stopped_at (min end size) failing) (is_some failing)
        (λ q m. y.same q (omega arith)) (w.looked (omega arith) y.groups y.tests y.nest);
  }

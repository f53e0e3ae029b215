-- From the reading of some dossier to the searches of its operation, and from what these find back to every dossier whose reading it is. Assumes nothing.
use mathlib.Core.Path.{◌≡◌, refl, subst, ◌∙◌}
use mathlib.Core.Bool.{Bool}
use mathlib.Core.List.{List}
use mathlib.Core.Option.{some}
use Prim.Native.Nat.{ℕ, ◌*◌, ◌/◌, ◌%◌, ◌<◌, ◌≤◌}
use native.Mathlib.Omega.{arith}
use Rattle.std.specs.Prelude.{Option, Some, None, Ok, Err, IfSome, unwrap_or}
use lib.ListN.{length, get_elem?}
use Rattle.form.specs.Tree.{Operation, Dossier}
use Rattle.meaning.proofs.Places.{entry-below, below-entry}
use Rattle.points.specs.Searches.{Sought}
use Rattle.plans.specs.declared.Part.{Part}
use Rattle.state_facts.specs.ReadingsReadings.{ReadingOf}
use Rattle.state_facts.specs.PartTestsPartsByNumber.{abstract_at, output_at, abstractly, initial, initial_match}
use Rattle.step_searches.specs.StepPromises.{StepSearches, StepsAsked, Prepared, First, AbstractStepFound}
use Rattle.step_searches.specs.StepPromises.{OpeningAsked, OpenAsked, Opened, InitialStateFound, InitialMatchFound}
use Rattle.step_searches.proofs.PartSizes.{na-is, nc-is, ni-is, nq-is, opening-nm-is, opening-nc-is}
use Rattle.step_searches.proofs.FoundSteps as steps
use Rattle.step_searches.proofs.FoundOpenings as openings
use Rattle.state_facts.specs.Reads.{ReadAsked, abstract_count, concrete_count}
use Rattle.step_facts.specs.FactPromises.{ForOperation, output_count}
use Rattle.step_facts.specs.FactPromises.{SpansAre, InRange, AbstractStepIs, BeginIs}
use Rattle.step_facts.specs.declared.StepFault.TheVariants.{Beyond}
use Rattle.step_facts.specs.declared.runs.Beginning.TheVariants.{Both, Concrete, Nowhere}

pub sizes-of : {table plan cells : List ℕ} {p : Part} → StepsAsked table plan cells p
    → ((0 < p.abstracts.bindings) × (p.abstracts.bindings ≤ 4096)) × ((0 < p.concretes.bindings) × (p.concretes.bindings ≤ 4096)) × ((0 < p.inputs.bindings) × (p.inputs.bindings ≤ 64)) × ((0 < p.outputs.bindings) × (p.outputs.bindings ≤ 64))
sizes-of q = steps.sizes q.searches

-- j is none of the dossier's operations
pub unlisted : {operations j : ℕ} (d : Dossier) {op : Operation} → operations ≤ j → operations ≡ length d.operations → get_elem? d.operations j ≡ some op → ⊥
unlisted {j = j} d {op} h m e = let l = entry-below op d.operations j e in omega arith

module _ {table rows firsts groups : List ℕ} {operations j : ℕ} where
  module _ {plan cells : List ℕ} {p : Part} where
    pub steps-asked : ReadAsked table rows firsts groups operations → j < operations → Prepared table rows firsts groups j plan cells p → StepsAsked table plan cells p
    steps-asked q h w =
        let t : (op : Operation) × (get_elem? q.dossier.operations j ≡ some op) = below-entry q.dossier.operations j (omega (arith, q.many)) in
        record { dossier = q.dossier; operation = t.0; searches = w.searches q.dossier t.0 q.reading t.1 }

-- ---- the first number that passes

-- a search that went to a number, or to the end where it found none
pub first-of : {f : ℕ → Bool} {from end : ℕ} (r : Option ℕ) → IfSome r (λ (k : ℕ). k < end) → Sought f from end (unwrap_or r end) → First f from end r
first-of None l s = s.past
first-of (Some k) l s = (s.low, l, s.found l, s.past)

-- ---- a step of the abstract operation

-- with n bindings of the abstract state
abbrev step_by : (d : Dossier) (op : Operation) (a i n x : ℕ) → Bool
step_by d op a i n x = abstractly d op a i (output_at d op (x / n)) (abstract_at d (x % n))

module _ {table rows firsts groups : List ℕ} {operations j a i from : ℕ} where
  -- nothing is in range
  no_step : ForOperation table rows firsts groups operations j (λ (d : Dossier) (op : Operation). InRange d op a i from → ⊥)
      → AbstractStepIs table rows firsts groups operations j a i from (Err Beyond)
  no_step n = record { first = λ d op R m e h. absurd (n d op R m e h); beyond = λ d op R m e h. refl; outside = λ h. refl }

  pub step-unlisted : operations ≤ j → AbstractStepIs table rows firsts groups operations j a i from (Err Beyond)
  step-unlisted h = no_step (λ d op R m e r. unlisted d h m e)

  module _ {plan cells : List ℕ} {p : Part} (w : Prepared table rows firsts groups j plan cells p) where
    pub state-beyond : p.abstracts.bindings ≤ a → AbstractStepIs table rows firsts groups operations j a i from (Err Beyond)
    state-beyond h = no_step (λ d op R m e r. none r.state (na-is (w.searches d op R e)))
      where
        none : {n : ℕ} → a < n → p.abstracts.bindings ≡ n → ⊥
        none l q = omega arith

    pub input-beyond : p.inputs.bindings ≤ i → AbstractStepIs table rows firsts groups operations j a i from (Err Beyond)
    input-beyond h = no_step (λ d op R m e r. none r.input (ni-is (w.searches d op R e)))
      where
        none : {n : ℕ} → i < n → p.inputs.bindings ≡ n → ⊥
        none l q = omega arith

    pub start-beyond : p.readying.bindings < from → AbstractStepIs table rows firsts groups operations j a i from (Err Beyond)
    start-beyond h = no_step (λ d op R m e r. let x = w.searches d op R e in none r.start (steps.steps-end x ∙ (λ t. nq-is x t * na-is x t)))
      where
        none : {n : ℕ} → from ≤ n → p.readying.bindings ≡ n → ⊥
        none l q = omega arith

    pub step-found : (r : Option ℕ) → j < operations → a < p.abstracts.bindings → i < p.inputs.bindings → from ≤ p.readying.bindings → IfSome r (λ (k : ℕ). k < p.outputs.bindings * p.abstracts.bindings)
        → AbstractStepFound table plan cells p a i from (unwrap_or r (p.outputs.bindings * p.abstracts.bindings)) → AbstractStepIs table rows firsts groups operations j a i from (Ok r)
    step-found r h la li lf low s =
        record {
          first = λ d op R m e q. (found d op (w.searches d op R e), tt);
          beyond = λ d op R m e n. absurd (n (ranged d op (w.searches d op R e)));
          outside = λ l. absurd (over l);
        }
      where
        over : operations ≤ j → ⊥
        over l = omega arith

        ranged : (d : Dossier) (op : Operation) → StepSearches table plan cells p d op → InRange d op a i from
        ranged d op x =
            record {
              state = subst (λ (n : ℕ). a < n) (na-is x) la;
              input = subst (λ (n : ℕ). i < n) (ni-is x) li;
              start = subst (λ (n : ℕ). from ≤ n) (steps.steps-end x ∙ (λ t. nq-is x t * na-is x t)) lf;
            }

        found : (d : Dossier) (op : Operation) → StepSearches table plan cells p d op
            → First (step_by d op a i (abstract_count d)) from (output_count d op * abstract_count d) r
        found d op x =
            subst (λ (n : ℕ). First (step_by d op a i (abstract_count d)) from (n * abstract_count d) r) (nq-is x)
            (subst (λ (n : ℕ). First (step_by d op a i n) from (p.outputs.bindings * n) r) (na-is x) (first-of r low (s.sought d op x)))

-- ---- how many bindings there are

module _ {table rows firsts groups : List ℕ} {operations j : ℕ} where
  -- of an operation, by the sizes of its part
  pub operation-spans : {plan cells : List ℕ} {p : Part} → ReadAsked table rows firsts groups operations → Prepared table rows firsts groups j plan cells p → j < operations
      → SpansAre table rows firsts groups operations j (record { na = p.abstracts.bindings; nc = p.concretes.bindings; ni = p.inputs.bindings; nq = p.outputs.bindings })
  operation-spans {plan} {cells} {p} q w h =
      record {
        states = λ d R m. (let t : (op : Operation) × (get_elem? d.operations j ≡ some op) = below-entry d.operations j (omega arith) in
            let x = w.searches d t.0 R t.1 in
            (na-is x, nc-is x));
        parameters = λ d op R m e. (ni-is (w.searches d op R e), nq-is (w.searches d op R e));
        outside = λ l. absurd (over l);
        some = (z.0.0, z.1.0, z.2.0, z.3.0);
      }
    where
      over : operations ≤ j → ⊥
      over l = omega arith

      z : ((0 < p.abstracts.bindings) × (p.abstracts.bindings ≤ 4096)) × ((0 < p.concretes.bindings) × (p.concretes.bindings ≤ 4096)) × ((0 < p.inputs.bindings) × (p.inputs.bindings ≤ 64)) × ((0 < p.outputs.bindings) × (p.outputs.bindings ≤ 64))
      z = sizes-of (steps-asked q h w)

module _ {table rows firsts groups : List ℕ} {operations : ℕ} where
  pub open-asked : ReadAsked table rows firsts groups operations → OpenAsked table rows firsts groups
  open-asked q = record { dossier = q.dossier; reading = q.reading }

  module _ {plan cells : List ℕ} {p : Part} (q : ReadAsked table rows firsts groups operations) (w : Opened table rows firsts groups plan cells p) where
    pub opening-asked : OpeningAsked table plan cells p
    opening-asked = record { dossier = q.dossier; searches = w.searches q.dossier q.reading }

    -- of both states alone
    pub opening-spans : {j : ℕ} → operations ≤ j → SpansAre table rows firsts groups operations j (record { na = p.meeting.bindings; nc = p.concretes.bindings; ni = 1; nq = 1 })
    opening-spans {j} h =
        let z = openings.sizes opening-asked.searches in
        record {
          states = λ d R m. (opening-nm-is (w.searches d R), opening-nc-is (w.searches d R));
          parameters = λ d op R m e. absurd (unlisted d h m e);
          outside = λ l. (refl, refl);
          some = (z.1.0, z.0.0, omega arith, omega arith);
        }

    -- ---- a beginning

    -- where there is no concrete initial state, or no abstract one for the first
    pub no_beginning : {c : ℕ} → InitialStateFound table plan cells p 0 c → p.concretes.bindings ≤ c → BeginIs table rows firsts groups operations Nowhere
    no_beginning {c} s h = record {
      is = λ d R m k l. (s.sought d (w.searches d R)).past k (omega arith) (below (opening-nc-is (w.searches d R)) l);
    }
      where
        below : {n k : ℕ} → p.concretes.bindings ≡ n → k < n → k < c
        below e l = omega arith

    module _ {c : ℕ} (s : InitialStateFound table plan cells p 0 c) (h : c < p.concretes.bindings) where
      starts : (d : Dossier) → ReadingOf table rows firsts groups d → Sought (initial d) 0 (concrete_count d) c
      starts d R = subst (λ (n : ℕ). Sought (initial d) 0 n c) (opening-nc-is (w.searches d R)) (s.sought d (w.searches d R))

      met : {a : ℕ} → InitialMatchFound table plan cells p c 0 a → (d : Dossier) → ReadingOf table rows firsts groups d
          → Sought (λ (x : ℕ). initial_match d c (abstract_at d x)) 0 (abstract_count d) a
      met {a} u d R =
          subst (λ (n : ℕ). Sought (λ (x : ℕ). initial_match d c (abstract_at d x)) 0 n a) (opening-nm-is (w.searches d R)) (u.sought d (w.searches d R))

      pub unmatched-beginning : {a : ℕ} → InitialMatchFound table plan cells p c 0 a → p.meeting.bindings ≤ a → BeginIs table rows firsts groups operations (Concrete c)
      unmatched-beginning {a} u g = record {
        is = λ d R m. record {
          first = starts d R;
          inside = subst (λ (n : ℕ). c < n) (opening-nc-is (w.searches d R)) h;
          alone = λ x b. (met u d R).past x (omega arith) (omega (arith, opening-nm-is (w.searches d R)));
        };
      }

      pub beginning : {a : ℕ} → InitialMatchFound table plan cells p c 0 a → a < p.meeting.bindings → BeginIs table rows firsts groups operations (Both (record { a = a; c = c }))
      beginning {a} u g = record {
        is = λ d R m. record {
          first = starts d R;
          matched = met u d R;
          both = (subst (λ (n : ℕ). c < n) (opening-nc-is (w.searches d R)) h, subst (λ (n : ℕ). a < n) (opening-nm-is (w.searches d R)) g);
        };
      }

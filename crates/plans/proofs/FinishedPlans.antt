-- The five searches of each kind of plan, made one behind the other, are the plan that is promised, for the rows of the contexts whatever their number. Assumes nothing.
use mathlib.Core.Path.{refl}
use mathlib.Core.List.{List}
use Prim.Native.Nat.{ℕ, ◌+◌, ◌*◌, ◌≤◌}
use native.Mathlib.Omega.{arith}
use Rattle.plans.specs.PlansByNumber.{no_asking}
use Rattle.plans.specs.PlanPromises.{SlotsIn, InitialisationPlan, PremisesPlan, StepsPlan, ApplicabilityPlan, CorrectnessPlan}
use Rattle.plans.specs.PlanWriting.{Laid, Onward, Laying, Searched, over_by, after_by, step_by, Premises}
use Rattle.plans.proofs.LaidSearches.{over-is, after_is, step_is, onward-both, slots_kept, laid_kept, levels-by}

-- ---- initialisation

module _ (rows firsts : List ℕ) {k₀ k₁ k₂ k₃ k₄ : ℕ} {a b c d e z : List ℕ} (states : Laying rows 0 no_asking no_asking no_asking 80 z a k₀)
    (related : Searched rows 1 8 0 8 (over_by firsts 1 0 3) (over_by firsts 3 0 3) no_asking k₀ a b k₁) (ready : Laying rows 2 no_asking no_asking no_asking k₁ b c k₂)
    (steps : Laying rows 3 no_asking no_asking no_asking k₂ c d k₃)
    (met : Searched rows 4 0 0 0 (over_by firsts 0 0 2) (over_by firsts 2 0 2) (over_by firsts 4 0 2) k₃ d e k₄) where
  from-steps : Onward 3 k₂ c e
  from-steps = onward-both steps.others met.others (omega arith) steps.onward

  from-ready : Onward 2 k₁ b e
  from-ready = onward-both ready.others from-steps (omega arith) ready.onward

  from-related : Onward 1 k₀ a e
  from-related = onward-both related.others from-ready (omega arith) related.onward

  pub initialisation-plan : InitialisationPlan rows firsts e
  initialisation-plan =
      record {
        states = (laid_kept (omega arith) from-related (omega arith) states.laid k₀ (omega arith)).levels;
        related_slots = slots_kept (omega arith) from-ready related.slots;
        related = λ w. levels-by (over-is rows firsts 1 w.concretely 0 3) (over-is rows firsts 3 w.cinit 0 3) refl
            (laid_kept (omega arith) from-ready (omega arith) related.laid k₁ (omega arith));
        ready = (laid_kept (omega arith) from-steps (omega arith) ready.laid k₂ (omega arith)).levels;
        steps = (laid_kept (omega arith) met.others (omega arith) steps.laid k₃ (omega arith)).levels;
        met_slots = met.slots;
        met = λ w. levels-by (over-is rows firsts 0 w.abstractly 0 2) (over-is rows firsts 2 w.ainit 0 2) (over-is rows firsts 4 w.retrieve 0 2) met.laid;
      }

-- ---- the first three searches of an operation

module _ (rows firsts : List ℕ) (j n : ℕ) where
  pub premises-made : {k₀ k₁ k₂ : ℕ} {z a b c : List ℕ} → Searched rows 0 0 0 0 (over_by firsts 0 0 2) no_asking no_asking 80 z a k₀
      → Searched rows 1 8 0 8 (over_by firsts 1 0 3) (over_by firsts 4 0 3) no_asking k₀ a b k₁
      → Searched rows 2 19 n 30 (after_by firsts 0 n 2) (step_by firsts (5 + 2 * j) n 7) no_asking k₁ b c k₂ → k₂ ≤ 10320 → Premises rows firsts j n c k₂
  premises-made {k₀} {k₁} {k₂} states related ready low =
      let on = onward-both related.others ready.others (omega arith) related.onward in
      record {
        states_slots = slots_kept (omega arith) on states.slots;
        states = laid_kept (omega arith) on (omega arith) states.laid k₂ (omega (arith, related.onward, ready.onward));
        related_slots = slots_kept (omega arith) ready.others related.slots;
        related = laid_kept (omega arith) ready.others (omega arith) related.laid k₂ (omega (arith, ready.onward));
        ready_slots = ready.slots;
        ready = ready.laid;
        behind = omega (arith, states.onward, related.onward, ready.onward);
        end = low;
      }

  premises-kept : {k v at : ℕ} {old new : List ℕ} → 3 ≤ v → k ≤ at → Onward v at old new → Premises rows firsts j n old k → Premises rows firsts j n new k
  premises-kept {k} h low t s =
      record {
        states_slots = slots_kept (omega arith) t s.states_slots;
        states = laid_kept (omega arith) t low s.states k (omega arith);
        related_slots = slots_kept (omega arith) t s.related_slots;
        related = laid_kept (omega arith) t low s.related k (omega arith);
        ready_slots = slots_kept (omega arith) t s.ready_slots;
        ready = laid_kept (omega arith) t low s.ready k (omega arith);
        behind = s.behind;
        end = s.end;
      }

  premises-plan : {k : ℕ} {plan : List ℕ} → Premises rows firsts j n plan k → PremisesPlan rows firsts plan j n
  premises-plan s =
      record {
        states_slots = s.states_slots;
        states = λ o. levels-by (over-is rows firsts 0 o.common.abstractly 0 2) refl refl s.states;
        related_slots = s.related_slots;
        related = λ o. levels-by (over-is rows firsts 1 o.common.concretely 0 3) (over-is rows firsts 4 o.common.retrieve 0 3) refl s.related;
        ready_slots = s.ready_slots;
        ready = λ o. levels-by (after_is rows firsts 0 o.common.abstractly n 2) (step_is rows firsts (5 + 2 * j) o.abstractly n 7) refl s.ready;
      }

  -- ---- the others

  steps-plan : {u k : ℕ} {plan : List ℕ} → SlotsIn plan u 19 n 22 → Laid rows plan u (after_by firsts 1 n 3) (step_by firsts (5 + 2 * j + 1) n 6) no_asking k
      → StepsPlan rows firsts plan u j n
  steps-plan s v =
      record {
        slots = s;
        levels = λ o. levels-by (after_is rows firsts 1 o.common.concretely n 3) (step_is rows firsts (5 + 2 * j + 1) o.concretely n 6) refl v;
      }

  pub applicability-plan : {k k₁ k₂ : ℕ} {a b c : List ℕ} → Premises rows firsts j n a k → Laying rows 3 no_asking no_asking no_asking k a b k₁
      → Searched rows 4 19 n 22 (after_by firsts 1 n 3) (step_by firsts (5 + 2 * j + 1) n 6) no_asking k₁ b c k₂ → ApplicabilityPlan rows firsts c j n
  applicability-plan {k} {k₁} premises steps met =
      record {
        premises = premises-plan (premises-kept (omega arith) (omega arith) (onward-both steps.others met.others (omega arith) steps.onward) premises);
        steps = (laid_kept (omega arith) met.others (omega arith) steps.laid k₁ (omega arith)).levels;
        met = steps-plan met.slots met.laid;
      }

  pub correctness-plan : {k k₁ k₂ : ℕ} {a b c : List ℕ} → Premises rows firsts j n a k
      → Searched rows 3 19 n 22 (after_by firsts 1 n 3) (step_by firsts (5 + 2 * j + 1) n 6) no_asking k a b k₁
      → Searched rows 4 30 0 30 (over_by firsts 0 1 2) (over_by firsts 4 1 2) (over_by firsts (5 + 2 * j) 0 7) k₁ b c k₂ → CorrectnessPlan rows firsts c j n
  correctness-plan {k} {k₁} premises steps met =
      record {
        premises = premises-plan (premises-kept (omega arith) (omega arith) (onward-both steps.others met.others (omega arith) steps.onward) premises);
        steps = steps-plan (slots_kept (omega arith) met.others steps.slots) (laid_kept (omega arith) met.others (omega arith) steps.laid k₁ (omega arith));
        met_slots = met.slots;
        met = λ o.
            levels-by (over-is rows firsts 0 o.common.abstractly 1 2) (over-is rows firsts 4 o.common.retrieve 1 2)
            (over-is rows firsts (5 + 2 * j) o.abstractly 0 7) met.laid;
      }

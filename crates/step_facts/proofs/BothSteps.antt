-- A step of both sides. Assumes nothing.
use mathlib.Core.Path.{◌≡◌, sym, subst, ◌∙◌}
use mathlib.Core.Bool.{Bool, true}
use mathlib.Core.List.{List}
use Prim.Native.Nat.{ℕ, ◌*◌, ◌/◌, ◌%◌, ◌<◌}
use native.Mathlib.Nat.{mod-lt, div-lt_iff_lt-mul}
use Rattle.std.specs.Prelude.{Option, Some, None}
use Rattle.form.specs.Tree.{Operation, Dossier}
use Rattle.plans.specs.declared.Part.{Part}
use Rattle.step_searches.specs.StepPromises.{StepSearches, StepsAsked, Prepared, ConcreteStepFound, MatchFound, Below}
use Rattle.step_facts.specs.declared.runs.BothStep.{BothStep}
use Rattle.step_facts.specs.FactPromises.{AbleIs, StepLow, StepFound, StepWithin, StepIs}
use Rattle.step_searches.proofs.PartSizes.{na-is, nc-is, ni-is, nq-is}
use Rattle.step_facts.proofs.AskedFacts.{sizes-of}

-- outputs and after state as one number
module _ {table plan cells : List ℕ} {p : Part} {r : ℕ} (q : StepsAsked table plan cells p) (h : r < p.outputs.bindings * p.concretes.bindings) where
  first-digit : r / p.concretes.bindings < p.outputs.bindings
  first-digit = (div-lt_iff_lt-mul (sizes-of q).1.0).1 h

  second-digit : r % p.concretes.bindings < p.concretes.bindings
  second-digit = mod-lt r (sizes-of q).1.0

module _ {table plan cells : List ℕ} {p : Part} {a : ℕ} where
  module _ {i r : ℕ} (la : a < p.abstracts.bindings) (li : i < p.inputs.bindings) (q : StepsAsked table plan cells p) (h : r < p.outputs.bindings * p.concretes.bindings) where
    pub below_step : Below p (record { a = a; i = i; o = r / p.concretes.bindings; k = r % p.concretes.bindings })
    below_step = record { a_low = la; i_low = li; o_low = first-digit q h; k_low = second-digit q h }

    pub step-here : {b c : ℕ} {ready : Bool} → AbleIs table plan cells p true a i ready → ready ≡ true → ConcreteStepFound table plan cells p c i 0 r
        → MatchFound table plan cells p a i (r / p.concretes.bindings) (r % p.concretes.bindings) 0 b → b < p.abstracts.bindings
        → StepFound table plan cells p a c (Some (record { i = i; o = r / p.concretes.bindings; k = r % p.concretes.bindings; b = b }))
    step-here {b} y e s m l = record {
      is = record {
        low = record { i_low = li; o_low = first-digit q h; k_low = second-digit q h; b_low = l };
        here = λ d op x. record { ready = sym (y.is d op x) ∙ e; steps = (s.sought d op x).found h; met = (m.sought d op x).found l };
      };
    }

-- ---- of every dossier whose reading the arrays are

module _ {table rows firsts groups : List ℕ} {operations j a c : ℕ} where
  pub step_is : {plan cells : List ℕ} {p : Part} (r : Option BothStep) → Prepared table rows firsts groups j plan cells p → StepFound table plan cells p a c r
      → StepIs table rows firsts groups operations j a c r
  step_is None w u = record { is = tt }
  step_is {plan} {cells} {p} (Some r) w u =
      record { is = λ d op R m e. (within (w.searches d op R e) u.is.low, u.is.here d op (w.searches d op R e)) }
    where
      within : {d : Dossier} {op : Operation} → StepSearches table plan cells p d op → StepLow p r → StepWithin d op r
      within x z = record {
        i_low = subst (λ (n : ℕ). r.i < n) (ni-is x) z.i_low;
        o_low = subst (λ (n : ℕ). r.o < n) (nq-is x) z.o_low;
        k_low = subst (λ (n : ℕ). r.k < n) (nc-is x) z.k_low;
        b_low = subst (λ (n : ℕ). r.b < n) (na-is x) z.b_low;
      }

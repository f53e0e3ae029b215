-- Bindings in their slots: what is written for one group leaves those of the others, and a listed binding in its slots is a binding of its names there. Assumes nothing.
-- Form 8: the laws below have a line for each group. `listed-kept` is what the lines share; left are the group's slots, the groups that are written behind it, and the field that bounds it (`abstracts_short`, `inputs_short`, ..).
use mathlib.Core.Path.{sym, subst, ◌∙◌}
use mathlib.Core.List.{List, []}
use Prim.Native.Nat.{ℕ, ◌≤◌}
use native.Mathlib.Omega.{arith}
use lib.IntN.{ℤ, pos}
use Rattle.meaning.specs.Bindings.{bindings}
use Rattle.carriers.proofs.Bindings.{beyond-empty}
use Rattle.slot_carriers.specs.CellGroups.{Grouped, Counts, Holding, HoldsBinding, Others}
use Rattle.slot_carriers.proofs.GroupBindings.{listed-kept}
use Rattle.plans.specs.declared.Part.{Part}
use Rattle.points.proofs.PointBindings.{variable-counts}
use Rattle.pages.specs.declared.Bindings.{Bindings}
use Rattle.state_facts.specs.Placings.{GroupAsked, GroupBound, StatesSized, PairBound, OthersFrom, StatesBound, ParametersSized, ParametersBound}

-- ---- the slots

holding-empty : (σ : List ℤ) (s : ℕ) → Holding σ s []
unfolding Holding
holding-empty σ s = tt

-- ---- one group

module _ {cells : List ℕ} {s n w : ℕ} where
  pub group-asked : GroupAsked cells s n w → Grouped cells s n
  group-asked a = record { group = a.group; each = a.is.each; long = a.is.long; few = a.is.few }

  pub group-counts : GroupAsked cells s n w → Counts cells s n w
  group-counts a = variable-counts cells s n w a.group a.is.each a.is.long a.is.count

  pub group-bound : {k : ℕ} {σ : List ℤ} → HoldsBinding cells s n k σ → GroupBound cells s n w k σ
  group-bound h = record { holds = λ vs g. h vs g.each g.long }

  pub group-unbound : {k : ℕ} {σ : List ℤ} → w ≤ k → GroupBound cells s n w k σ
  group-unbound {k} {σ} h = record {
    holds = λ vs g. subst (Holding σ s) (sym (beyond-empty vs k (subst (λ (x : ℕ). x ≤ k) g.count h))) (holding-empty σ s);
  }

-- ---- both states

module _ {cells : List ℕ} {p : Part} (z : StatesSized cells p) where
  pub pair-bound : {a c : ℕ} {σ τ : List ℤ} → GroupBound cells 0 p.meeting.variables p.meeting.bindings a σ → GroupBound cells 8 p.concretes.variables p.concretes.bindings c τ → Others (pos 0) σ 8 p.concretes.variables τ
      → PairBound cells p a c τ
  pair-bound {a} {c} {σ} {τ} h k o = record {
    abstracts = λ us cs A. listed-kept us a 0 σ τ (λ i f l. o.below i (omega (arith, A.abstracts_short))) (h.holds us A.abstracts);
    concretes = λ us cs A. k.holds cs A.concretes;
  }

  pub pair-others : {ρ σ τ : List ℤ} → Others (pos 0) ρ 0 p.meeting.variables σ → Others (pos 0) σ 8 p.concretes.variables τ → OthersFrom 16 ρ τ
  pair-others o q = record {
    above = λ i h. q.above i (omega (arith, z.are.concretes.long, z.are.concretes_short)) ∙ o.above i (omega (arith, z.are.abstracts.long, z.are.abstracts_short));
    same_length = q.same_length ∙ o.same_length;
  }

  pub states-bound : {x : Bindings} {ρ σ τ υ : List ℤ} → PairBound cells p x.a x.c σ → OthersFrom 16 ρ σ → GroupBound cells 22 p.concretes.variables p.concretes.bindings x.k τ
      → Others (pos 0) σ 22 p.concretes.variables τ → GroupBound cells 30 p.meeting.variables p.meeting.bindings x.b υ → Others (pos 0) τ 30 p.meeting.variables υ → StatesBound cells p x ρ υ
  states-bound {x} {ρ} {σ} {τ} {υ} h f k o b q = record {
    before = record {
      abstracts = λ us cs A. listed-kept us x.a 0 σ υ (λ i m l. q.below i (omega (arith, A.abstracts_short)) ∙ o.below i (omega (arith, A.abstracts_short))) (h.abstracts us cs A);
      concretes = λ us cs A. listed-kept cs x.c 8 σ υ (λ i m l. q.below i (omega (arith, A.concretes_short)) ∙ o.below i (omega (arith, A.concretes_short))) (h.concretes us cs A);
    };
    concretes_primed = λ us cs A. listed-kept cs x.k 22 τ υ (λ i m l. q.below i (omega (arith, A.concretes_short))) (k.holds cs A.concretes_primed);
    abstracts_primed = λ us cs A. b.holds us A.abstracts_primed;
    same_length = q.same_length ∙ o.same_length ∙ f.same_length;
  }

-- ---- the parameters

module _ {cells : List ℕ} {p : Part} (z : ParametersSized cells p) where
  pub parameters-bound : {x : Bindings} {ρ σ τ : List ℤ} → GroupBound cells 16 p.inputs.variables p.inputs.bindings x.i σ → Others (pos 0) ρ 16 p.inputs.variables σ
      → GroupBound cells 19 p.outputs.variables p.outputs.bindings x.o τ → Others (pos 0) σ 19 p.outputs.variables τ → ParametersBound cells p x ρ τ
  parameters-bound {x} {ρ} {σ} {τ} h o k q = record {
    inputs = λ is os A. listed-kept is x.i 16 σ τ (λ i f l. q.below i (omega (arith, A.inputs_short))) (h.holds is A.inputs);
    outputs = λ is os A. k.holds os A.outputs;
    below = λ i h. q.below i (omega arith) ∙ o.below i h;
    above = λ i h. q.above i (omega (arith, z.are.outputs.long, z.are.outputs_short)) ∙ o.above i (omega (arith, z.are.inputs.long, z.are.inputs_short));
    same_length = q.same_length ∙ o.same_length;
  }

-- what is written for the parameters leaves the states
pub states-kept : {cells : List ℕ} {p : Part} {x : Bindings} {ρ σ τ : List ℤ} → StatesBound cells p x ρ σ → ParametersBound cells p x σ τ → StatesBound cells p x ρ τ
states-kept {x = x} {ρ} {σ} {τ} h q = record {
  before = record {
    abstracts = λ us cs A. listed-kept us x.a 0 σ τ (λ i m l. q.below i (omega (arith, A.abstracts_short))) (h.before.abstracts us cs A);
    concretes = λ us cs A. listed-kept cs x.c 8 σ τ (λ i m l. q.below i (omega (arith, A.concretes_short))) (h.before.concretes us cs A);
  };
  concretes_primed = λ us cs A. listed-kept cs x.k 22 σ τ (λ i m l. q.above i m) (h.concretes_primed us cs A);
  abstracts_primed = λ us cs A. listed-kept us x.b 30 σ τ (λ i m l. q.above i (omega arith)) (h.abstracts_primed us cs A);
  same_length = q.same_length ∙ h.same_length;
}

-- The binding at a place of a part, group by group: each digit is below the bindings of its group, and what a later group writes leaves the earlier ones. Assumes nothing.
-- Form 8: `bound_at` has a line for each of the five groups. `kept-before` is what the lines share; left is how many groups are written behind: four, three, two, one and none.
use mathlib.Core.Path.{sym, subst}
use mathlib.Core.List.{List}
use Prim.Native.Nat.{ℕ, ◌+◌, ◌*◌, ◌/◌, ◌%◌, ◌<◌, ◌≤◌}
use native.Mathlib.Nat.{div-lt_iff_lt-mul}
use native.Mathlib.Omega.{arith}
use lib.IntN.{ℤ, pos}
use Rattle.carriers.proofs.Bindings.{bindings-some}
use Rattle.slot_carriers.specs.CellGroups.{Counts, HoldsBinding, Others}
use Rattle.slot_carriers.proofs.GroupBindings.{listed-kept}
use Rattle.slot_carriers.specs.declared.groups.GroupSize.{GroupSize}
use Rattle.plans.specs.declared.Part.{Part}
use Rattle.points.proofs.PointBindings.{variable-counts}
use Rattle.witnesses.specs.WitnessSteps.{SizedAt, BindAsked, BoundAt}

-- the count of a group's bindings is that of any variables with these cells
pub counts_of : {cells : List ℕ} {s many : ℕ} {g : GroupSize} → SizedAt cells s many g → Counts cells s g.variables g.bindings
counts_of {cells} {s} {g = g} z = variable-counts cells s g.variables g.bindings z.grouped.group z.grouped.each z.grouped.long z.count

-- which can be divided by
pub some-bindings : {cells : List ℕ} {s many : ℕ} {g : GroupSize} → SizedAt cells s many g → 0 < g.bindings
some-bindings z = subst (λ (x : ℕ). 0 < x) (sym z.count) (bindings-some z.grouped.group)

-- ---- the digits

module _ {cells : List ℕ} {p : Part} {at : ℕ} (a : BindAsked cells p at) where
  pub abstracts-low : at / p.primes.bindings / p.outputs.bindings / p.inputs.bindings / p.concretes.bindings < p.abstracts.bindings
  abstracts-low =
      let o : at / p.primes.bindings < p.abstracts.bindings * p.concretes.bindings * p.inputs.bindings * p.outputs.bindings = (div-lt_iff_lt-mul (some-bindings a.sized.primes)).1 a.low in
      let i : at / p.primes.bindings / p.outputs.bindings < p.abstracts.bindings * p.concretes.bindings * p.inputs.bindings = (div-lt_iff_lt-mul (some-bindings a.sized.outputs)).1 o in
      let c : at / p.primes.bindings / p.outputs.bindings / p.inputs.bindings < p.abstracts.bindings * p.concretes.bindings = (div-lt_iff_lt-mul (some-bindings a.sized.inputs)).1 i in
      (div-lt_iff_lt-mul (some-bindings a.sized.concretes)).1 c

-- ---- the slots

-- what is written from the slot t on leaves the k-th binding of a group before it
kept-before : {cells : List ℕ} {s many t m : ℕ} {g : GroupSize} {σ τ : List ℤ} (k : ℕ) → SizedAt cells s many g → s + many ≤ t → HoldsBinding cells s g.variables k σ
    → Others (pos 0) σ t m τ → HoldsBinding cells s g.variables k τ
kept-before {s = s} {σ = σ} {τ = τ} k z far h o vs c e = listed-kept vs k s σ τ (λ i f l. o.below i (omega (arith, z.short))) (h vs c e)

-- all five, one behind the other
module _ {cells : List ℕ} {p : Part} {at : ℕ} {a c i o k : List ℤ} (A : BindAsked cells p at) where
  pub bound_at : HoldsBinding cells 0 p.abstracts.variables (at / p.primes.bindings / p.outputs.bindings / p.inputs.bindings / p.concretes.bindings) a
      → HoldsBinding cells 8 p.concretes.variables (at / p.primes.bindings / p.outputs.bindings / p.inputs.bindings % p.concretes.bindings) c → Others (pos 0) a 8 p.concretes.variables c
      → HoldsBinding cells 16 p.inputs.variables (at / p.primes.bindings / p.outputs.bindings % p.inputs.bindings) i → Others (pos 0) c 16 p.inputs.variables i
      → HoldsBinding cells 19 p.outputs.variables (at / p.primes.bindings % p.outputs.bindings) o → Others (pos 0) i 19 p.outputs.variables o
      → HoldsBinding cells 22 p.primes.variables (at % p.primes.bindings) k → Others (pos 0) o 22 p.primes.variables k → BoundAt cells p at k
  bound_at ha hc oc hi oi ho oo hk ok = record {
    abstracts = kept-before ka z (omega arith) (kept-before ka z (omega arith) (kept-before ka z (omega arith) (kept-before ka z (omega arith) ha oc) oi) oo) ok;
    concretes = kept-before kc y (omega arith) (kept-before kc y (omega arith) (kept-before kc y (omega arith) hc oi) oo) ok;
    inputs = kept-before ki A.sized.inputs (omega arith) (kept-before ki A.sized.inputs (omega arith) hi oo) ok;
    outputs = kept-before (at / p.primes.bindings % p.outputs.bindings) A.sized.outputs (omega arith) ho ok;
    primes = hk;
  }
    where
      z : SizedAt cells 0 8 p.abstracts
      z = A.sized.abstracts

      y : SizedAt cells 8 8 p.concretes
      y = A.sized.concretes

      ka : ℕ
      ka = at / p.primes.bindings / p.outputs.bindings / p.inputs.bindings / p.concretes.bindings

      kc : ℕ
      kc = at / p.primes.bindings / p.outputs.bindings / p.inputs.bindings % p.concretes.bindings

      ki : ℕ
      ki = at / p.primes.bindings / p.outputs.bindings % p.inputs.bindings

-- `bindings::type_count` meets its contract: by the shape of the node. Assumes nothing.
use Prim.Native.Nat.{◌*◌, ℕ, ◌+◌}
use mathlib.Core.Path.{ap₂, refl, ap, ◌∙◌}
use native.Mathlib.Omega.{arith}
use lib.ListN.{get_or}
use Rattle.binding_counts.specs.BindingsByNumber.{cap, size_at}
use Rattle.binding_counts.proofs.CappedCounts.{squares-fit, type-counted, power-counted, count-one, count-two, count-three, count-four, count-five, count-else}
use Rattle.binding_counts.proofs.bindings.type_count.Goals as goal

pub overflow_mul-n : goal.overflow_mul-n
overflow_mul-n c = let w = squares-fit c.size_of-n.result c.size_of-m.result c.size_of-n.ensures.1 c.size_of-m.ensures.1 in omega arith

pub returns-in-1 : goal.returns-in-1
returns-in-1 c = type-counted c.args.t.now 0 c.args.limit.most c.args.g.now.names.now c.args.g.now.sizes.now _ (ap (cap c.args.limit.most) (c.size_of-n.ensures.0 ∙ count-one (get_or c.args.t.now 3 0) (get_or c.args.t.now 1 0) (get_or c.args.t.now 0 0) c.args.g.now.names.now c.args.g.now.sizes.now c.in-1.is))

pub returns-in-2 : goal.returns-in-2
returns-in-2 c = type-counted c.args.t.now 0 c.args.limit.most c.args.g.now.names.now c.args.g.now.sizes.now _ (ap (cap c.args.limit.most) (c.width.ensures ∙ count-two (get_or c.args.t.now 3 0) (get_or c.args.t.now 1 0) (get_or c.args.t.now 0 0) c.args.g.now.names.now c.args.g.now.sizes.now c.in-2.is))

pub returns-in-3 : goal.returns-in-3
returns-in-3 c = type-counted c.args.t.now 0 c.args.limit.most c.args.g.now.names.now c.args.g.now.sizes.now _ (power-counted c.args.limit.most 2 c.size_of-n.result 2 (size_at c.args.g.now.names.now c.args.g.now.sizes.now (get_or c.args.t.now 1 0)) _ _ c.power.ensures refl c.size_of-n.ensures.0 (count-three (get_or c.args.t.now 3 0) (get_or c.args.t.now 1 0) (get_or c.args.t.now 0 0) c.args.g.now.names.now c.args.g.now.sizes.now c.in-3.is))

pub returns-in-4 : goal.returns-in-4
returns-in-4 c = type-counted c.args.t.now 0 c.args.limit.most c.args.g.now.names.now c.args.g.now.sizes.now _ (power-counted c.args.limit.most 2 (c.size_of-n.result * c.size_of-m.result) 2 (size_at c.args.g.now.names.now c.args.g.now.sizes.now (get_or c.args.t.now 1 0) * size_at c.args.g.now.names.now c.args.g.now.sizes.now (get_or c.args.t.now 0 0)) _ _ c.power-in-4.ensures refl (ap₂ ◌*◌ c.size_of-n.ensures.0 c.size_of-m.ensures.0) (count-four (get_or c.args.t.now 3 0) (get_or c.args.t.now 1 0) (get_or c.args.t.now 0 0) c.args.g.now.names.now c.args.g.now.sizes.now c.in-4.is))

pub returns-in-5 : goal.returns-in-5
returns-in-5 c = type-counted c.args.t.now 0 c.args.limit.most c.args.g.now.names.now c.args.g.now.sizes.now _ (power-counted c.args.limit.most (c.size_of-m.result + 1) c.size_of-n.result (size_at c.args.g.now.names.now c.args.g.now.sizes.now (get_or c.args.t.now 0 0) + 1) (size_at c.args.g.now.names.now c.args.g.now.sizes.now (get_or c.args.t.now 1 0)) _ _ c.power-in-5.ensures (ap (λ (k : ℕ). k + 1) c.size_of-m.ensures.0) c.size_of-n.ensures.0 (count-five (get_or c.args.t.now 3 0) (get_or c.args.t.now 1 0) (get_or c.args.t.now 0 0) c.args.g.now.names.now c.args.g.now.sizes.now c.in-5.is))

pub returns-in_default : goal.returns-in_default
returns-in_default c = type-counted c.args.t.now 0 c.args.limit.most c.args.g.now.names.now c.args.g.now.sizes.now _ (power-counted c.args.limit.most c.size_of-m.result c.size_of-n.result (size_at c.args.g.now.names.now c.args.g.now.sizes.now (get_or c.args.t.now 0 0)) (size_at c.args.g.now.names.now c.args.g.now.sizes.now (get_or c.args.t.now 1 0)) _ _ c.power-in_default.ensures c.size_of-m.ensures.0 c.size_of-n.ensures.0 (count-else (get_or c.args.t.now 3 0) (get_or c.args.t.now 1 0) (get_or c.args.t.now 0 0) c.args.g.now.names.now c.args.g.now.sizes.now (λ s. omega arith) (λ s. omega arith) (λ s. omega arith) (λ s. omega arith) (λ s. omega arith)))

-- `bindings::size_of` meets its contract. Assumes nothing.
use Prim.Native.Nat.{ℕ, ◌-◌}
use mathlib.Core.Path.{ap, ◌∙◌}
use Rattle.type_rules.specs.TypesByNumber.{entry, size_in}
use Rattle.binding_counts.specs.BindingsByNumber.{size_at}
use Rattle.binding_counts.proofs.bindings.size_of.Goals as goal

pub returns : goal.returns
unfolding size_at
returns c = (c.size_in.ensures.0 ∙ ap (size_in c.args.g.now.sizes.now) (c.from-2.ensures ∙ c.from_first_given.ensures ∙ ap (λ (n : ℕ). n - 8) (c.entry-k.ensures ∙ ap (λ (n : ℕ). entry c.args.g.now.names.now n) c.from.ensures)), c.size_in.ensures.1)

-- `declared::type_kind` meets its contract. Assumes nothing.
use native.Mathlib.Omega.{arith}
use mathlib.Core.Path.{ap₂, sym, ap, ◌∙◌}
use Prim.Native.Nat.{ℕ}
use lib.ListN.{get_or}
use Rattle.type_rules.specs.TypesByNumber.{entry, element_of, set_of, pair_of}
use Rattle.declared_names.proofs.DeclarationNodes.{kinded, kind-one, kind-two, kind-three, kind-else}
use Rattle.declared_names.proofs.declared.type_kind.Goals as goal

pub returns-in-1 : goal.returns-in-1
returns-in-1 c = kinded c.args.t.now 0 c.args.names.now _ ((c.element_of-g.ensures ∙ ap element_of (c.entry.ensures ∙ ap (λ (n : ℕ). entry c.args.names.now n) c.from.ensures)) ∙ kind-one (get_or c.args.t.now 3 0) (entry c.args.names.now (get_or c.args.t.now 1 0)) (entry c.args.names.now (get_or c.args.t.now 0 0)) c.in-1.is)

pub returns-in-2 : goal.returns-in-2
returns-in-2 c = kinded c.args.t.now 0 c.args.names.now _ (kind-two (get_or c.args.t.now 3 0) (entry c.args.names.now (get_or c.args.t.now 1 0)) (entry c.args.names.now (get_or c.args.t.now 0 0)) c.in-2.is)

pub returns-in-3 : goal.returns-in-3
returns-in-3 c = kinded c.args.t.now 0 c.args.names.now _ (c.set_of.ensures ∙ (ap set_of (c.element_of-g.ensures ∙ ap element_of (c.entry.ensures ∙ ap (λ (n : ℕ). entry c.args.names.now n) c.from.ensures)) ∙ kind-three (get_or c.args.t.now 3 0) (entry c.args.names.now (get_or c.args.t.now 1 0)) (entry c.args.names.now (get_or c.args.t.now 0 0)) c.in-3.is))

pub returns-in_default : goal.returns-in_default
returns-in_default c = kinded c.args.t.now 0 c.args.names.now _ (c.pair_with.ensures ∙ (ap₂ pair_of (c.element_of-g.ensures ∙ ap element_of (c.entry.ensures ∙ ap (λ (n : ℕ). entry c.args.names.now n) c.from.ensures)) (c.element_of.ensures ∙ ap element_of (c.entry-in_default.ensures ∙ ap (λ (n : ℕ). entry c.args.names.now n) c.from-in_default.ensures)) ∙ sym (kind-else (get_or c.args.t.now 3 0) (entry c.args.names.now (get_or c.args.t.now 1 0)) (entry c.args.names.now (get_or c.args.t.now 0 0)) (λ s. omega arith) (λ s. omega arith) (λ s. omega arith))))

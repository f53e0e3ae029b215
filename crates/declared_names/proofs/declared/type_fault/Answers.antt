-- `declared::type_fault` meets its contract. Assumes nothing.
use native.Mathlib.Omega.{arith}
use mathlib.Core.Path.{sym, ◌∙◌}
use lib.ListN.{get_or}
use Rattle.refusals.specs.Refusals.{number_of}
use Rattle.type_rules.specs.TypesByNumber.{entry}
use Rattle.declared_names.specs.PassPromises.{pairs_key_at}
use Rattle.declared_names.proofs.DeclarationNodes.{faulted, key_one, key-two, key-three, key-else}
use Rattle.declared_names.proofs.declared.type_fault.Goals as goal

pub returns-in-1 : goal.returns-in-1
unfolding number_of
returns-in-1 c = faulted c.args.t.now 0 c.args.names.now c.args.sizes.now _ (c.unless.ensures ∙ (rw (c.from-i.ensures, c.is_given.ensures, c.entry-g.ensures, c.from.ensures) (key_one (get_or c.args.t.now 3 0) (get_or c.args.t.now 2 0) (get_or c.args.t.now 1 0) (get_or c.args.t.now 0 0) (entry c.args.names.now (get_or c.args.t.now 1 0)) (entry c.args.names.now (get_or c.args.t.now 0 0)) c.args.sizes.now c.in-1.is)))

pub returns-in-2 : goal.returns-in-2
unfolding number_of
returns-in-2 c = faulted c.args.t.now 0 c.args.names.now c.args.sizes.now _ (c.unless-in-2.ensures ∙ (rw (c.from-i.ensures, c.range_fits.ensures) (key-two (get_or c.args.t.now 3 0) (get_or c.args.t.now 2 0) (get_or c.args.t.now 1 0) (get_or c.args.t.now 0 0) (entry c.args.names.now (get_or c.args.t.now 1 0)) (entry c.args.names.now (get_or c.args.t.now 0 0)) c.args.sizes.now c.in-2.is)))

pub returns-in-3 : goal.returns-in-3
unfolding number_of
returns-in-3 c = faulted c.args.t.now 0 c.args.names.now c.args.sizes.now _ (c.unless-in-3.ensures ∙ (rw (c.from-i.ensures, c.is_given-in-3.ensures, c.entry-g.ensures, c.from.ensures) (key-three (get_or c.args.t.now 3 0) (get_or c.args.t.now 2 0) (get_or c.args.t.now 1 0) (get_or c.args.t.now 0 0) (entry c.args.names.now (get_or c.args.t.now 1 0)) (entry c.args.names.now (get_or c.args.t.now 0 0)) c.args.sizes.now c.in-3.is)))

pub returns-in_default : goal.returns-in_default
unfolding pairs_key_at
returns-in_default c = faulted c.args.t.now 0 c.args.names.now c.args.sizes.now _ (c.pairs_fault.ensures ∙ (rw (c.from-i.ensures, c.entry-g.ensures, c.from.ensures, c.entry.ensures, c.from-in_default.ensures) (sym (key-else (get_or c.args.t.now 3 0) (get_or c.args.t.now 2 0) (get_or c.args.t.now 1 0) (get_or c.args.t.now 0 0) (entry c.args.names.now (get_or c.args.t.now 1 0)) (entry c.args.names.now (get_or c.args.t.now 0 0)) c.args.sizes.now (λ s. omega arith) (λ s. omega arith) (λ s. omega arith)))))

-- `declared_types::set_type` meets its contract. Assumes nothing.
use Prim.Native.Nat.{ℕ}
use borrow.Author.Rules.{rules}
use mathlib.Core.Path.{ap, ◌∙◌}
use native.Mathlib.Omega.{arith}
use lib.ListN.{get_or}
use Rattle.type_rules.specs.TypesByNumber.{entry}
use Rattle.table_places.specs.DossierTableByNumber.{given_index}
use Rattle.table_nodes.specs.TableByNumber.{given_size}
use Rattle.table_places.proofs.WritingTypes.{type-set, by-range, by_one, by_two}
use Rattle.table_places.proofs.declared_types.set_type.Goals as goal

pub returns-in-2 : goal.returns-in-2
returns-in-2 c = type-set c.args.n.now 0 c.args.q c.args.s.now.names.now c.args.s.now.sizes.now c.args.out.now _ _ c.set_node.ensures (by-range (get_or c.args.n.now 3 0) (get_or c.args.n.now 1 0) (get_or c.args.n.now 0 0) (entry c.args.s.now.names.now (get_or c.args.n.now 1 0)) (entry c.args.s.now.names.now (get_or c.args.n.now 0 0)) _ c.args.s.now.sizes.now c.in-2.is c.range_count.ensures)

pub returns-in-1 : goal.returns-in-1
returns-in-1 c = type-set c.args.n.now 0 c.args.q c.args.s.now.names.now c.args.s.now.sizes.now c.args.out.now _ _ c.set_node-in-1.ensures (by_one (get_or c.args.n.now 3 0) (get_or c.args.n.now 1 0) (get_or c.args.n.now 0 0) (entry c.args.s.now.names.now (get_or c.args.n.now 1 0)) (entry c.args.s.now.names.now (get_or c.args.n.now 0 0)) _ _ c.args.s.now.sizes.now c.in-1.is (c.given_index.ensures.0 ∙ ap given_index (c.entry-k.ensures ∙ ap (λ (n : ℕ). entry c.args.s.now.names.now n) c.from.ensures)) (c.given_size.ensures ∙ ap (given_size c.args.s.now.sizes.now) (c.entry-k.ensures ∙ ap (λ (n : ℕ). entry c.args.s.now.names.now n) c.from.ensures)))

pub overflow_mul-i : goal.overflow_mul-i
overflow_mul-i c = let h = c.given_index-in_default.ensures.1 in omega arith

pub overflow_add-i : goal.overflow_add-i
overflow_add-i c = let h = c.given_index-in_default.ensures.1 in let k = c.given_index-in_default-2.ensures.1 in omega arith

pub returns-in_default : goal.returns-in_default
returns-in_default c = type-set c.args.n.now 0 c.args.q c.args.s.now.names.now c.args.s.now.sizes.now c.args.out.now _ _ c.set_node-in_default.ensures (by_two (get_or c.args.n.now 3 0) (get_or c.args.n.now 1 0) (get_or c.args.n.now 0 0) (entry c.args.s.now.names.now (get_or c.args.n.now 1 0)) (entry c.args.s.now.names.now (get_or c.args.n.now 0 0)) _ _ _ _ c.args.s.now.sizes.now (search rules) (search rules) (c.given_index-in_default.ensures.0 ∙ ap given_index (c.entry-k.ensures ∙ ap (λ (n : ℕ). entry c.args.s.now.names.now n) c.from.ensures)) (c.given_index-in_default-2.ensures.0 ∙ ap given_index (c.entry-l.ensures ∙ ap (λ (n : ℕ). entry c.args.s.now.names.now n) c.from-in_default.ensures)) (c.given_size-in_default.ensures ∙ ap (given_size c.args.s.now.sizes.now) (c.entry-k.ensures ∙ ap (λ (n : ℕ). entry c.args.s.now.names.now n) c.from.ensures)) (c.given_size-in_default-2.ensures ∙ ap (given_size c.args.s.now.sizes.now) (c.entry-l.ensures ∙ ap (λ (n : ℕ). entry c.args.s.now.names.now n) c.from-in_default.ensures)))

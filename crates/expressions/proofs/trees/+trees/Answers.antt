-- The functions that read terms and predicates meet their contracts: each result is put together from those of its parts.
use mathlib.Core.List.{[], ◌∷◌}
use Prim.Native.Nat.{ℕ, suc, ◌+◌}
use Rattle.std.specs.Prelude.{Some}
use Rattle.std.specs.Result.{result_ok}
use mathlib.Core.Path.{◌≡◌, subst, refl, sym, ap, ◌∙◌}
use native.Mathlib.Omega.{arith}
use borrow.Author.Rules.{rules}
use Rattle.form.specs.Written.{opens, binds}
use Rattle.form.specs.Machine.{exact, a_domain, a_term, an_operand, a_term_rest, a_rel, a_mem, a_brace, a_named, a_first, a_list, a_pairs, a_unary, a_paren, a_pred_rest}
use Rattle.form_nodes.specs.FormPromises.{operator_number, Ranged, start_as, bit, start_class, relation_class}
use Rattle.form_nodes.proofs.Classes.{begun, unbegun, no-class}
use Rattle.form_nodes.proofs.SymbolSpans.{known-shown}
use Rattle.form_nodes.proofs.FirstNodes.{more-then, more-made, more-known}
use Rattle.expressions.proofs.Chains.{chain, operator-some, operator-none, connective-some, connective-none, not-division, at-level}
use Rattle.form.specs.Computed.{compute_form}
use Rattle.form_nodes.proofs.ReadParts.{exits, only, here, next, takes, taken, refused, stops, likewise, fails, framed, known, counted, alike, wider, known-ahead}
use Rattle.expressions.proofs.Places.{moved, made-there, handed, placed, makes-at}
use Rattle.expressions.proofs.BoundNames.{quantifier, bound_name, such_name}
use Rattle.form_nodes.proofs.ReadNames.{name-class, name-inside, name-read, unnamed}
use Rattle.expressions.proofs.ReachLaws.{deepened, bound, lowered, naming, kept-names, faulty}
use Rattle.refusals.proofs.MissingValues.{unmet}
use Rattle.form_nodes.proofs.RangeEnds.{open_well, open-deep, range-well, other-kind, bound-deep, bound-elsewhere}
use Rattle.form_nodes.proofs.ItemSteps.{name-taken, rel-step, mem-step, unary-step, pred-rest-step}
use Rattle.form_nodes.proofs.SameSteps.{operand_step, as-operand, as-term, as_pred, as-list, list-stops, pairs-stop, whole-term, whole-pred, known-level, rest-division, rest-binary, rest-connective, rest-depth, paren-opens, rel-pair, mem-some, declared-stops, known-code}
use Rattle.form_nodes.proofs.RightSides.{inside, as-listed, right-term, right-range}
use Rattle.form_nodes.specs.Derivations.{EndAt, RangeAt, DomainAt}
use Rattle.form_nodes.proofs.NodesOfParts.{unclosed, both, wrote, node_of, made, built, makes, onward, closing, from, ranging, closed, showing, start-at, class-at, number-start, membership-at, level-two}
use Rattle.lexical.specs.Kinds as kind
use Rattle.form_nodes.specs.Derivations as derived
use Rattle.expressions.proofs.trees.+trees.Goals as goal
use Rattle.expressions.proofs.trees.+trees.Goals.{operand-else-reach-ge-DEPTH-via-then-reach-ge-DEPTH+else-range_end, operand-else-reach-ge-DEPTH-via-else-reach-ge-DEPTH}

pub atom-returns-in_err-relation : goal.atom-returns-in_err-relation
unfolding compute_form
atom-returns-in_err-relation t c = rw (exits c.from_residual.result c.from_residual.ensures.1) (faulty (unmet _ (sym c.ok_or.ensures.value ∙ c.in_err-relation.was) ∙ c.no_dossier.ensures) (stops (omega arith) (λ κ e γ. rel-step c.args.reach.depth c.args.reach.names κ γ (c.relation_of.ensures.classes.class κ (e ∙ sym c.kind_at-k.ensures.is) ∙ ap relation_class (c.ok_or.ensures.ok_part ∙ ap result_ok c.in_err-relation.was))) (λ γ. refl)), tt)

pub atom-returns-in-Membership : goal.atom-returns-in-Membership
unfolding compute_form
atom-returns-in-Membership t c = let q = c.ok_or.ensures.ok_part ∙ ap result_ok c.in_ok-relation.was ∙ ap Some c.in-Membership.is in let r = ap relation_class q in (takes (omega arith) (λ κ e γ. rel-step c.args.reach.depth c.args.reach.names κ γ (c.relation_of.ensures.classes.class κ (e ∙ sym c.kind_at-k.ensures.is) ∙ r)) c.member.ensures.0 (omega arith), c.member.ensures.1)

pub atom-returns-in_ok-right-in-Comparison : goal.atom-returns-in_ok-right-in-Comparison
unfolding compute_form
atom-returns-in_ok-right-in-Comparison t c = let q = c.ok_or.ensures.ok_part ∙ ap result_ok c.in_ok-relation.was ∙ ap Some c.in-Comparison.is in let r = ap relation_class q in (let h = (known c.in_ok-right-in-Comparison.was (moved c.skip.ensures c.term.ensures.0)) in takes {m = c.args.from.count + 4} (omega arith) (λ κ e γ. rel-step c.args.reach.depth c.args.reach.names κ γ (c.relation_of.ensures.classes.class κ (e ∙ sym c.kind_at-k.ensures.is) ∙ r)) (handed c.with_node.ensures.0 (omega arith) h) (omega arith), let w₁ = (made-there c.skip.ensures (made c.in_ok-right-in-Comparison.was c.term.ensures.1)) in makes-at c.with_node.ensures.0 (both (built w₁) (node_of (c.from.ensures ∙ c.kind_at-k.ensures.is) refl c.with_node.ensures.1)) (derived.compared (class-at c.kind_at-k.ensures.is r c.relation_of.ensures.classes) w₁.derives))

pub atom-returns-in_err-right-in-Comparison : goal.atom-returns-in_err-right-in-Comparison
unfolding compute_form
atom-returns-in_err-right-in-Comparison t c = rw (exits c.from_residual-in_err-right-in-Comparison.result c.from_residual-in_err-right-in-Comparison.ensures.1) (let q = c.ok_or.ensures.ok_part ∙ ap result_ok c.in_ok-relation.was ∙ ap Some c.in-Comparison.is in let r = ap relation_class q in (takes {m = c.args.from.count} (omega arith) (λ κ e γ. rel-step c.args.reach.depth c.args.reach.names κ γ (c.relation_of.ensures.classes.class κ (e ∙ sym c.kind_at-k.ensures.is) ∙ r)) (fails (known c.in_err-right-in-Comparison.was (moved c.skip.ensures c.term.ensures.0))) (omega arith), tt))

pub atom-returns-in_ok-second-in-Pairing : goal.atom-returns-in_ok-second-in-Pairing
unfolding compute_form
atom-returns-in_ok-second-in-Pairing t c = let q = c.ok_or.ensures.ok_part ∙ ap result_ok c.in_ok-relation.was ∙ ap Some c.in-Pairing.is in let r = ap relation_class q in (takes {m = c.args.from.count} (omega arith) (λ κ e γ. rel-pair c.args.reach.depth c.args.reach.names 3 κ γ (c.relation_of.ensures.classes.class κ (e ∙ sym c.kind_at-k.ensures.is) ∙ r) (omega arith)) (next (framed _ (known c.in_ok-second-in-Pairing.was (moved c.skip-in-Pairing.ensures c.term-in-Pairing.ensures.0))) c.related.ensures.0) (omega arith), let w₁ = (made-there c.skip-in-Pairing.ensures (made c.in_ok-second-in-Pairing.was c.term-in-Pairing.ensures.1)) in onward _ c.related.result (built w₁) (λ k v x. derived.mapped (sym c.kind_at-k.ensures.is ∙ c.relation_of.ensures.maplet q) w₁.derives x) c.related.ensures.1)

pub atom-returns-in_err-second-in-Pairing : goal.atom-returns-in_err-second-in-Pairing
unfolding compute_form
atom-returns-in_err-second-in-Pairing t c = rw (exits c.from_residual-in_err-second-in-Pairing.result c.from_residual-in_err-second-in-Pairing.ensures.1) (let q = c.ok_or.ensures.ok_part ∙ ap result_ok c.in_ok-relation.was ∙ ap Some c.in-Pairing.is in let r = ap relation_class q in (takes {m = c.args.from.count} (omega arith) (λ κ e γ. rel-pair c.args.reach.depth c.args.reach.names 3 κ γ (c.relation_of.ensures.classes.class κ (e ∙ sym c.kind_at-k.ensures.is) ∙ r) (omega arith)) (fails (framed (a_mem c.args.reach.depth c.args.reach.names ∷ []) (known c.in_err-second-in-Pairing.was (moved c.skip-in-Pairing.ensures c.term-in-Pairing.ensures.0)))) (omega arith), tt))

pub items-returns-in-20 : goal.items-returns-in-20
unfolding compute_form
items-returns-in-20 t c = let at = c.with_node.ensures.0 ∙ c.skip.ensures.0 in (takes (omega arith) (only _ kind.close_brace (sym c.kind_at.ensures.is ∙ c.in-20.is) (λ γ. refl)) (placed at (here (omega arith))) (omega arith), makes-at at (wrote (rw c.skip.ensures.1 at c.with_node.ensures.1)) (derived.items_end (sym c.kind_at.ensures.is ∙ c.in-20.is)))

pub items-returns-in_ok-rest-in-12 : goal.items-returns-in_ok-rest-in-12
unfolding compute_form
items-returns-in_ok-rest-in-12 t c = (let h = (known c.in_ok-item-in-12.was (moved c.skip-in-12.ensures c.term.ensures.0)) in let i = (known c.in_ok-rest-in-12.was c.items.ensures.0) in takes {m = c.args.from.count + 4} (omega arith) (only _ kind.comma (sym c.kind_at.ensures.is ∙ c.in-12.is) (λ γ. refl)) (handed c.with_node-in-12.ensures.0 (omega arith) (next (framed _ h) i)) (omega arith), let w₁ = (made-there c.skip-in-12.ensures (made c.in_ok-item-in-12.was c.term.ensures.1)) in let w₂ = (made c.in_ok-rest-in-12.was c.items.ensures.1) in makes-at c.with_node-in-12.ensures.0 (both (both (built w₁) (built w₂)) (wrote c.with_node-in-12.ensures.1)) (derived.more_items (sym c.kind_at.ensures.is ∙ c.in-12.is) w₁.derives w₂.derives))

pub items-returns-in_err-rest-in-12 : goal.items-returns-in_err-rest-in-12
unfolding compute_form
items-returns-in_err-rest-in-12 t c = rw (exits c.from_residual-in_err-rest-in-12.result c.from_residual-in_err-rest-in-12.ensures.1) ((let h = (known c.in_ok-item-in-12.was (moved c.skip-in-12.ensures c.term.ensures.0)) in takes {m = c.args.from.count} (omega arith) (only _ kind.comma (sym c.kind_at.ensures.is ∙ c.in-12.is) (λ γ. refl)) (fails (next (framed _ h) (known c.in_err-rest-in-12.was c.items.ensures.0))) (omega arith), tt))

pub items-returns-in_err-item-in-12 : goal.items-returns-in_err-item-in-12
unfolding compute_form
items-returns-in_err-item-in-12 t c = rw (exits c.from_residual.result c.from_residual.ensures.1) ((takes {m = c.args.from.count} (omega arith) (only _ kind.comma (sym c.kind_at.ensures.is ∙ c.in-12.is) (λ γ. refl)) (fails (framed (a_list c.args.reach.depth c.args.reach.names ∷ []) (known c.in_err-item-in-12.was (moved c.skip-in-12.ensures c.term.ensures.0)))) (omega arith), tt))

pub items-returns-in_default : goal.items-returns-in_default
unfolding compute_form
items-returns-in_default t c = (faulty c.no_dossier.ensures (stops (omega arith) (λ κ e γ. list-stops c.args.reach.depth c.args.reach.names κ γ (λ q. omega (arith, c.kind_at.ensures.is, e, q)) (λ q. omega (arith, c.kind_at.ensures.is, e, q))) (λ γ. refl)), tt)

pub listed-returns-then-kind_at-eq-MAPLET : goal.listed-returns-then-kind_at-eq-MAPLET
unfolding compute_form
listed-returns-then-kind_at-eq-MAPLET t c = (let h = (known c.in_ok-first.was (moved c.skip.ensures c.term.ensures.0)) in let i = (known c.in_ok-sides.was c.pairs.ensures.0) in handed c.with_node.ensures.0 (omega arith) (alike (as-listed c.args.y.now.kinds.now c.args.from.at c.args.reach.depth c.args.reach.names c.requires.1 c.requires.2) (next (framed (a_first c.args.reach.depth c.args.reach.names ∷ []) h) (likewise (only _ kind.maplet (sym c.kind_at.ensures.is ∙ c.if-kind_at-eq-MAPLET.true) (λ γ. refl)) (λ γ. refl) i))), let w₁ = (made-there c.skip.ensures (made c.in_ok-first.was c.term.ensures.1)) in let w₂ = (made c.in_ok-sides.was c.pairs.ensures.1) in makes-at c.with_node.ensures.0 (both (both (built w₁) (built w₂)) (wrote c.with_node.ensures.1)) (derived.paired c.requires.1 w₁.derives w₂.derives))

pub listed-returns-in_err-sides : goal.listed-returns-in_err-sides
unfolding compute_form
listed-returns-in_err-sides t c = rw (exits c.from_residual-in_err-sides.result c.from_residual-in_err-sides.ensures.1) ((let h = (known c.in_ok-first.was (moved c.skip.ensures c.term.ensures.0)) in wider (alike (as-listed c.args.y.now.kinds.now c.args.from.at c.args.reach.depth c.args.reach.names c.requires.1 c.requires.2) (next (framed (a_first c.args.reach.depth c.args.reach.names ∷ []) h) (likewise (only _ kind.maplet (sym c.kind_at.ensures.is ∙ c.if-kind_at-eq-MAPLET.true) (λ γ. refl)) (λ γ. refl) (known c.in_err-sides.was c.pairs.ensures.0)))) (omega arith), tt))

pub listed-returns : goal.listed-returns
unfolding compute_form
listed-returns t c = (let h = (known c.in_ok-first.was (moved c.skip.ensures c.term.ensures.0)) in let i = (known c.in_ok-rest.was c.items.ensures.0) in handed c.with_node-2.ensures.0 (omega arith) (alike (as-listed c.args.y.now.kinds.now c.args.from.at c.args.reach.depth c.args.reach.names c.requires.1 c.requires.2) (next (framed (a_first c.args.reach.depth c.args.reach.names ∷ []) h) (likewise (λ κ e γ. as-list c.args.reach.depth c.args.reach.names κ γ (λ q. c.if-kind_at-eq-MAPLET.false (c.kind_at.ensures.is ∙ sym e ∙ q))) (λ γ. refl) i))), let w₁ = (made-there c.skip.ensures (made c.in_ok-first.was c.term.ensures.1)) in let w₂ = (made c.in_ok-rest.was c.items.ensures.1) in makes-at c.with_node-2.ensures.0 (both (both (built w₁) (built w₂)) (wrote c.with_node-2.ensures.1)) (derived.listed c.requires.1 w₁.derives w₂.derives))

pub listed-returns-in_err-rest : goal.listed-returns-in_err-rest
unfolding compute_form
listed-returns-in_err-rest t c = rw (exits c.from_residual-in_err-rest.result c.from_residual-in_err-rest.ensures.1) ((let h = (known c.in_ok-first.was (moved c.skip.ensures c.term.ensures.0)) in wider (alike (as-listed c.args.y.now.kinds.now c.args.from.at c.args.reach.depth c.args.reach.names c.requires.1 c.requires.2) (next (framed (a_first c.args.reach.depth c.args.reach.names ∷ []) h) (likewise (λ κ e γ. as-list c.args.reach.depth c.args.reach.names κ γ (λ q. c.if-kind_at-eq-MAPLET.false (c.kind_at.ensures.is ∙ sym e ∙ q))) (λ γ. refl) (known c.in_err-rest.was c.items.ensures.0)))) (omega arith), tt))

pub listed-returns-in_err-first : goal.listed-returns-in_err-first
unfolding compute_form
listed-returns-in_err-first t c = rw (exits c.from_residual.result c.from_residual.ensures.1) ((alike (as-listed c.args.y.now.kinds.now c.args.from.at c.args.reach.depth c.args.reach.names c.requires.1 c.requires.2) (fails (framed (a_first c.args.reach.depth c.args.reach.names ∷ []) (known c.in_err-first.was (moved c.skip.ensures c.term.ensures.0)))), tt))

pub member-returns-then-is_range : goal.member-returns-then-is_range
unfolding compute_form
member-returns-then-is_range t c = let e = (rw (c.skip.ensures.0, c.skip.ensures.1) at c.range.ensures) in (let h = known c.in_ok-ends.was e.0.reads in let i = known-ahead _ c.in_ok-ends.was e.0.ahead in right-range c.args.from.at (omega arith) (omega arith) (subst (λ y. Ranged c.args.y.now.kinds.now (c.args.from.at + 1) y) c.if-is_range.true c.is_range.ensures) (counted (omega arith) h), makes (both (wrote c.put_range-m.ensures) (node_of (c.from.ensures ∙ c.kind_at-k.ensures.is) refl c.put-count.ensures)) (derived.within (record { low = c.requires.1; high = c.requires.2 }) (showing (RangeAt c.args.y.now.kinds.now (c.args.from.at + 1)) _ c.in_ok-ends.was e.1)))

pub member-returns-in_err-ends : goal.member-returns-in_err-ends
unfolding compute_form
member-returns-in_err-ends t c = let e = (rw (c.skip.ensures.0, c.skip.ensures.1) at c.range.ensures) in rw (exits c.from_residual.result c.from_residual.ensures.1) ((right-range c.args.from.at (omega arith) (omega arith) (subst (λ y. Ranged c.args.y.now.kinds.now (c.args.from.at + 1) y) c.if-is_range.true c.is_range.ensures) (fails (known c.in_err-ends.was e.0.reads)), tt))

pub member-returns : goal.member-returns
unfolding compute_form
member-returns t c = (let h = (known c.in_ok-set.was (moved c.skip-2.ensures c.term.ensures.0)) in right-term (subst (λ y. Ranged c.args.y.now.kinds.now (c.args.from.at + 1) y) c.if-is_range.false c.is_range.ensures) (handed c.with_node.ensures.0 (omega arith) h), let w₁ = (made-there c.skip-2.ensures (made c.in_ok-set.was c.term.ensures.1)) in makes-at c.with_node.ensures.0 (both (built w₁) (node_of (c.from-2.ensures ∙ c.kind_at-k.ensures.is) refl c.with_node.ensures.1)) (derived.belongs (record { low = c.requires.1; high = c.requires.2 }) w₁.derives))

pub member-returns-in_err-set : goal.member-returns-in_err-set
unfolding compute_form
member-returns-in_err-set t c = rw (exits c.from_residual-in_err-set.result c.from_residual-in_err-set.ensures.1) ((right-term (subst (λ y. Ranged c.args.y.now.kinds.now (c.args.from.at + 1) y) c.if-is_range.false c.is_range.ensures) (fails (known c.in_err-set.was (moved c.skip-2.ensures c.term.ensures.0))), tt))

pub operand-returns-then-range_end : goal.operand-returns-then-range_end
unfolding compute_form
operand-returns-then-range_end t c = (let i = c.range_end.ensures.minus c.if-range_end.true in let j = inside c.args.y.now.kinds.now (c.args.from.at + 1) (omega (arith, i.1)) in taken {μ = an_operand (suc c.args.reach.depth) c.args.reach.names ∷ []} {m = c.args.from.count + 4} (opens (suc c.args.reach.depth)) (omega arith) (range-well c.args.y.now.kinds.now c.args.from.at (suc c.args.reach.depth) (c.range_end.ensures.test ∙ c.if-range_end.true)) (λ κ e γ. operand_step c.args.reach.depth c.args.reach.names κ γ _ ((begun (c.ok_or.ensures.ok_part ∙ ap result_ok c.in_ok-start.was) c.start_of.ensures).start κ (e ∙ sym c.kind_at-k.ensures.is) ∙ ap start_as c.in-Prefix.is)) (takes {μ = []} (omega arith) (only _ kind.number i.1 (λ γ. refl)) (here (omega arith)) (omega arith)) (omega arith), makes (both (wrote c.leaf-m-then-range_end.ensures) (node_of (c.from.ensures ∙ c.kind_at-k.ensures.is) refl c.put-c.ensures)) (derived.prefixed (start-at c.kind_at-k.ensures.is c.in-Prefix.is (begun (c.ok_or.ensures.ok_part ∙ ap result_ok c.in_ok-start.was) c.start_of.ensures)) (derived.leaf (number-start (c.range_end.ensures.minus c.if-range_end.true).1))))

pub operand-returns-in_err-within-in-Prefix : goal.operand-returns-in_err-within-in-Prefix
unfolding compute_form
operand-returns-in_err-within-in-Prefix t c = rw (exits c.from_residual-in_err-within-in-Prefix.result c.from_residual-in_err-within-in-Prefix.ensures.1) (let stop = deepened c.args.reach (c.args.from.at) c.in_err-within-in-Prefix.was c.deeper.ensures in faulty stop.1 (let h = known-code c.kind_at-k.result c.in-Prefix.is (begun (c.ok_or.ensures.ok_part ∙ ap result_ok c.in_ok-start.was) c.start_of.ensures) in refused (opens (suc c.args.reach.depth)) (omega arith) (open-deep c.args.y.now.kinds.now c.args.from.at (suc c.args.reach.depth) (omega (arith, stop.0)) (elim c.else-reach-ge-DEPTH.branch [ operand-else-reach-ge-DEPTH-via-then-reach-ge-DEPTH+else-range_end w ↦ w.range_end.ensures.test ∙ w.if-range_end.false | operand-else-reach-ge-DEPTH-via-else-reach-ge-DEPTH w ↦ absurd (omega (arith, stop.0, w.if-reach-ge-DEPTH.false)) ])) (λ κ e γ. operand_step c.args.reach.depth c.args.reach.names κ γ _ ((begun (c.ok_or.ensures.ok_part ∙ ap result_ok c.in_ok-start.was) c.start_of.ensures).start κ (e ∙ sym c.kind_at-k.ensures.is) ∙ ap start_as c.in-Prefix.is))), tt)

pub operand-returns-in_err-within-in-Bracket : goal.operand-returns-in_err-within-in-Bracket
unfolding compute_form
operand-returns-in_err-within-in-Bracket t c = rw (exits c.from_residual-in_err-within-in-Bracket.result c.from_residual-in_err-within-in-Bracket.ensures.1) (let stop = deepened c.args.reach (c.args.from.at) c.in_err-within-in-Bracket.was c.deeper-in-Bracket.ensures in faulty stop.1 (let h = known-code c.kind_at-k.result c.in-Bracket.is (begun (c.ok_or.ensures.ok_part ∙ ap result_ok c.in_ok-start.was) c.start_of.ensures) in refused (opens (suc c.args.reach.depth)) (omega arith) (open-deep c.args.y.now.kinds.now c.args.from.at (suc c.args.reach.depth) (omega (arith, stop.0)) (other-kind c.args.y.now.kinds.now c.args.from.at (λ q. let h = known-code c.kind_at-k.result c.in-Bracket.is (begun (c.ok_or.ensures.ok_part ∙ ap result_ok c.in_ok-start.was) c.start_of.ensures) in absurd (omega (arith, c.kind_at-k.ensures.is))))) (λ κ e γ. operand_step c.args.reach.depth c.args.reach.names κ γ _ ((begun (c.ok_or.ensures.ok_part ∙ ap result_ok c.in_ok-start.was) c.start_of.ensures).start κ (e ∙ sym c.kind_at-k.ensures.is) ∙ ap start_as c.in-Bracket.is))), tt)

pub operand-returns-in_err-within-in-Brace : goal.operand-returns-in_err-within-in-Brace
unfolding compute_form
operand-returns-in_err-within-in-Brace t c = rw (exits c.from_residual-in_err-within-in-Brace.result c.from_residual-in_err-within-in-Brace.ensures.1) (let stop = deepened c.args.reach (c.args.from.at) c.in_err-within-in-Brace.was c.deeper-in-Brace.ensures in faulty stop.1 (let h = known-code c.kind_at-k.result c.in-Brace.is (begun (c.ok_or.ensures.ok_part ∙ ap result_ok c.in_ok-start.was) c.start_of.ensures) in refused (opens (suc c.args.reach.depth)) (omega arith) (open-deep c.args.y.now.kinds.now c.args.from.at (suc c.args.reach.depth) (omega (arith, stop.0)) (other-kind c.args.y.now.kinds.now c.args.from.at (λ q. let h = known-code c.kind_at-k.result c.in-Brace.is (begun (c.ok_or.ensures.ok_part ∙ ap result_ok c.in_ok-start.was) c.start_of.ensures) in absurd (omega (arith, c.kind_at-k.ensures.is))))) (λ κ e γ. operand_step c.args.reach.depth c.args.reach.names κ γ _ ((begun (c.ok_or.ensures.ok_part ∙ ap result_ok c.in_ok-start.was) c.start_of.ensures).start κ (e ∙ sym c.kind_at-k.ensures.is) ∙ ap start_as c.in-Brace.is))), tt)

pub operand-returns-in-Leaf : goal.operand-returns-in-Leaf
unfolding compute_form
operand-returns-in-Leaf t c = (let h = known-code c.kind_at-k.result c.in-Leaf.is (begun (c.ok_or.ensures.ok_part ∙ ap result_ok c.in_ok-start.was) c.start_of.ensures) in takes (omega arith) (λ κ e γ. operand_step c.args.reach.depth c.args.reach.names κ γ _ ((begun (c.ok_or.ensures.ok_part ∙ ap result_ok c.in_ok-start.was) c.start_of.ensures).start κ (e ∙ sym c.kind_at-k.ensures.is) ∙ ap start_as c.in-Leaf.is)) (here (omega arith)) (omega arith), makes (wrote c.leaf-m.ensures) (derived.leaf (start-at c.kind_at-k.ensures.is c.in-Leaf.is (begun (c.ok_or.ensures.ok_part ∙ ap result_ok c.in_ok-start.was) c.start_of.ensures))))

pub operand-returns-in_ok-inner-in-Prefix : goal.operand-returns-in_ok-inner-in-Prefix
unfolding compute_form
operand-returns-in_ok-inner-in-Prefix t c = let step = deepened c.args.reach c.args.from.at c.in_ok-within-in-Prefix.was c.deeper.ensures in (let i = (known c.in_ok-inner-in-Prefix.was (moved c.skip.ensures c.operand.ensures.0)) in taken {m = c.args.from.count + 4} (opens (suc c.args.reach.depth)) (omega arith) (open_well c.args.y.now.kinds.now c.args.from.at (suc c.args.reach.depth) (omega (arith, step.0))) (λ κ e γ. operand_step c.args.reach.depth c.args.reach.names κ γ _ ((begun (c.ok_or.ensures.ok_part ∙ ap result_ok c.in_ok-start.was) c.start_of.ensures).start κ (e ∙ sym c.kind_at-k.ensures.is) ∙ ap start_as c.in-Prefix.is)) (handed {c = c.args.from.count + 4} c.with_node.ensures.0 (omega arith) (lowered (λ x y. an_operand x y ∷ []) step i)) (omega arith), let w₁ = (made-there c.skip.ensures (made c.in_ok-inner-in-Prefix.was c.operand.ensures.1)) in makes-at c.with_node.ensures.0 (both (built w₁) (node_of (c.from-in-Prefix.ensures ∙ c.kind_at-k.ensures.is) refl c.with_node.ensures.1)) (derived.prefixed (start-at c.kind_at-k.ensures.is c.in-Prefix.is (begun (c.ok_or.ensures.ok_part ∙ ap result_ok c.in_ok-start.was) c.start_of.ensures)) w₁.derives))

pub operand-returns-in_err-inner-in-Prefix : goal.operand-returns-in_err-inner-in-Prefix
unfolding compute_form
operand-returns-in_err-inner-in-Prefix t c = let step = deepened c.args.reach c.args.from.at c.in_ok-within-in-Prefix.was c.deeper.ensures in rw (exits c.from_residual-in_err-inner-in-Prefix.result c.from_residual-in_err-inner-in-Prefix.ensures.1) ((taken {m = c.args.from.count + 4} (opens (suc c.args.reach.depth)) (omega arith) (open_well c.args.y.now.kinds.now c.args.from.at (suc c.args.reach.depth) (omega (arith, step.0))) (λ κ e γ. operand_step c.args.reach.depth c.args.reach.names κ γ _ ((begun (c.ok_or.ensures.ok_part ∙ ap result_ok c.in_ok-start.was) c.start_of.ensures).start κ (e ∙ sym c.kind_at-k.ensures.is) ∙ ap start_as c.in-Prefix.is)) (fails (lowered (λ x y. an_operand x y ∷ []) step (known c.in_err-inner-in-Prefix.was (moved c.skip.ensures c.operand.ensures.0)))) (omega arith), tt))

pub operand-returns-in_ok-bracketed-in-Bracket : goal.operand-returns-in_ok-bracketed-in-Bracket
unfolding compute_form
operand-returns-in_ok-bracketed-in-Bracket t c = let step = deepened c.args.reach c.args.from.at c.in_ok-within-in-Bracket.was c.deeper-in-Bracket.ensures in (taken {m = c.args.from.count + 4} (opens (suc c.args.reach.depth)) (omega arith) (open_well c.args.y.now.kinds.now c.args.from.at (suc c.args.reach.depth) (omega (arith, step.0))) (λ κ e γ. operand_step c.args.reach.depth c.args.reach.names κ γ _ ((begun (c.ok_or.ensures.ok_part ∙ ap result_ok c.in_ok-start.was) c.start_of.ensures).start κ (e ∙ sym c.kind_at-k.ensures.is) ∙ ap start_as c.in-Bracket.is)) (wider (next (framed _ (lowered (λ x y. a_term x y ∷ []) step (known c.in_ok-bracketed-in-Bracket.was (moved c.skip-in-Bracket.ensures c.term.ensures.0)))) (c.close.ensures.reads kind.close_bracket refl)) (omega arith)) (omega arith), let w₁ = (made-there c.skip-in-Bracket.ensures (made c.in_ok-bracketed-in-Bracket.was c.term.ensures.1)) in let t₁ = known-code c.kind_at-k.result c.in-Bracket.is (begun (c.ok_or.ensures.ok_part ∙ ap result_ok c.in_ok-start.was) c.start_of.ensures) in closing c.close.ensures (λ q. makes (built w₁) (derived.bracketed (sym c.kind_at-k.ensures.is ∙ t₁) w₁.derives q)))

pub operand-returns-in_err-bracketed-in-Bracket : goal.operand-returns-in_err-bracketed-in-Bracket
unfolding compute_form
operand-returns-in_err-bracketed-in-Bracket t c = let step = deepened c.args.reach c.args.from.at c.in_ok-within-in-Bracket.was c.deeper-in-Bracket.ensures in rw (exits c.from_residual-in_err-bracketed-in-Bracket.result c.from_residual-in_err-bracketed-in-Bracket.ensures.1) ((taken {m = c.args.from.count + 4} (opens (suc c.args.reach.depth)) (omega arith) (open_well c.args.y.now.kinds.now c.args.from.at (suc c.args.reach.depth) (omega (arith, step.0))) (λ κ e γ. operand_step c.args.reach.depth c.args.reach.names κ γ _ ((begun (c.ok_or.ensures.ok_part ∙ ap result_ok c.in_ok-start.was) c.start_of.ensures).start κ (e ∙ sym c.kind_at-k.ensures.is) ∙ ap start_as c.in-Bracket.is)) (fails (framed (exact kind.close_bracket ∷ []) (lowered (λ x y. a_term x y ∷ []) step (known c.in_err-bracketed-in-Bracket.was (moved c.skip-in-Bracket.ensures c.term.ensures.0))))) (omega arith), tt))

pub operand-returns-in_ok-within-in-Brace : goal.operand-returns-in_ok-within-in-Brace
unfolding compute_form
operand-returns-in_ok-within-in-Brace t c = let step = deepened c.args.reach c.args.from.at c.in_ok-within-in-Brace.was c.deeper-in-Brace.ensures in (taken {m = c.args.from.count + 4} (opens (suc c.args.reach.depth)) (omega arith) (open_well c.args.y.now.kinds.now c.args.from.at (suc c.args.reach.depth) (omega (arith, step.0))) (λ κ e γ. operand_step c.args.reach.depth c.args.reach.names κ γ _ ((begun (c.ok_or.ensures.ok_part ∙ ap result_ok c.in_ok-start.was) c.start_of.ensures).start κ (e ∙ sym c.kind_at-k.ensures.is) ∙ ap start_as c.in-Brace.is)) (lowered (λ x y. a_brace x y ∷ []) step c.brace.ensures.0) (omega arith), c.brace.ensures.1)

pub operand-returns-in-Empty : goal.operand-returns-in-Empty
unfolding compute_form
operand-returns-in-Empty t c = (takes (omega arith) (λ κ e γ. operand_step c.args.reach.depth c.args.reach.names κ γ _ ((begun (c.ok_or.ensures.ok_part ∙ ap result_ok c.in_ok-start.was) c.start_of.ensures).start κ (e ∙ sym c.kind_at-k.ensures.is) ∙ ap start_as c.in-Empty.is)) c.empty.ensures.0 (omega arith), c.empty.ensures.1)

pub operand-returns-in_err-start : goal.operand-returns-in_err-start
unfolding compute_form
operand-returns-in_err-start t c = rw (exits c.from_residual.result c.from_residual.ensures.1) (faulty (unmet _ (sym c.ok_or.ensures.value ∙ c.in_err-start.was) ∙ c.no_dossier.ensures) (stops (omega arith) (λ κ e γ. operand_step c.args.reach.depth c.args.reach.names κ γ _ (unbegun (c.ok_or.ensures.ok_part ∙ ap result_ok c.in_err-start.was) c.start_of.ensures κ (e ∙ sym c.kind_at-k.ensures.is))) (λ γ. refl)), tt)

pub pairs-returns-in-20 : goal.pairs-returns-in-20
unfolding compute_form
pairs-returns-in-20 t c = let at = c.with_node.ensures.0 ∙ c.skip.ensures.0 in (let h = (known c.in_ok-arrow.was (c.close.ensures.reads kind.maplet refl)) in let i = (known c.in_ok-right.was (moved (refl, (closed c.in_ok-arrow.was c.close.ensures).1) c.term.ensures.0)) in next (counted {c = c.args.from.count} {d = c.args.from.count} (omega arith) (framed _ h)) (next (framed _ i) (takes (omega arith) (only _ kind.close_brace (sym c.kind_at.ensures.is ∙ c.in-20.is) (λ γ. refl)) (placed at (here (omega arith))) (omega arith))), let t₁ = (closed c.in_ok-arrow.was c.close.ensures).0 in let w₁ = (made-there (refl, (closed c.in_ok-arrow.was c.close.ensures).1) (made c.in_ok-right.was c.term.ensures.1)) in makes-at at (both (built w₁) (wrote (rw c.skip.ensures.1 at c.with_node.ensures.1))) (derived.end_of_pairs t₁.1 (from t₁.0 w₁.derives) (sym c.kind_at.ensures.is ∙ c.in-20.is)))

pub pairs-returns-in_ok-rest-in-12 : goal.pairs-returns-in_ok-rest-in-12
unfolding compute_form
pairs-returns-in_ok-rest-in-12 t c = (let h = (known c.in_ok-arrow.was (c.close.ensures.reads kind.maplet refl)) in let i = (known c.in_ok-right.was (moved (refl, (closed c.in_ok-arrow.was c.close.ensures).1) c.term.ensures.0)) in let j = (known c.in_ok-left-in-12.was (moved c.skip-in-12.ensures c.term-in-12.ensures.0)) in let l = (known c.in_ok-rest-in-12.was c.pairs.ensures.0) in next (counted {c = c.args.from.count} {d = c.args.from.count} (omega arith) (framed _ h)) (next (framed _ i) (takes {m = c.in_ok-right.right.count + 4} (omega arith) (only _ kind.comma (sym c.kind_at.ensures.is ∙ c.in-12.is) (λ γ. refl)) (handed c.with_node-in-12.ensures.0 (omega arith) (next (framed _ j) l)) (omega arith))), let t₁ = (closed c.in_ok-arrow.was c.close.ensures).0 in let w₁ = (made-there (refl, (closed c.in_ok-arrow.was c.close.ensures).1) (made c.in_ok-right.was c.term.ensures.1)) in let w₂ = (made-there c.skip-in-12.ensures (made c.in_ok-left-in-12.was c.term-in-12.ensures.1)) in let w₃ = (made c.in_ok-rest-in-12.was c.pairs.ensures.1) in makes-at c.with_node-in-12.ensures.0 (both (both (both (built w₁) (built w₂)) (built w₃)) (wrote c.with_node-in-12.ensures.1)) (derived.pairs_more t₁.1 (from t₁.0 w₁.derives) (sym c.kind_at.ensures.is ∙ c.in-12.is) w₂.derives w₃.derives))

pub pairs-returns-in_err-rest-in-12 : goal.pairs-returns-in_err-rest-in-12
unfolding compute_form
pairs-returns-in_err-rest-in-12 t c = rw (exits c.from_residual-in_err-rest-in-12.result c.from_residual-in_err-rest-in-12.ensures.1) ((let h = (known c.in_ok-arrow.was (c.close.ensures.reads kind.maplet refl)) in let i = (known c.in_ok-right.was (moved (refl, (closed c.in_ok-arrow.was c.close.ensures).1) c.term.ensures.0)) in let j = (known c.in_ok-left-in-12.was (moved c.skip-in-12.ensures c.term-in-12.ensures.0)) in next (counted {c = c.args.from.count} {d = c.args.from.count} (omega arith) (framed _ h)) (next (framed _ i) (takes {m = c.in_ok-right.right.count + 4} (omega arith) (only _ kind.comma (sym c.kind_at.ensures.is ∙ c.in-12.is) (λ γ. refl)) (fails (next (framed _ j) (known c.in_err-rest-in-12.was c.pairs.ensures.0))) (omega arith))), tt))

pub pairs-returns-in_err-left-in-12 : goal.pairs-returns-in_err-left-in-12
unfolding compute_form
pairs-returns-in_err-left-in-12 t c = rw (exits c.from_residual-in_err-left-in-12.result c.from_residual-in_err-left-in-12.ensures.1) ((let h = (known c.in_ok-arrow.was (c.close.ensures.reads kind.maplet refl)) in let i = (known c.in_ok-right.was (moved (refl, (closed c.in_ok-arrow.was c.close.ensures).1) c.term.ensures.0)) in next (counted {c = c.args.from.count} {d = c.args.from.count} (omega arith) (framed (a_term c.args.reach.depth c.args.reach.names ∷ a_pairs c.args.reach.depth c.args.reach.names ∷ []) h)) (next (framed (a_pairs c.args.reach.depth c.args.reach.names ∷ []) i) (takes {m = c.in_ok-right.right.count + 4} (omega arith) (only _ kind.comma (sym c.kind_at.ensures.is ∙ c.in-12.is) (λ γ. refl)) (fails (framed (exact kind.maplet ∷ a_term c.args.reach.depth c.args.reach.names ∷ a_pairs c.args.reach.depth c.args.reach.names ∷ []) (known c.in_err-left-in-12.was (moved c.skip-in-12.ensures c.term-in-12.ensures.0)))) (omega arith))), tt))

pub pairs-returns-in_default : goal.pairs-returns-in_default
unfolding compute_form
pairs-returns-in_default t c = (let h = (known c.in_ok-arrow.was (c.close.ensures.reads kind.maplet refl)) in let i = (known c.in_ok-right.was (moved (refl, (closed c.in_ok-arrow.was c.close.ensures).1) c.term.ensures.0)) in next (counted {c = c.args.from.count} {d = c.args.from.count} (omega arith) (framed _ h)) (next (framed _ i) (faulty c.no_dossier.ensures (stops (omega arith) (λ κ e γ. pairs-stop c.args.reach.depth c.args.reach.names κ γ (λ q. omega (arith, c.kind_at.ensures.is, e, q)) (λ q. omega (arith, c.kind_at.ensures.is, e, q))) (λ γ. refl)))), tt)

pub pairs-returns-in_err-right : goal.pairs-returns-in_err-right
unfolding compute_form
pairs-returns-in_err-right t c = rw (exits c.from_residual-in_err-right.result c.from_residual-in_err-right.ensures.1) ((let h = (known c.in_ok-arrow.was (c.close.ensures.reads kind.maplet refl)) in next (counted {c = c.args.from.count} {d = c.args.from.count} (omega arith) (framed _ h)) (fails (framed _ (known c.in_err-right.was (moved (refl, (closed c.in_ok-arrow.was c.close.ensures).1) c.term.ensures.0)))), tt))

pub pairs-returns-in_err-arrow : goal.pairs-returns-in_err-arrow
unfolding compute_form
pairs-returns-in_err-arrow t c = rw (exits c.from_residual.result c.from_residual.ensures.1) ((fails (framed _ (known c.in_err-arrow.was (c.close.ensures.reads kind.maplet refl))), tt))

pub paren-returns : goal.paren-returns
unfolding compute_form
paren-returns t c = (wider (likewise (λ κ e γ. as_pred c.args.reach.depth c.args.reach.names κ γ (no-class c.is_quantifier.ensures.classes c.if-is_quantifier.false κ (e ∙ sym c.kind_at.ensures.is))) (λ γ. refl) (next (framed _ (known c.in_ok-inner.was (moved c.skip.ensures c.pred.ensures.0))) (c.close.ensures.reads kind.close_paren refl))) (omega arith), let w₁ = (made-there c.skip.ensures (made c.in_ok-inner.was c.pred.ensures.1)) in closing c.close.ensures (λ q. makes (built w₁) (derived.parenthesised c.requires.1 w₁.derives q)))

pub paren-returns-in_err-inner : goal.paren-returns-in_err-inner
unfolding compute_form
paren-returns-in_err-inner t c = rw (exits c.from_residual.result c.from_residual.ensures.1) ((likewise (λ κ e γ. as_pred c.args.reach.depth c.args.reach.names κ γ (no-class c.is_quantifier.ensures.classes c.if-is_quantifier.false κ (e ∙ sym c.kind_at.ensures.is))) (λ γ. refl) (fails (framed (exact kind.close_paren ∷ []) (known c.in_err-inner.was (moved c.skip.ensures c.pred.ensures.0)))), tt))

pub pred-returns : goal.pred-returns
unfolding compute_form
pred-returns t c = (whole-pred c.pred_from.ensures.0, c.pred_from.ensures.1)

pub pred_from-returns : goal.pred_from-returns
unfolding compute_form
pred_from-returns t c = (record { reads = λ base q. next (framed _ (known c.in_ok-first.was c.unary.ensures.0)) (c.pred_rest.ensures.0.reads base q); stops = c.pred_rest.ensures.0.stops }, let w₁ = (made c.in_ok-first.was c.unary.ensures.1) in onward _ c.pred_rest.result (built w₁) (λ k v x. derived.pred_from w₁.derives x) c.pred_rest.ensures.1)

pub pred_from-returns-in_err-first : goal.pred_from-returns-in_err-first
unfolding compute_form
pred_from-returns-in_err-first t c = rw (exits c.from_residual.result c.from_residual.ensures.1) ((record { reads = λ base q. fails (framed _ (known c.in_err-first.was c.unary.ensures.0)); stops = tt }, tt))

pub pred_more-returns-in_err-within : goal.pred_more-returns-in_err-within
unfolding compute_form
pred_more-returns-in_err-within t c = rw (exits c.from_residual.result c.from_residual.ensures.1) (let stop = deepened c.args.reach c.args.from.at c.in_err-within.was c.deeper.ensures in (λ base q. faulty stop.1 (refused (opens (suc c.args.reach.depth)) (omega arith) (open-deep c.args.y.now.kinds.now c.args.from.at (suc c.args.reach.depth) (omega (arith, stop.0)) (other-kind c.args.y.now.kinds.now c.args.from.at (λ q. absurd (omega (arith, c.requires.3.class kind.minus (sym q)))))) (λ κ e γ. pred-rest-step base c.args.reach.depth c.args.reach.names κ γ (c.requires.3.class κ e ∙ c.if-l-eq-IMPLIES_LEVEL.true))), tt, λ min q. tt))

pub pred_more-returns-then-l-eq-IMPLIES_LEVEL : goal.pred_more-returns-then-l-eq-IMPLIES_LEVEL
unfolding compute_form
pred_more-returns-then-l-eq-IMPLIES_LEVEL t c = let step = deepened c.args.reach c.args.from.at c.in_ok-within.was c.deeper.ensures in let g = (known c.in_ok-conclusion.was (moved c.skip.ensures (c.pred_from.ensures.0.reads 0 (λ z. absurd (omega arith))))) in (λ base q. let h = (known c.in_ok-conclusion.was (moved c.skip.ensures (c.pred_from.ensures.0.reads base (λ z. absurd (omega arith))))) in placed c.with_node.ensures.0 (taken {m = c.args.from.count + 4} (opens (suc c.args.reach.depth)) (omega arith) (open_well c.args.y.now.kinds.now c.args.from.at (suc c.args.reach.depth) (omega (arith, step.0))) (λ κ e γ. pred-rest-step base c.args.reach.depth c.args.reach.names κ γ (c.requires.3.class κ e ∙ c.if-l-eq-IMPLIES_LEVEL.true)) (next (counted (omega arith) (lowered {b = c.args.reach.names} (λ x y. a_unary x c.args.reach.names ∷ a_pred_rest base x c.args.reach.names ∷ []) (step.0, step.1, refl) (kept-names (λ y. a_unary c.in_ok-within.within.depth y ∷ a_pred_rest base c.in_ok-within.within.depth y ∷ []) (λ y. a_pred_rest base c.in_ok-within.within.depth y ∷ []) step.2 h))) (likewise (λ κ e γ. rest-depth base c.in_ok-within.within.depth c.args.reach.depth c.args.reach.names κ γ (known-level c.args.y.now.kinds.now 2 c.in_ok-conclusion.was c.pred_from.ensures.0.stops κ e)) (λ γ. refl) (here (omega arith)))) (omega arith)), omega arith, λ min q. let w₁ = (made-there c.skip.ensures (made c.in_ok-conclusion.was c.pred_from.ensures.1)) in chain (both (built w₁) (node_of (c.from.ensures ∙ c.kind_at-k.ensures.is) refl c.with_node.ensures.1)) (λ k u x. derived.implied (class-at refl c.if-l-eq-IMPLIES_LEVEL.true c.requires.3) (omega arith) w₁.derives (from c.with_node.ensures.0 x)))

pub pred_more-returns-in_err-conclusion : goal.pred_more-returns-in_err-conclusion
unfolding compute_form
pred_more-returns-in_err-conclusion t c = let step = deepened c.args.reach c.args.from.at c.in_ok-within.was c.deeper.ensures in rw (exits c.from_residual-in_err-conclusion.result c.from_residual-in_err-conclusion.ensures.1) ((λ base q. taken {m = c.args.from.count + 4} (opens (suc c.args.reach.depth)) (omega arith) (open_well c.args.y.now.kinds.now c.args.from.at (suc c.args.reach.depth) (omega (arith, step.0))) (λ κ e γ. pred-rest-step base c.args.reach.depth c.args.reach.names κ γ (c.requires.3.class κ e ∙ c.if-l-eq-IMPLIES_LEVEL.true)) (fails (lowered (λ x y. a_unary x y ∷ a_pred_rest base x y ∷ []) step (known c.in_err-conclusion.was (moved c.skip.ensures (c.pred_from.ensures.0.reads base (λ z. absurd (omega arith))))))) (omega arith), tt, λ min q. tt))

pub pred_more-returns : goal.pred_more-returns
unfolding compute_form
pred_more-returns t c = let g = (known c.in_ok-right.was (moved c.skip-2.ensures (c.pred_from-2.ensures.0.reads 0 (λ z. absurd (omega arith))))) in (λ base q. let h = (known c.in_ok-right.was (moved c.skip-2.ensures (c.pred_from-2.ensures.0.reads base (λ z. absurd (omega arith))))) in takes {m = c.args.from.count + 4} (omega arith) (λ κ e γ. rest-connective base c.args.reach.depth c.args.reach.names c.args.l κ γ (c.requires.3.class κ e) (omega arith) c.if-l-eq-IMPLIES_LEVEL.false q) (handed c.with_node-2.ensures.0 (omega arith) h) (omega arith), omega arith, λ min q. let w₁ = (made-there c.skip-2.ensures (made c.in_ok-right.was c.pred_from-2.ensures.1)) in chain (both (built w₁) (node_of (c.from-2.ensures ∙ c.kind_at-k.ensures.is) refl c.with_node-2.ensures.1)) (λ k u x. derived.connected c.requires.3 (omega arith) c.if-l-eq-IMPLIES_LEVEL.false (omega arith) w₁.derives (from c.with_node-2.ensures.0 x)))

pub pred_more-returns-in_err-right : goal.pred_more-returns-in_err-right
unfolding compute_form
pred_more-returns-in_err-right t c = rw (exits c.from_residual-in_err-right.result c.from_residual-in_err-right.ensures.1) ((λ base q. takes {m = c.args.from.count + 4} (omega arith) (λ κ e γ. rest-connective base c.args.reach.depth c.args.reach.names c.args.l κ γ (c.requires.3.class κ e) (omega arith) c.if-l-eq-IMPLIES_LEVEL.false q) (fails (known c.in_err-right.was (moved c.skip-2.ensures (c.pred_from-2.ensures.0.reads base (λ z. absurd (omega arith)))))) (omega arith), tt, λ min q. tt))

pub related-returns-then-not-is_membership : goal.related-returns-then-not-is_membership
unfolding compute_form
related-returns-then-not-is_membership t c = (faulty c.no_dossier.ensures (stops (omega arith) (λ κ e γ. mem-step c.args.reach.depth c.args.reach.names κ γ (no-class c.is_membership.ensures.classes c.if-not-is_membership.true κ (e ∙ sym c.kind_at-k.ensures.is))) (λ γ. refl)), tt)

pub related-returns : goal.related-returns
unfolding compute_form
related-returns t c = (let h = (known c.in_ok-set.was (moved c.skip.ensures c.term.ensures.0)) in takes {m = c.args.from.count + 4} (omega arith) (λ κ e γ. mem-some c.args.reach.depth c.args.reach.names 1 κ γ (c.is_membership.ensures.classes.class κ (e ∙ sym c.kind_at-k.ensures.is) ∙ ap bit c.if-not-is_membership.false) (λ q. omega (arith, q))) (handed c.with_node.ensures.0 (omega arith) h) (omega arith), let w₁ = (made-there c.skip.ensures (made c.in_ok-set.was c.term.ensures.1)) in makes-at c.with_node.ensures.0 (both (built w₁) (node_of (c.from.ensures ∙ c.kind_at-k.ensures.is) refl c.with_node.ensures.1)) (derived.related (membership-at c.kind_at-k.ensures.is (c.is_membership.ensures.member c.if-not-is_membership.false)) w₁.derives))

pub related-returns-in_err-set : goal.related-returns-in_err-set
unfolding compute_form
related-returns-in_err-set t c = rw (exits c.from_residual.result c.from_residual.ensures.1) ((takes {m = c.args.from.count} (omega arith) (λ κ e γ. mem-some c.args.reach.depth c.args.reach.names 1 κ γ (c.is_membership.ensures.classes.class κ (e ∙ sym c.kind_at-k.ensures.is) ∙ ap bit c.if-not-is_membership.false) (λ q. omega (arith, q))) (fails (known c.in_err-set.was (moved c.skip.ensures c.term.ensures.0))) (omega arith), tt))

pub term-returns : goal.term-returns
unfolding compute_form
term-returns t c = (whole-term c.term_from.ensures.0, c.term_from.ensures.1)

pub term_from-returns : goal.term_from-returns
unfolding compute_form
term_from-returns t c = (record { reads = likewise (λ κ e γ. as-operand c.args.reach.depth c.args.reach.names κ γ) (λ γ. refl) (next (framed _ (known c.in_ok-first.was c.operand.ensures.0)) c.term_rest.ensures.0.reads); stops = c.term_rest.ensures.0.stops }, let w₁ = (made c.in_ok-first.was c.operand.ensures.1) in onward _ c.term_rest.result (built w₁) (λ k v x. derived.term_from w₁.derives x) c.term_rest.ensures.1)

pub term_from-returns-in_err-first : goal.term_from-returns-in_err-first
unfolding compute_form
term_from-returns-in_err-first t c = rw (exits c.from_residual.result c.from_residual.ensures.1) ((record { reads = likewise (λ κ e γ. as-operand c.args.reach.depth c.args.reach.names κ γ) (λ γ. refl) (fails (framed (a_term_rest c.args.reach.depth c.args.reach.names ∷ []) (known c.in_err-first.was c.operand.ensures.0))); stops = tt }, tt))

pub unary-returns-in_ok-first-in-Term : goal.unary-returns-in_ok-first-in-Term
unfolding compute_form
unary-returns-in_ok-first-in-Term t c = let r = ap start_class c.in-Term.is in (likewise (λ κ e γ. as-term c.args.reach.depth c.args.reach.names κ γ (c.pred_start_of-start.ensures.classes.class κ (e ∙ sym c.kind_at-k.ensures.is) ∙ r)) (λ γ. refl) (next (framed _ (known c.in_ok-first-in-Term.was c.term.ensures.0)) c.atom.ensures.0), let w₁ = (made c.in_ok-first-in-Term.was c.term.ensures.1) in onward _ c.atom.result (built w₁) (λ k v x. derived.atomic w₁.derives x) c.atom.ensures.1)

pub unary-returns-in_err-first-in-Term : goal.unary-returns-in_err-first-in-Term
unfolding compute_form
unary-returns-in_err-first-in-Term t c = rw (exits c.from_residual.result c.from_residual.ensures.1) (let r = ap start_class c.in-Term.is in (likewise (λ κ e γ. as-term c.args.reach.depth c.args.reach.names κ γ (c.pred_start_of-start.ensures.classes.class κ (e ∙ sym c.kind_at-k.ensures.is) ∙ r)) (λ γ. refl) (fails (framed (a_rel c.args.reach.depth c.args.reach.names ∷ []) (known c.in_err-first-in-Term.was c.term.ensures.0))), tt))

pub unary-returns-in-Truth : goal.unary-returns-in-Truth
unfolding compute_form
unary-returns-in-Truth t c = let r = ap start_class c.in-Truth.is in let at = c.with_node.ensures.0 ∙ c.skip-behind.ensures.0 in (takes (omega arith) (λ κ e γ. unary-step c.args.reach.depth c.args.reach.names κ γ (c.pred_start_of-start.ensures.classes.class κ (e ∙ sym c.kind_at-k.ensures.is) ∙ r)) (placed at (here (omega arith))) (omega arith), makes-at at (node_of (c.from.ensures ∙ c.kind_at-k.ensures.is) refl (rw c.skip-behind.ensures.1 at c.with_node.ensures.1)) (derived.truth_value (class-at c.kind_at-k.ensures.is r c.pred_start_of-start.ensures.classes)))

pub unary-returns-in_err-within-in-Negation : goal.unary-returns-in_err-within-in-Negation
unfolding compute_form
unary-returns-in_err-within-in-Negation t c = rw (exits c.from_residual-in_err-within-in-Negation.result c.from_residual-in_err-within-in-Negation.ensures.1) (let r = ap start_class c.in-Negation.is in let stop = deepened c.args.reach c.args.from.at c.in_err-within-in-Negation.was c.deeper.ensures in (faulty stop.1 (refused (opens (suc c.args.reach.depth)) (omega arith) (open-deep c.args.y.now.kinds.now c.args.from.at (suc c.args.reach.depth) (omega (arith, stop.0)) (other-kind c.args.y.now.kinds.now c.args.from.at (λ q. let z : ◌≡◌ {A = ℕ} 0 2 = c.pred_start_of-start.ensures.classes.class kind.minus (sym (c.kind_at-k.ensures.is ∙ q)) ∙ r in absurd (omega arith)))) (λ κ e γ. unary-step c.args.reach.depth c.args.reach.names κ γ (c.pred_start_of-start.ensures.classes.class κ (e ∙ sym c.kind_at-k.ensures.is) ∙ r))), tt))

pub unary-returns-in_ok-denied-in-Negation : goal.unary-returns-in_ok-denied-in-Negation
unfolding compute_form
unary-returns-in_ok-denied-in-Negation t c = let step = deepened c.args.reach c.args.from.at c.in_ok-within-in-Negation.was c.deeper.ensures in let r = ap start_class c.in-Negation.is in (let h = (known c.in_ok-denied-in-Negation.was (moved c.skip.ensures c.unary.ensures.0)) in taken {m = c.args.from.count + 4} (opens (suc c.args.reach.depth)) (omega arith) (open_well c.args.y.now.kinds.now c.args.from.at (suc c.args.reach.depth) (omega (arith, step.0))) (λ κ e γ. unary-step c.args.reach.depth c.args.reach.names κ γ (c.pred_start_of-start.ensures.classes.class κ (e ∙ sym c.kind_at-k.ensures.is) ∙ r)) (handed c.with_node-in-Negation.ensures.0 (omega arith) (lowered (λ x y. a_unary x y ∷ []) step h)) (omega arith), let w₁ = (made-there c.skip.ensures (made c.in_ok-denied-in-Negation.was c.unary.ensures.1)) in makes-at c.with_node-in-Negation.ensures.0 (both (built w₁) (wrote c.with_node-in-Negation.ensures.1)) (derived.denied (class-at c.kind_at-k.ensures.is r c.pred_start_of-start.ensures.classes) w₁.derives))

pub unary-returns-in_err-denied-in-Negation : goal.unary-returns-in_err-denied-in-Negation
unfolding compute_form
unary-returns-in_err-denied-in-Negation t c = let step = deepened c.args.reach c.args.from.at c.in_ok-within-in-Negation.was c.deeper.ensures in rw (exits c.from_residual-in_err-denied-in-Negation.result c.from_residual-in_err-denied-in-Negation.ensures.1) (let r = ap start_class c.in-Negation.is in (taken {m = c.args.from.count + 4} (opens (suc c.args.reach.depth)) (omega arith) (open_well c.args.y.now.kinds.now c.args.from.at (suc c.args.reach.depth) (omega (arith, step.0))) (λ κ e γ. unary-step c.args.reach.depth c.args.reach.names κ γ (c.pred_start_of-start.ensures.classes.class κ (e ∙ sym c.kind_at-k.ensures.is) ∙ r)) (fails (lowered (λ x y. a_unary x y ∷ []) step (known c.in_err-denied-in-Negation.was (moved c.skip.ensures c.unary.ensures.0)))) (omega arith), tt))

pub unary-returns-in_err-within-in-Paren : goal.unary-returns-in_err-within-in-Paren
unfolding compute_form
unary-returns-in_err-within-in-Paren t c = rw (exits c.from_residual-in_err-within-in-Paren.result c.from_residual-in_err-within-in-Paren.ensures.1) (let r = ap start_class c.in-Paren.is in let stop = deepened c.args.reach c.args.from.at c.in_err-within-in-Paren.was c.deeper-in-Paren.ensures in (faulty stop.1 (refused (opens (suc c.args.reach.depth)) (omega arith) (open-deep c.args.y.now.kinds.now c.args.from.at (suc c.args.reach.depth) (omega (arith, stop.0)) (other-kind c.args.y.now.kinds.now c.args.from.at (λ q. absurd (omega arith)))) (λ κ e γ. paren-opens c.args.reach.depth c.args.reach.names 3 κ γ (c.pred_start_of-start.ensures.classes.class κ (e ∙ sym c.kind_at-k.ensures.is) ∙ r) (omega arith))), tt))

pub unary-returns-in_ok-within-in-Paren : goal.unary-returns-in_ok-within-in-Paren
unfolding compute_form
unary-returns-in_ok-within-in-Paren t c = let step = deepened c.args.reach c.args.from.at c.in_ok-within-in-Paren.was c.deeper-in-Paren.ensures in let r = ap start_class c.in-Paren.is in (taken (opens (suc c.args.reach.depth)) (omega arith) (open_well c.args.y.now.kinds.now c.args.from.at (suc c.args.reach.depth) (omega (arith, step.0))) (λ κ e γ. paren-opens c.args.reach.depth c.args.reach.names 3 κ γ (c.pred_start_of-start.ensures.classes.class κ (e ∙ sym c.kind_at-k.ensures.is) ∙ r) (omega arith)) (lowered (λ x y. a_paren x y ∷ []) step c.paren.ensures.0) (omega arith), c.paren.ensures.1)

pub term_more-returns-in_ok-divisor-in-Division : goal.term_more-returns-in_ok-divisor-in-Division
unfolding compute_form
term_more-returns-in_ok-divisor-in-Division t c = let e = (rw (c.skip.ensures.0, c.skip.ensures.1) at c.end.ensures) in let three : operator_number c.args.o ≡ 3 = ap operator_number c.in-Division.is in let h = (known c.in_ok-divisor-in-Division.was e.0.reads) in let i = known-ahead _ c.in_ok-divisor-in-Division.was e.0.ahead in let v = known-shown (EndAt c.args.y.now.kinds.now (c.args.from.at + 1)) _ c.in_ok-divisor-in-Division.was e.1 in (takes {m = c.args.from.count} (omega arith) (λ κ e γ. rest-division c.args.reach.depth c.args.reach.names (operator_number c.args.o) κ γ (c.requires.2.class κ e) (omega arith)) (handed {c = c.args.from.count} c.with_node.ensures.0 (omega arith) (framed _ h)) (omega arith), omega arith, λ min q. chain (node_of c.magnitude-x.ensures c.division-kind.ensures (rw v.1 at c.with_node.ensures.1)) (λ k u x. derived.divided c.requires.2 (omega arith) (omega (arith, level-two (operator_number c.args.o))) v.0 (from c.with_node.ensures.0 x)))

pub term_more-returns-in_err-divisor-in-Division : goal.term_more-returns-in_err-divisor-in-Division
unfolding compute_form
term_more-returns-in_err-divisor-in-Division t c = let e = (rw (c.skip.ensures.0, c.skip.ensures.1) at c.end.ensures) in rw (exits c.from_residual.result c.from_residual.ensures.1) (let three : operator_number c.args.o ≡ 3 = ap operator_number c.in-Division.is in (takes {m = c.args.from.count} (omega arith) (λ κ e γ. rest-division c.args.reach.depth c.args.reach.names (operator_number c.args.o) κ γ (c.requires.2.class κ e) (omega arith)) (fails (framed (a_term_rest c.args.reach.depth c.args.reach.names ∷ []) (known c.in_err-divisor-in-Division.was e.0.reads))) (omega arith), tt, λ min q. tt))

pub term_more-returns-in_ok-right-in-Loose : goal.term_more-returns-in_ok-right-in-Loose
unfolding compute_form
term_more-returns-in_ok-right-in-Loose t c = let side = not-division c.args.o (search rules) in let level : c.level.result ≡ operator_number c.args.o = c.level.ensures ∙ side.2 in let h = (known c.in_ok-right-in-Loose.was (moved c.skip-in-Loose.ensures c.term_from.ensures.0.reads)) in (takes {m = c.args.from.count + 4} (omega arith) (λ κ e γ. rest-binary c.args.reach.depth c.args.reach.names (operator_number c.args.o) κ γ (c.requires.2.class κ e) side.0 (omega (arith, side.1))) (handed {c = c.args.from.count + 4} c.with_node-in-Loose.ensures.0 (omega arith) h) (omega arith), (omega arith), λ min q. let w₁ = made-there c.skip-in-Loose.ensures (made c.in_ok-right-in-Loose.was c.term_from.ensures.1) in chain (both (built w₁) (node_of (c.from.ensures ∙ c.kind_at-k.ensures.is) refl c.with_node-in-Loose.ensures.1)) (λ k u x. derived.operated c.requires.2 side.0 side.1 (omega arith) (at-level level w₁.derives) (from c.with_node-in-Loose.ensures.0 x)))

pub term_more-returns-in_err-right-in-Loose : goal.term_more-returns-in_err-right-in-Loose
unfolding compute_form
term_more-returns-in_err-right-in-Loose t c = rw (exits c.from_residual-in_err-right-in-Loose.result c.from_residual-in_err-right-in-Loose.ensures.1) (let side = not-division c.args.o (search rules) in (takes {m = c.args.from.count + 4} (omega arith) (λ κ e γ. rest-binary c.args.reach.depth c.args.reach.names (operator_number c.args.o) κ γ (c.requires.2.class κ e) side.0 (omega (arith, side.1))) (fails (known c.in_err-right-in-Loose.was (moved c.skip-in-Loose.ensures c.term_from.ensures.0.reads))) (omega arith), tt, λ min q. tt))

pub term_rest-loop-o-preserved : goal.term_rest-loop-o-preserved
unfolding compute_form
term_rest-loop-o-preserved t c = let found = operator-some c.in-Some.is c.operator_at.ensures in (next c.loop-o.invariant.0 (known c.in_ok-read.was c.term_more.ensures.0), more-then c.loop-o.invariant.1 (more-known c.in_ok-read.was (c.term_more.ensures.2 (c.args.above + 1) found.1)), search rules)

pub term_rest-returns : goal.term_rest-returns
unfolding compute_form
term_rest-returns t c = let none = operator-none c.in_default.is c.operator_at.ensures in (record { reads = c.loop-o.invariant.0; stops = none }, more-made c.loop-o.invariant.1 (derived.term_stops none))

pub pred_rest-pred_more-requires : goal.pred_rest-pred_more-requires
pred_rest-pred_more-requires t c = let so = c.loop-l.invariant.0 c.args.reach.depth (λ z. refl) in let long = c.loop-l.invariant.2 in let found = connective-some c.in-Some.is c.connective_at.ensures in (omega arith, (record { inside = omega arith; written = omega arith; long = omega arith }, omega (arith, found.1), found.2, found.0))

pub pred_rest-loop-l-preserved : goal.pred_rest-loop-l-preserved
unfolding compute_form
pred_rest-loop-l-preserved t c = let found = connective-some c.in-Some.is c.connective_at.ensures in let least = found.1 in (λ base q. next (c.loop-l.invariant.0 base q) (known c.in_ok-read.was (c.pred_more.ensures.0 base (λ z. q (omega arith)))), more-then c.loop-l.invariant.1 (more-known c.in_ok-read.was (c.pred_more.ensures.2 (c.args.above + 1) least)), search rules)

pub pred_rest-returns-in_err-read : goal.pred_rest-returns-in_err-read
unfolding compute_form
pred_rest-returns-in_err-read t c = rw (exits c.from_residual.result c.from_residual.ensures.1) (let found = connective-some c.in-Some.is c.connective_at.ensures in let least = found.1 in (record { reads = λ base q. next (c.loop-l.invariant.0 base q) (known c.in_err-read.was (c.pred_more.ensures.0 base (λ z. q (omega arith)))); stops = tt }, tt))

pub pred_rest-returns : goal.pred_rest-returns
unfolding compute_form
pred_rest-returns t c = let none = connective-none c.in_default.is c.connective_at.ensures in (record { reads = c.loop-l.invariant.0; stops = none }, more-made c.loop-l.invariant.1 (derived.pred_stops none))

pub such-returns-in_err-within : goal.such-returns-in_err-within
unfolding compute_form
such-returns-in_err-within t c = let stop = bound c.args.reach (c.args.from.at + 1) c.in_err-within.was c.with_name.ensures in rw (exits c.from_residual.result c.from_residual.ensures.1) (faulty stop.1 (refused {ρ = λ γ. a_named c.args.reach.depth c.args.reach.names ∷ γ} (binds (suc c.args.reach.names)) (inside c.args.y.now.kinds.now (c.args.from.at + 1) (omega (arith, c.requires.2))) (bound-deep c.args.y.now.kinds.now c.args.from.at (suc c.args.reach.names) (omega (arith, stop.0)) c.requires.3) (only _ kind.plain c.requires.2 (λ γ. refl))), tt)

pub such-returns-in_err-over : goal.such-returns-in_err-over
unfolding compute_form
such-returns-in_err-over t c = let step = bound c.args.reach (c.args.from.at + 1) c.in_ok-within.was c.with_name.ensures in rw (exits c.from_residual-in_err-over.result c.from_residual-in_err-over.ensures.1) (such_name {m = c.args.from.count} c.requires.2 c.requires.3 step.0 (unnamed c.in_err-over.was c.name_at.ensures (omega (arith, inside c.args.y.now.kinds.now (c.args.from.at + 1 + 1) (omega (arith, c.requires.3))))) (omega arith), tt)

pub such-returns-in_err-bar : goal.such-returns-in_err-bar
unfolding compute_form
such-returns-in_err-bar t c = let step = bound c.args.reach (c.args.from.at + 1) c.in_ok-within.was c.with_name.ensures in let name = name-read c.in_ok-over.was c.name_at.ensures in rw (exits c.from_residual-in_err-bar.result c.from_residual-in_err-bar.ensures.1) (such_name {m = c.args.from.count} c.requires.2 c.requires.3 step.0 (takes {m = c.args.from.count} (name-inside name.0) (λ κ e γ. name-taken κ _ (name-class name.0 κ e)) (fails (framed (a_unary c.args.reach.depth (suc c.args.reach.names) ∷ a_pred_rest c.args.reach.depth c.args.reach.depth (suc c.args.reach.names) ∷ exact kind.close_brace ∷ []) (known c.in_err-bar.was (c.close.ensures.reads kind.bar refl)))) (omega arith)) (omega arith), tt)

pub such-returns-in_err-body : goal.such-returns-in_err-body
unfolding compute_form
such-returns-in_err-body t c = let step = bound c.args.reach (c.args.from.at + 1) c.in_ok-within.was c.with_name.ensures in let name = name-read c.in_ok-over.was c.name_at.ensures in let h = known c.in_ok-bar.was (c.close.ensures.reads kind.bar refl) in let t = closed c.in_ok-bar.was c.close.ensures in rw (exits c.from_residual-in_err-body.result c.from_residual-in_err-body.ensures.1) (such_name {m = c.args.from.count} c.requires.2 c.requires.3 step.0 (takes {m = c.args.from.count + 4} (name-inside name.0) (λ κ e γ. name-taken κ _ (name-class name.0 κ e)) (next (counted {c = c.args.from.count + 4} {d = c.args.from.count} (omega arith) (framed (a_unary c.args.reach.depth (suc c.args.reach.names) ∷ a_pred_rest c.args.reach.depth c.args.reach.depth (suc c.args.reach.names) ∷ exact kind.close_brace ∷ []) h)) (fails (framed (exact kind.close_brace ∷ []) (naming (λ x y. a_unary x y ∷ a_pred_rest x x y ∷ []) step (known c.in_err-body.was (moved (refl, t.1) c.pred.ensures.0)))))) (omega arith)) (omega arith), tt)

pub such-returns : goal.such-returns
unfolding compute_form
such-returns t c = let step = bound c.args.reach (c.args.from.at + 1) c.in_ok-within.was c.with_name.ensures in let name = name-read c.in_ok-over.was c.name_at.ensures in let h = known c.in_ok-bar.was (c.close.ensures.reads kind.bar refl) in let t = closed c.in_ok-bar.was c.close.ensures in let place = c.with_node-named.ensures.0 ∙ c.with_node-ranged.ensures.0 in let end = (rw place at c.close-2.ensures) in let j = known c.in_ok-body.was (moved (refl, t.1) c.pred.ensures.0) in (such_name {m = c.args.from.count} c.requires.2 c.requires.3 step.0 (takes {m = c.args.from.count + 4} (name-inside name.0) (λ κ e γ. name-taken κ _ (name-class name.0 κ e)) (next (counted {c = c.args.from.count + 4} {d = c.args.from.count + 8} (omega arith) (framed _ h)) (next (counted {c = c.args.from.count + 8} (omega arith) (framed _ (naming (λ x y. a_unary x y ∷ a_pred_rest x x y ∷ []) step j))) (end.reads kind.close_brace refl))) (omega arith)) (omega arith), let w₁ = made-there (refl, t.1) (made c.in_ok-body.was c.pred.ensures.1) in closing end (λ q. makes (both (both (built w₁) (node_of name.1 refl c.with_node-ranged.ensures.1)) (node_of c.name_number-x.ensures refl c.with_node-named.ensures.1)) (derived.such c.requires.1 c.requires.2 c.requires.3 name.0 t.0.1 (from t.0.0 w₁.derives) q)))

pub quantified-returns-in_err-name : goal.quantified-returns-in_err-name
unfolding compute_form
quantified-returns-in_err-name t c = let u = unclosed c.in_err-name.was c.close.ensures in rw (exits c.from_residual.result c.from_residual.ensures.1) (quantifier c.requires.1 c.requires.2 (faulty u.1 (stops (omega (arith, inside c.args.y.now.kinds.now (c.args.from.at + 1) (omega (arith, c.requires.1)))) (λ κ e γ. declared-stops (binds (suc c.args.reach.names)) κ _ (λ q. u.0 (omega arith) (sym e ∙ q))) (λ γ. refl))), tt)

pub quantified-returns-in_err-within : goal.quantified-returns-in_err-within
unfolding compute_form
quantified-returns-in_err-within t c = let name = closed c.in_ok-name.was c.close.ensures in let stop = bound c.args.reach (c.args.from.at + 1 + 1) c.in_err-within.was c.with_name.ensures in rw (exits c.from_residual-in_err-within.result c.from_residual-in_err-within.ensures.1) (faulty stop.1 (quantifier c.requires.1 c.requires.2 (refused {ρ = λ γ. exact kind.colon ∷ a_domain ∷ exact kind.spot ∷ a_unary c.args.reach.depth (suc c.args.reach.names) ∷ a_pred_rest c.args.reach.depth c.args.reach.depth (suc c.args.reach.names) ∷ exact kind.close_paren ∷ γ} (binds (suc c.args.reach.names)) (inside c.args.y.now.kinds.now (c.args.from.at + 1 + 1) (omega (arith, name.0.1))) (bound-elsewhere c.args.y.now.kinds.now (c.args.from.at + 1) (suc c.args.reach.names) (omega (arith, stop.0)) (λ q. absurd (omega (arith, c.requires.1)))) (only _ kind.plain name.0.1 (λ γ. refl)))), tt)

pub quantified-returns-in_err-colon : goal.quantified-returns-in_err-colon
unfolding compute_form
quantified-returns-in_err-colon t c = let step = bound c.args.reach (c.args.from.at + 1 + 1) c.in_ok-within.was c.with_name.ensures in let name = closed c.in_ok-name.was c.close.ensures in let here = (rw (name.0.0, name.1) at c.close-2.ensures) in rw (exits c.from_residual-in_err-colon.result c.from_residual-in_err-colon.ensures.1) (quantifier c.requires.1 c.requires.2 (bound_name {m = c.args.from.count} name.0.1 step.0 (fails (framed _ (known c.in_err-colon.was (here.reads kind.colon refl)))) (omega arith)), tt)

pub quantified-returns-in_err-over : goal.quantified-returns-in_err-over
unfolding compute_form
quantified-returns-in_err-over t c = let step = bound c.args.reach (c.args.from.at + 1 + 1) c.in_ok-within.was c.with_name.ensures in let name = closed c.in_ok-name.was c.close.ensures in let here = (rw (name.0.0, name.1) at c.close-2.ensures) in let h = known c.in_ok-colon.was (here.reads kind.colon refl) in let z = known-ahead _ c.in_ok-colon.was here.ahead in rw (exits c.from_residual-in_err-over.result c.from_residual-in_err-over.ensures.1) (quantifier c.requires.1 c.requires.2 (bound_name {m = c.args.from.count} name.0.1 step.0 (next (counted {c = c.args.from.count} {d = c.args.from.count + 4} (omega arith) (framed _ h)) (fails (framed _ (known c.in_err-over.was c.domain.ensures.0)))) (omega arith)), tt)

pub quantified-returns-in_err-spot : goal.quantified-returns-in_err-spot
unfolding compute_form
quantified-returns-in_err-spot t c = let step = bound c.args.reach (c.args.from.at + 1 + 1) c.in_ok-within.was c.with_name.ensures in let name = closed c.in_ok-name.was c.close.ensures in let here = (rw (name.0.0, name.1) at c.close-2.ensures) in let h = known c.in_ok-colon.was (here.reads kind.colon refl) in let z = known-ahead _ c.in_ok-colon.was here.ahead in let i = known c.in_ok-over.was c.domain.ensures.0 in rw (exits c.from_residual-in_err-spot.result c.from_residual-in_err-spot.ensures.1) (quantifier c.requires.1 c.requires.2 (bound_name {m = c.args.from.count} name.0.1 step.0 (next (counted {c = c.args.from.count} {d = c.args.from.count + 4} (omega arith) (framed _ h)) (next (counted {c = c.args.from.count + 4} {d = c.args.from.count + 4} (omega arith) (framed _ i)) (fails (framed _ (known c.in_err-spot.was (c.close-3.ensures.reads kind.spot refl)))))) (omega arith)), tt)

pub quantified-returns-in_err-body : goal.quantified-returns-in_err-body
unfolding compute_form
quantified-returns-in_err-body t c = let step = bound c.args.reach (c.args.from.at + 1 + 1) c.in_ok-within.was c.with_name.ensures in let name = closed c.in_ok-name.was c.close.ensures in let here = (rw (name.0.0, name.1) at c.close-2.ensures) in let h = known c.in_ok-colon.was (here.reads kind.colon refl) in let z = known-ahead _ c.in_ok-colon.was here.ahead in let i = known c.in_ok-over.was c.domain.ensures.0 in let j = known c.in_ok-spot.was (c.close-3.ensures.reads kind.spot refl) in let t = closed c.in_ok-spot.was c.close-3.ensures in let o = closed c.in_ok-colon.was here in let v = known-shown (DomainAt c.args.y.now.kinds.now c.in_ok-colon.colon.at) _ c.in_ok-over.was c.domain.ensures.1 in let m = t.1 ∙ v.1 ∙ o.1 in rw (exits c.from_residual-in_err-body.result c.from_residual-in_err-body.ensures.1) (quantifier c.requires.1 c.requires.2 (bound_name {m = c.args.from.count} name.0.1 step.0 (next (counted {c = c.args.from.count} {d = c.args.from.count + 4} (omega arith) (framed _ h)) (next (counted {c = c.args.from.count + 4} {d = c.args.from.count + 4} (omega arith) (framed _ i)) (next (counted {c = c.args.from.count + 4} {d = c.args.from.count + 8} (omega arith) (framed _ j)) (fails (framed _ (naming (λ x y. a_unary x y ∷ a_pred_rest x x y ∷ []) step (known c.in_err-body.was (moved (refl, m) c.pred.ensures.0)))))))) (omega arith)), tt)

pub quantified-returns : goal.quantified-returns
unfolding compute_form
quantified-returns t c = let step = bound c.args.reach (c.args.from.at + 1 + 1) c.in_ok-within.was c.with_name.ensures in let name = closed c.in_ok-name.was c.close.ensures in let here = (rw (name.0.0, name.1) at c.close-2.ensures) in let h = known c.in_ok-colon.was (here.reads kind.colon refl) in let z = known-ahead _ c.in_ok-colon.was here.ahead in let i = known c.in_ok-over.was c.domain.ensures.0 in let j = known c.in_ok-spot.was (c.close-3.ensures.reads kind.spot refl) in let t = closed c.in_ok-spot.was c.close-3.ensures in let o = closed c.in_ok-colon.was here in let v = known-shown (DomainAt c.args.y.now.kinds.now c.in_ok-colon.colon.at) _ c.in_ok-over.was c.domain.ensures.1 in let m = t.1 ∙ v.1 ∙ o.1 in let l = known c.in_ok-body.was (moved (refl, m) c.pred.ensures.0) in (quantifier c.requires.1 c.requires.2 (bound_name {m = c.args.from.count} name.0.1 step.0 (next (counted {c = c.args.from.count} {d = c.args.from.count + 4} (omega arith) (framed _ h)) (next (counted {c = c.args.from.count + 4} {d = c.args.from.count + 4} (omega arith) (framed _ i)) (next (counted {c = c.args.from.count + 4} {d = c.args.from.count + 8} (omega arith) (framed _ j)) (next (counted {c = c.args.from.count + 8} (omega arith) (framed _ (naming (λ x y. a_unary x y ∷ a_pred_rest x x y ∷ []) step l))) (c.close-4.ensures.reads kind.close_paren refl))))) (omega arith)), let w₁ = made-there (refl, m) (made c.in_ok-body.was c.pred.ensures.1) in closing c.close-4.ensures (λ q. makes (both (both (built w₁) (wrote c.put_domain-h.ensures)) (node_of c.name_number-i.ensures (c.from.ensures ∙ c.kind_at-j.ensures.is) c.put-c.ensures)) (ranging c.requires.3 c.requires.1 c.requires.2 name.0.1 o.0 v.0 t.0 w₁.derives q)))

pub such-close-requires : goal.such-close-requires
such-close-requires t c = let name = name-read c.in_ok-over.was c.name_at.ensures in let z = name-inside name.0 in omega arith

pub pred_more-with_node-requires : goal.pred_more-with_node-requires
pred_more-with_node-requires t c = let room = c.requires.0 in let few = c.args.y.now.few in let positive = c.requires.1 in let ahead = c.requires.2 in let small = c.requires.3.small in let g = (known c.in_ok-conclusion.was (moved c.skip.ensures (c.pred_from.ensures.0.reads 0 (λ z. absurd (omega arith))))) in search rules

pub pred_more-with_node-requires-2 : goal.pred_more-with_node-requires-2
pred_more-with_node-requires-2 t c = let room = c.requires.0 in let few = c.args.y.now.few in let positive = c.requires.1 in let ahead = c.requires.2 in let small = c.requires.3.small in let g = (known c.in_ok-right.was (moved c.skip-2.ensures (c.pred_from-2.ensures.0.reads 0 (λ z. absurd (omega arith))))) in search rules

pub term_more-with_node-requires : goal.term_more-with_node-requires
term_more-with_node-requires t c = let e = (rw (c.skip.ensures.0, c.skip.ensures.1) at c.end.ensures) in let v = known-shown (EndAt c.args.y.now.kinds.now (c.args.from.at + 1)) _ c.in_ok-divisor-in-Division.was e.1 in let few = c.args.y.now.few in let room = c.requires.0 in (omega arith, omega arith)

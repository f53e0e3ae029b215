-- `bounded_texts::Bounded::repeat` of bytes meets its contract. Assumes nothing.
use Rattle.std.proofs.Common.{rules, sym, ap, ◌∙◌, arith, ◌++◌, ◌∷◌, [], append-nil, append_assoc, length, replicate}
use Rattle.std.proofs.lemmas.List.{length-append, length-replicate, take-replicate, replicate-append-replicate}
use Rattle.bounded_texts.proofs.RoomLaws.{room-behind}
use Rattle.bounded_texts.proofs.Bounded+u8+N.repeat.Goals as goal

pub loop-init : goal.loop-init
loop-init g c = sym (append-nil c.self.inside.items.items)

pub push-requires : goal.push-requires
push-requires g c =
    let xs = c.self.inside.items.items in
    let l = ap length c.loop.invariant ∙ length-append xs (replicate c.loop.counter c.args.b) in
    (search rules, omega (arith, l, length-replicate c.loop.counter c.args.b))

pub loop-preserved : goal.loop-preserved
loop-preserved g c =
    let xs = c.self.inside.items.items in
    c.push.ensures.items ∙ ap (λ z. z ++ c.args.b ∷ []) c.loop.invariant ∙ append_assoc xs (replicate c.loop.counter c.args.b) (c.args.b ∷ []) ∙ ap (λ z. xs ++ z) (replicate-append-replicate c.loop.counter 1 c.args.b)

pub returns : goal.returns
returns g c =
    let xs = c.self.inside.items.items in
    let m = c.loop.counter in
    let w = replicate c.args.n c.args.b in
    let lw = length-replicate c.args.n c.args.b in
    rw (← c.self.view_is) (c.loop.invariant ∙ ap (λ z. xs ++ z) (sym (take-replicate m c.args.n c.args.b (omega arith))) ∙ room-behind g.row.N c.remaining_capacity.result m xs w c.remaining_capacity.ensures (omega arith))

-- `bounded_texts::Bounded::put_all` meets its contract. Assumes nothing.
use Rattle.std.proofs.Common.{◌∙◌, arith, ◌≤◌, length, take}
use Rattle.std.proofs.lemmas.List.{length-take}
use Rattle.bounded_texts.proofs.RoomLaws.{room-behind, at-ok}
use Rattle.bounded_texts.proofs.Bounded.put_all.Goals as goal

pub returns : goal.returns
returns g c =
    let w = c.args.words.now in
    let m = c.min-n.result in
    let s = c.try_extend_from_slice in
    let l : length (take m w) ≤ c.remaining_capacity.result = omega (arith, length-take m w) in
    let e = at-ok s.result (s.ensures.variant.1 (omega (arith, l))) s.ensures.ok in
    rw (← c.self.view_is) (e ∙ room-behind g.row.N c.remaining_capacity.result m c.self.inside.items.items w c.remaining_capacity.ensures (omega arith))

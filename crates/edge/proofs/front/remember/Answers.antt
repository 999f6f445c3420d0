use Rattle.std.proofs.Common.{sym, ◌∙◌, ap, take, ◌++◌}
use Rattle.edge.proofs.FrontLaws.{front-more}
use Rattle.edge.proofs.front.remember.Goals as goal

pub returns-clause-front : goal.returns-clause-front
returns-clause-front g c =
    let law = front-more c.args.front.now.items c.args.bytes.now c.remaining_capacity.result g.row.N c.remaining_capacity.ensures in
    let grown = rw c.unwrap.ensures at c.try_extend_from_slice.ensures.ok in
    grown ∙ ap (λ n. c.args.front.now.items ++ take n c.args.bytes.now) c.min-room.ensures ∙ sym law

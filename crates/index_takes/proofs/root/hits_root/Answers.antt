use Rattle.index_takes.proofs.HitLaws.{hits-at}
use Rattle.index_takes.proofs.root.hits_root.Goals as goal
use Rattle.std.proofs.Common.{List, ℕ, sym}

pub returns-in-Some : goal.returns-in-Some
returns-in-Some g c = λ said is keys.
    let order = g.C.Collation.order c.args.order.now in
    let spot = c.in-Some.spot in
    let side : List ℕ → _ = λ x. order x c.args.key.now in
    sym (hits-at side said.entries spot.place spot.hit (c.in-Some.ensures.some.found said is))

pub returns-in-None : goal.returns-in-None
returns-in-None g c = λ said is keys. absurd (c.in-None.ensures.none said is keys)

use Rattle.index_puts.proofs.RecordLaws.{tells-free}
use Rattle.index_puts.proofs.root.free_beside.Goals as goal

pub returns : goal.returns
returns c =
    let p = c.place_of in
    tells-free c.args.file.now p.result.record p.result.attribute c.args.i p.ensures.record p.ensures.place p.ensures.attribute
    c.free_bytes.result c.free_bytes.ensures

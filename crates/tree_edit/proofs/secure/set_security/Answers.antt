use Rattle.std.proofs.Common.{subst, sym}
use Rattle.std.proofs.lemmas.Result.{on_ok_weaker}
use Rattle.mft_table.specs.Mft.{view}
use Rattle.file_changes.specs.Values.{CanPut, PutsBytes}
use Rattle.tree_edit.proofs.SecureLaws.{secure-put, secured-by}
use Rattle.tree_edit.proofs.secure.set_security.Goals as goal

pub put_bytes-requires-clause-can : goal.put_bytes-requires-clause-can
put_bytes-requires-clause-can g c told =
    subst (λ bytes. CanPut (view g.D.Disk c.args.mft.now) c.args.number c.args.i 0x34 bytes) (sym c.to_le_bytes-bytes.ensures)
    (secure-put (view g.D.Disk c.args.mft.now) c.args.number c.args.i c.args.id c.ranges.id.fits (c.requires.can told))

pub returns-clause-secured : goal.returns-clause-secured
returns-clause-secured g c =
    let v = view g.D.Disk c.args.mft.now in
    let new = view g.D.Disk c.put_bytes.new.mft in
    on_ok_weaker c.put_bytes.result (λ put told.
    secured-by v c.args.number c.args.i c.args.id c.ranges.id.fits (c.requires.can told) new c.args.times.now c.args.flags
    (subst (λ bytes. (can : CanPut v c.args.number c.args.i 0x34 bytes)
    → PutsBytes v new c.args.number can.part 0x34 bytes c.args.times.now c.args.flags) c.to_le_bytes-bytes.ensures (put told)))
    c.put_bytes.ensures.put

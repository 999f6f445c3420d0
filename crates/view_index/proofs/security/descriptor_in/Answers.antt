use Rattle.std.proofs.Common.{◌+◌, subst, arith}
use Rattle.mft_table.specs.Mft.{view}
use Rattle.mft_table.proofs.StreamReads.{MftReads-then}
use Rattle.view_index.specs.Places.{HasPlaceIfThere}
use Rattle.view_index.proofs.security.descriptor_in.Goals as goal

pub returns-in_default-clause-told : goal.returns-in_default-clause-told
returns-in_default-clause-told g c told =
    subst (HasPlaceIfThere (view g.D.Disk c.args.mft.now) c.args.file.now c.args.id) c.in_default.is (c.in_ok-place.ensures.told told)

pub returns-in_err-bytes-clause-reads : goal.returns-in_err-bytes-clause-reads
returns-in_err-bytes-clause-reads g c =
    let a = c.in_ok-place.ensures.reads in
    (a.0 + 129, MftReads-then g.D.Disk _ _ _ a.0 129 (a.0 + 129) a.1 c.read_place.ensures.reads (omega arith))

pub returns-clause-reads : goal.returns-clause-reads
returns-clause-reads g c =
    let a = c.in_ok-place.ensures.reads in
    (a.0 + 129, MftReads-then g.D.Disk _ _ _ a.0 129 (a.0 + 129) a.1 c.read_place.ensures.reads (omega arith))

pub returns-clause-fetched : goal.returns-clause-fetched
returns-clause-fetched g c told =
    MftReads-then g.D.Disk _ _ _ 122 129 251 (c.in_ok-place.ensures.fetched told) c.read_place.ensures.reads (omega arith)

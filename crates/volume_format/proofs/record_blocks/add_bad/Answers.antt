use Rattle.std.proofs.Common.{subst}
use Rattle.volume_format.proofs.StreamParts.{content-bad}
use Rattle.ntfs_def.specs.declared.kinds.TheConstants.{DATA}
use Rattle.volume_def.specs.ExtentsClause.{bad_name}
use Rattle.record_bytes.specs.NewRecord.{AddsPart}
use Rattle.volume_format.proofs.record_blocks.add_bad.Goals as goal

pub returns : goal.returns
returns c =
    let same = content-bad c.args.places.now _ _ c.all-all.ensures c.clusters-len.ensures.clusters c.clusters-len.ensures.some in
    subst (AddsPart c.args.block.now c.add_stream.new.block DATA bad_name) same c.in_ok-add_stream.ensures.adds

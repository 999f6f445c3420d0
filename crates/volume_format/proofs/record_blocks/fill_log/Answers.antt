use Rattle.std.proofs.Common.{refl}
use Rattle.volume_format.proofs.StreamParts.{IsNewRecord-stream}
use Rattle.std.specs.Prelude.{codes}
use Rattle.volume_format.proofs.record_blocks.fill_log.Goals as goal

pub returns : goal.returns
returns c = IsNewRecord-stream 2 (codes "$LogFile") c.args.places.now _ _ _ _ _ c.log_at-at.ensures.at refl c.in_ok-fill_stream.ensures

use Rattle.volume_def.proofs.FrameLaws.{ReplacesBlock-mirrored, ReplacesBlock-plain, ReplacesPiece-written}
use Rattle.volume_def.proofs.laws.frame_laws.Goals as goal

pub returns : goal.returns
returns c = record { block = ReplacesBlock-plain; mirrored = ReplacesBlock-mirrored; piece = ReplacesPiece-written }

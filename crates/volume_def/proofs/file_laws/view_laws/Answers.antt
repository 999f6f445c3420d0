use Rattle.volume_def.proofs.ViewLaws.{ChangesAt-block, parts-piece, record_at-piece, record_at-written}
use Rattle.volume_def.proofs.file_laws.view_laws.Goals as goal

pub returns : goal.returns
returns c = record {
  block = ChangesAt-block;
  record_there = record_at-written;
  piece = record_at-piece;
  parts = parts-piece;
}

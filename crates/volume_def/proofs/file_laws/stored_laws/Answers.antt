use Rattle.volume_def.proofs.StoredLaws.{length-stored_bytes, stored_bytes-extent, stored_bytes-split, stored_bytes-spots}
use Rattle.volume_def.proofs.file_laws.stored_laws.Goals as goal

pub returns : goal.returns
returns c = record {
  length = length-stored_bytes;
  split = stored_bytes-split;
  extent = stored_bytes-extent;
  spots = stored_bytes-spots;
}

use Rattle.volume_mark.proofs.AgreeLaws.{agrees-written}
use Rattle.volume_mark.proofs.ClearedLaws.{cleared_bytes, clears-to, harmed-safe}
use Rattle.volume_mark.proofs.MarkLaws.{closes-sound, mark-law}
use Rattle.volume_mark.proofs.laws.mark_laws.Goals as goal

pub returns : goal.returns
returns c = record {
  same = mark-law;
  closes = closes-sound;
  harmed = harmed-safe;
  written = agrees-written;
  cleared = λ flag bytes. (cleared_bytes flag bytes, clears-to flag bytes);
}

use Rattle.volume_def.proofs.SaidLaws.{value-said}
use Rattle.volume_def.proofs.StoredLaws.{value-length_told, value-range}
use Rattle.volume_def.proofs.ValueLaws.{spot_at-owned, value-SameItems, value-frame, value-length}
use Rattle.volume_def.proofs.file_laws.value_laws.Goals as goal

pub returns : goal.returns
returns c = record {
  order = value-SameItems;
  said = λ cluster size f extents other s h. value-said cluster size f extents other h s;
  frame = value-frame;
  owned = spot_at-owned;
  length = value-length;
  told = value-length_told;
  range = value-range;
}

use Rattle.ntfs_def.proofs.BareRecords.{SameOutside-bare_of}
use Rattle.ntfs_def.proofs.MovedLaws.{IsWhole-moved, attribute_at-moved}
use Rattle.ntfs_def.proofs.SameLaws.{HasShape-same, attributes-same, header_of-same, is_in_use-same}
use Rattle.ntfs_def.proofs.laws.record_laws.Goals as goal

pub returns : goal.returns
returns c = record {
  moved = attribute_at-moved;
  whole = IsWhole-moved;
  shape = HasShape-same;
  attributes = attributes-same;
  header = header_of-same;
  in_use = is_in_use-same;
  bare = SameOutside-bare_of;
}

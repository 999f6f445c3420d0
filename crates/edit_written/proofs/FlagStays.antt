-- THE FLAG of the volume lies where it lay, where its record is left alone.
use Rattle.std.proofs.Common.{◌≡◌, ◌+◌, ◌*◌, ◌/◌, ◌<◌, length, sym, ap, subst, ◌∙◌}
use Rattle.ntfs_def.specs.Attribute.{attribute_place, attributes, value_offset}
use Rattle.ntfs_def.specs.Fixup.{opened_of}
use Rattle.ntfs_def.specs.declared.records.TheConstants.{VOLUME}
use Rattle.volume_def.specs.Blocks.{mirror_sector, table_place}
use Rattle.volume_def.specs.Table.{TableLayout}
use Rattle.volume_def.specs.VersionClause.{IsVersionAt}
use Rattle.volume_def.specs.View.{VolumeView}
use Rattle.mark_write.specs.declared.flag.Flag.{Flag}
use Rattle.volume_mark.specs.Mark.{IsFlagOf}
use Rattle.edit_written.specs.LeavesAlone.{LeavesAlone}

-- where record 3 and the layout are the same
flag-there : (old new : VolumeView) (flag : Flag) → new.block VOLUME ≡ old.block VOLUME → new.layout ≡ old.layout → IsFlagOf old flag
    → IsFlagOf new flag
flag-there old new flag block layout f = record {
  i = f.i;
  inside = subst (λ b. f.i < length (attributes (opened_of b))) (sym block) f.inside;
  place = f.place;
  place_is = f.place_is ∙ sym (ap (λ b. attribute_place (opened_of b) f.i) block);
  version = subst (λ b. IsVersionAt (opened_of b) f.place) (sym block) f.version;
  byte = f.byte;
  byte_is = f.byte_is ∙ sym (ap (λ b. f.place + value_offset (opened_of b) f.place + 0x0A) block);
  home = ap (λ (l : TableLayout). table_place l (2 * VOLUME + f.byte / 512)) layout ∙ f.home;
  copy = f.copy ∙ sym (ap (λ (l : TableLayout). mirror_sector l + 2 * VOLUME + f.byte / 512) layout);
  at = f.at;
}

pub staged-flag : (old new : VolumeView) (flag : Flag) → LeavesAlone old new → IsFlagOf old flag → IsFlagOf new flag
staged-flag old new flag alone = flag-there old new flag alone.volume alone.layout

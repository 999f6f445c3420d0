-- ROOM FOR A NAME in the index of a directory that is held.
use Rattle.std.proofs.Common.{◌≡◌, ◌+◌, ◌*◌, ◌/◌, ◌||◌, ℕ, Bool, true, false, List, length, Option, Some, None, refl, sym, ap, ◌∙◌, arith}
use Rattle.std.specs.Prelude.{IfSome, IsSomeAnd, IsTrue}
use Rattle.ntfs_def.specs.FileName.{FileName, key_units, name_in}
use Rattle.ntfs_def.specs.Rounded.{up_to_8}
use Rattle.volume_def.specs.Files.{Record, is_base, is_directory, record_on}
use Rattle.volume_def.specs.IndexesClause.{IsDirectoryIndex}
use Rattle.volume_def.specs.Readable.{IsDirectory, IsFile}
use Rattle.volume_def.specs.Sound.{IsSound}
use Rattle.volume_def.specs.Sound as clauses
use Rattle.volume_def.specs.View.{VolumeView}
use Rattle.volume_def.proofs.SoundLaws.{readable-sound}
use Rattle.mft_table.specs.declared.mounted.Mounted.{Mounted}
use Rattle.mft_table.specs.InUse.{IsSoundVolume}
use Rattle.file_record.specs.declared.base.BaseFile.{BaseFile}
use Rattle.tree_model.specs.LeafRoom.{has_leaf_room}
use Rattle.tree_model.specs.Ways.{entry_len}
use Rattle.tree_edit.specs.Nodes.{number_of}
use Rattle.tree_edit.specs.Walks.{IsDirectoryHeld}
use Rattle.file_makes.specs.Held.{HoldsItems}
use Rattle.file_makes.specs.NewBytes.{IsPlainKey}

index-of : (view : VolumeView) (dir : ℕ) → IsSound view → IsDirectory view dir → IsDirectoryIndex view dir
index-of view dir sound is = by (record_on view dir) is (sound clauses.Indexes dir).directory
  where
    by : (o : Option Record) → IsSomeAnd o (λ r. IsTrue (is_base r) × IsTrue (is_directory r))
        → IfSome o (λ r. IsTrue (is_base r) → IsTrue (is_directory r) → IsDirectoryIndex view dir) → IsDirectoryIndex view dir
    by None is h = absurd is
    by (Some r) is h = h is.0 is.1

pub directory-file : (view : VolumeView) (dir : ℕ) → IsDirectory view dir → IsFile view dir
directory-file view dir is = by (record_on view dir) is
  where
    by : (o : Option Record) → IsSomeAnd o (λ r. IsTrue (is_base r) × IsTrue (is_directory r)) → IsSomeAnd o (λ r. IsTrue (is_base r))
    by None is = is
    by (Some r) is = is.0

pub holds-items : (view : VolumeView) (mounted : Mounted) (dir : BaseFile) → IsSoundVolume view mounted → IsDirectoryHeld view dir
    → HoldsItems view dir.parts mounted.upcase
holds-items view mounted dir is held =
    let index = index-of view (number_of dir) is.sound held.is_shown.directory in
    record {
      items = index.items;
      held = record {
        held = record {
          readable = readable-sound view is.sound;
          parts = held.held.parts;
          is_file = directory-file view (number_of dir) held.is_shown.directory;
        };
        has = record { index = index.index; kind = index.kind };
        case = is.stored.upcase_is;
      };
    }

-- the bytes of the entry of a key, and the units of its name
pub len-named : (units key : List ℕ) → IsPlainKey false 0 units 0 key → (16 + length key + 7) / 8 * 8 ≡ entry_len units
len-named units key is = ap (λ (len : ℕ). up_to_8 (16 + len)) is.long ∙ ap up_to_8 (omega arith)

pub room-named : (view : VolumeView) (dir : ℕ) (units key : List ℕ) → IsPlainKey false 0 units 0 key
    → has_leaf_room view dir (key_units key) ((16 + length key + 7) / 8 * 8) ≡ has_leaf_room view dir units (entry_len units)
unfolding name_in
room-named view dir units key is =
    ap (λ (us : List ℕ). has_leaf_room view dir us (up_to_8 (16 + length key))) (ap (λ (f : FileName). f.units) is.name)
    ∙ ap (has_leaf_room view dir units) (len-named units key is)

-- where the root has no room, there is that of the leaf
pub leaf-alone : (leaf root : Bool) → root ≡ false → leaf ≡ (leaf || root)
leaf-alone true root none = refl
leaf-alone false root none = sym none

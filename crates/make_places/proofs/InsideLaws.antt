-- A DIRECTORY WHOSE INDEX HAS ROOM for a name is a file of the volume, and so one of its records.
use Rattle.std.proofs.Common.{◌≡◌, ◌<◌, ◌&&◌, ◌||◌, ℕ, Bool, true, false, List, Option, Some, None, inl, inr, refl}
use Rattle.std.proofs.lemmas.Bool.{or_cases}
use Rattle.std.specs.Prelude.{codes, not}
use Rattle.list_laws.proofs.FindLaws.{find-found}
use Rattle.list_laws.proofs.MemberLaws.{Contains-from_filter}
use Rattle.ntfs_def.specs.Units.{wide}
use Rattle.ntfs_def.specs.declared.kinds.TheConstants.{INDEX_ROOT}
use Rattle.volume_def.specs.Files.{Part, is_of, parts, parts_at, records_of}
use Rattle.volume_def.specs.Sound.{IsSound, References}
use Rattle.volume_def.specs.Values.{first_part, is_first}
use Rattle.volume_def.specs.View.{VolumeView}
use Rattle.volume_def.proofs.FileLaws.{file-counted}
use Rattle.tree_model.specs.LeafRoom.{has_leaf_room}
use Rattle.tree_model.specs.RootRoom.{has_root_room}
use Rattle.tree_model.specs.Reading.{read}
use Rattle.tree_model.specs.Staging.{cannot_edit}
use Rattle.tree_model.specs.Facts.{is_whole_table}
use Rattle.tree_model.specs.Ways.{entry_len, has_copied_name, has_name_room, has_record}
use Rattle.edit_def.proofs.NamesLaws.{bases-of}
use Rattle.edit_def.proofs.ToldLaws.{part-file}
use Rattle.make_places.specs.Makes.{cannot_make}

-- the root of its index
abbrev roots : VolumeView → ℕ → List Part
roots view dir = parts_at view dir INDEX_ROOT (wide (codes "$I30"))

leaf-root : (view : VolumeView) (dir : ℕ) (units : List ℕ) (len : ℕ) → has_leaf_room view dir units len ≡ true
    → (part : Part) × (first_part (roots view dir) ≡ Some part)
unfolding has_leaf_room
leaf-root view dir units len room = by (first_part (roots view dir)) refl
  where
    by : (o : Option Part) → first_part (roots view dir) ≡ o → (part : Part) × (first_part (roots view dir) ≡ Some part)
    by None e = cc
    by (Some part) e = (part, e)

own-root : (view : VolumeView) (dir len : ℕ) → has_root_room view dir len ≡ true
    → (part : Part) × (first_part (roots view dir) ≡ Some part)
unfolding has_root_room
own-root view dir len room = by (first_part (roots view dir)) refl
  where
    by : (o : Option Part) → first_part (roots view dir) ≡ o → (part : Part) × (first_part (roots view dir) ≡ Some part)
    by None e = cc
    by (Some part) e = (part, e)

room-root : (view : VolumeView) (dir : ℕ) (units : List ℕ) → has_name_room view dir units ≡ true
    → (part : Part) × (first_part (roots view dir) ≡ Some part)
room-root view dir units room = elim (or_cases (has_leaf_room view dir units (entry_len units))
    (has_root_room view dir (entry_len units)) room) [
      | inl leaf ↦ leaf-root view dir units (entry_len units) leaf
      | inr root ↦ own-root view dir (entry_len units) root
    ]

room-inside : (view : VolumeView) → IsSound view → (dir : ℕ) (units : List ℕ) → has_name_room view dir units ≡ true
    → dir < view.layout.count
room-inside view sound dir units room =
    let root = room-root view dir units room in
    let among = Contains-from_filter (is_of INDEX_ROOT (wide (codes "$I30"))) (parts (records_of view) dir) root.0
    (find-found is_first (roots view dir) root.0 root.1).0 in
    file-counted view dir (part-file view dir root.0 (bases-of (records_of view) (sound References)) among.0)

-- a name can come there
pub makeable-inside : (view : VolumeView) → IsSound view → (dir : ℕ) (units : List ℕ) → cannot_make view dir units ≡ false
    → dir < view.layout.count
makeable-inside view sound dir units can =
    room-inside view sound dir units
    (has-room (cannot_edit (is_whole_table view) (read view) 0) (has_copied_name (read view) dir)
    (has_name_room view dir units) (has_record view) can)
  where
    has-room : (edit copied room free : Bool) → (edit || not (not copied && (room && free))) ≡ false → room ≡ true
    has-room true copied room free e = cc
    has-room false true room free e = cc
    has-room false false true free e = refl
    has-room false false false free e = cc

-- WHERE AN ENTRY MAY COME, in the words of the calls that put it into a root or a record, and the sectors that they stage.
use Rattle.std.proofs.Common.{◌≡◌, ◌&&◌, ◌||◌, ℕ, Bool, true, false, not, List, length, Option, Some, None, inl, inr, refl, sym, ap, subst}
use Rattle.std.specs.Prelude.{Contains, IfSome, IsSomeAnd, IsTrue, codes, count_by, filter}
use Rattle.std.specs.List.{list_any}
use Rattle.std.proofs.lemmas.List.Elements.{All-contains}
use Rattle.list_laws.proofs.FindLaws.{none-counted}
use Rattle.list_laws.proofs.MemberLaws.{Contains-from_flat_map}
use Rattle.vol_disk.specs.declared.Disk.{Ghosts}
use Rattle.vol_stage.specs.Staged.{StagesOnly}
use Rattle.ntfs_def.specs.FileName.{key_units}
use Rattle.ntfs_def.specs.Fixup.{opened_of}
use Rattle.ntfs_def.specs.Node.{item_in}
use Rattle.ntfs_def.specs.Units.{wide}
use Rattle.ntfs_def.specs.declared.kinds.TheConstants.{INDEX_ALLOCATION}
use Rattle.volume_def.specs.Files.{Part, Record, file_of, is_base, is_of, parts, record_of, record_on, records_of}
use Rattle.volume_def.specs.ListsClause.{HasRightList, IsAlone, is_list}
use Rattle.volume_def.specs.Table.{LiesOn}
use Rattle.volume_def.specs.View.{VolumeView}
use Rattle.volume_def.proofs.PartLaws.{record_at-block}
use Rattle.volume_edits.specs.Owners.{HasOwners}
use Rattle.volume_edits.proofs.OwnerLaws.{layout-lies_apart}
use Rattle.mft_table.specs.declared.mft.Mft.{Mft}
use Rattle.mft_table.specs.Mft.{stage_of, view}
use Rattle.mft_table.specs.Staging.{record_places}
use Rattle.file_record.specs.declared.parts.FileParts.{FileParts}
use Rattle.file_record.specs.Held.{AreParts, file_number}
use Rattle.file_record.specs.Records.{IsRecordOf}
use Rattle.tree_model.specs.LeafRoom.{has_leaf_room, names_of_directory}
use Rattle.tree_model.specs.RootRoom.{has_list, has_root_room, is_free_beside_root, is_root_leaf}
use Rattle.edit_def.specs.Marks.{Marks}
use Rattle.made_edits.specs.RecordCalls.{IsInOneRecord}
use Rattle.made_edits.specs.CanPut.{CanPutInRoot}
use Rattle.made_edits.specs.Standard.{StagesRecordOf}
use Rattle.made_edits.specs.Index.{index_held}
use Rattle.made_edits.specs.Replaced.{StagesRecords}
use Rattle.made_edits.proofs.ReadyLaws.{owners-of}
use Rattle.file_makes.specs.Enters.{CanEnter, IsReadyFor}

middle-of-three : (a b c : Bool) → (a && b && c) ≡ true → b ≡ true
middle-of-three true true c h = refl
middle-of-three true false c h = cc
middle-of-three false b c h = cc

not-true : (b : Bool) → not b ≡ true → b ≡ false
not-true true h = cc
not-true false h = refl

other-one : (a b : Bool) → (a || b) ≡ true → b ≡ false → a ≡ true
other-one true b h none = refl
other-one false b h none = cc

-- a root that has room is one of a file without an attribute list
unlisted : (view : VolumeView) (dir len : ℕ) → has_root_room view dir len ≡ true → list_any is_list (parts (records_of view) dir) ≡ false
unfolding has_root_room
unlisted view dir len room =
    not-true (has_list view dir) (middle-of-three (is_root_leaf view dir) (not (has_list view dir)) (is_free_beside_root view dir len) room)

module _ (view : VolumeView) (marks : Marks) (dir : ℕ) (ready_for : IsReadyFor view marks dir) (len : ℕ)
    (room : has_root_room view dir len ≡ true) where
  no-list : count_by is_list (parts (records_of view) dir) ≡ 0
  no-list = none-counted is_list (parts (records_of view) dir) (unlisted view dir len room)

  -- so it stands in one record,
  pub in-one-record : IsInOneRecord view dir
  in-one-record = record { base = by (record_on view dir) refl ready_for.is_file; may = ready_for.may; no_list = no-list }
    where
      by : (o : Option Record) → record_on view dir ≡ o → IsSomeAnd o (λ r. IsTrue (is_base r))
          → IsTrue (is_base (record_of dir (opened_of (view.block dir))))
      by None e is = absurd is
      by (Some r) e is = subst (λ (r : Record). IsTrue (is_base r)) (sym (record_at-block view dir r e)) is

  -- its own
  pub alone : IsAlone view dir
  alone = by (record_on view dir) ready_for.is_file (ready_for.ready.editable.readable.lists dir)
    where
      by : (o : Option Record) → IsSomeAnd o (λ r. IsTrue (is_base r))
          → IfSome o (λ r. IsTrue (is_base r) → HasRightList view dir (parts (records_of view) dir)) → IsAlone view dir
      by None is lists = absurd is
      by (Some r) is lists = (lists is).alone no-list

module _ (view : VolumeView) (marks : Marks) (file : FileParts) (table entry : List ℕ) (can : CanEnter view marks file table entry) where
  pub owners : HasOwners view
  owners = owners-of view marks can.ready_for.ready

  -- the root can be written
  pub can-put : (sectors : ℕ) → LiesOn sectors view.layout → has_root_room view (file_number file) (length entry) ≡ true
      → CanPutInRoot view marks file
  can-put sectors lies room = record {
    ready = can.ready_for.ready;
    one = in-one-record view marks (file_number file) can.ready_for (length entry) room;
    whole = can.whole;
    apart = layout-lies_apart view owners lies.some lies.on_volume;
    initialized = can.ready_for.written;
  }

  -- or a record has room
  pub leaf-room : has_root_room view (file_number file) (length entry) ≡ false
      → has_leaf_room view (file_number file) (key_units (item_in entry).key) (length entry) ≡ true
  leaf-room none =
      other-one (has_leaf_room view (file_number file) (key_units (item_in entry).key) (length entry))
      (has_root_room view (file_number file) (length entry)) can.room none

-- THE SECTORS that are staged: those of the record of a file that has no other one ..
pub staged-own : {D : Type 0} (g : Ghosts D) (a b : Mft D g) (dir : ℕ) → IsTrue (view g a).told → IsAlone (view g a) dir
    → StagesRecordOf g dir a b → StagesOnly g (record_places (view g a).layout dir) (stage_of g a) (stage_of g b)
staged-own g a b dir told alone stages = record {
  only = λ s there. elim (stages.places.only s there) [
    | inl was ↦ inl was
    | inr new ↦ inr (own s (Contains-from_flat_map (record_places (view g a).layout) stages.holders s new))
  ];
}
  where
    same : (n : ℕ) (o : Option Record) → IsSomeAnd o (λ r. file_of n r ≡ dir) → IfSome o (λ r. file_of n r ≡ dir → n ≡ dir) → n ≡ dir
    same n None is only = absurd is
    same n (Some r) is only = only is

    own : (s : ℕ) → (n : ℕ) × Contains stages.holders n × Contains (record_places (view g a).layout n) s
        → Contains (record_places (view g a).layout dir) s
    own s (n, among, here) =
        let of = All-contains (IsRecordOf (view g a) dir) stages.holders n (stages.own told) among in
        subst (λ k. Contains (record_places (view g a).layout k) s) (same n (record_on (view g a) n) of.belongs (alone n)) here

-- .. or those of a record of the index
pub staged-index : {D : Type 0} (g : Ghosts D) (a b : Mft D g) (file : FileParts) → AreParts (view g a) file
    → StagesRecords g 1 (index_held file (wide (codes "$I30"))).records a b
    → StagesRecords g 1 (names_of_directory (view g a) (file_number file)).records a b
staged-index g a b file are stages =
    subst (λ (ps : List Part). StagesRecords g 1 ps a b) (ap (filter (is_of INDEX_ALLOCATION (wide (codes "$I30")))) are.parts) stages

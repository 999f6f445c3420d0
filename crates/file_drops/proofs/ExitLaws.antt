-- WHERE AN ENTRY MAY GO OUT, in the words of the calls that take it out of a root or a record.
use Rattle.std.proofs.Common.{◌≡◌, ◌&&◌, ℕ, true, false, not, List, Some, None, Option, inl, inr, refl, sym, subst}
use Rattle.std.specs.Prelude.{IsSomeAnd, IsTrue, count_by}
use Rattle.std.proofs.lemmas.Bool.{and_parts, both_ways, not-true, or_cases}
use Rattle.list_laws.proofs.FindLaws.{none-counted}
use Rattle.ntfs_def.specs.FileName.{key_units}
use Rattle.ntfs_def.specs.Fixup.{opened_of}
use Rattle.volume_def.specs.Files.{Record, is_base, parts, record_of, record_on, records_of}
use Rattle.volume_def.specs.ListsClause.{IsAlone, is_list}
use Rattle.volume_def.specs.Readable.{IsFile}
use Rattle.volume_def.specs.Table.{LiesOn}
use Rattle.volume_def.specs.View.{VolumeView}
use Rattle.volume_def.proofs.PartLaws.{record_at-block}
use Rattle.volume_def.proofs.ReadableLaws.{file-list}
use Rattle.volume_edits.specs.Owners.{HasOwners}
use Rattle.volume_edits.proofs.OwnerLaws.{layout-lies_apart}
use Rattle.file_record.specs.declared.parts.FileParts.{FileParts}
use Rattle.file_record.specs.Held.{file_number}
use Rattle.tree_model.specs.LeafEntry.{has_leaf_entry}
use Rattle.tree_model.specs.RootEntry.{has_root_entry, is_in_root}
use Rattle.tree_model.specs.RootRoom.{has_list, is_root_leaf}
use Rattle.edit_def.specs.Marks.{Marks}
use Rattle.record_edits.specs.Between.{IsReady}
use Rattle.record_calls.specs.Calls.{IsInOneRecord}
use Rattle.root_puts.specs.CanPut.{CanPutInRoot}
use Rattle.made_edits.proofs.ReadyLaws.{owners-of}
use Rattle.file_makes.specs.Enters.{IsReadyFor}
use Rattle.file_drops.specs.Exits.{CanExit}

-- a root that can lose an entry is one of a file without an attribute list
unlisted : (view : VolumeView) (dir : ℕ) (units : List ℕ) → has_root_entry view dir units ≡ true
    → count_by is_list (parts (records_of view) dir) ≡ 0
unfolding has_root_entry
unlisted view dir units entry =
    let both = and_parts (is_root_leaf view dir && not (has_list view dir)) (is_in_root view dir units) entry in
    none-counted is_list (parts (records_of view) dir)
    (not-true (has_list view dir) (and_parts (is_root_leaf view dir) (not (has_list view dir)) both.0).1)

-- such a file has its own record alone
pub alone-unlisted : (view : VolumeView) (marks : Marks) (f : ℕ) → IsReady view marks → IsFile view f
    → count_by is_list (parts (records_of view) f) ≡ 0 → IsAlone view f
alone-unlisted view marks f ready is_file none = (file-list view f (ready.editable.readable.lists f) is_file).alone none

pub alone : (view : VolumeView) (marks : Marks) (dir : ℕ) (units : List ℕ) → IsReadyFor view marks dir
    → has_root_entry view dir units ≡ true → IsAlone view dir
alone view marks dir units ready_for entry =
    alone-unlisted view marks dir ready_for.ready ready_for.is_file (unlisted view dir units entry)

in-one-record : (view : VolumeView) (marks : Marks) (dir : ℕ) (units : List ℕ) → IsReadyFor view marks dir
    → has_root_entry view dir units ≡ true → IsInOneRecord view dir
in-one-record view marks dir units ready_for entry =
    record { base = by (record_on view dir) refl ready_for.is_file; may = ready_for.may; no_list = unlisted view dir units entry }
  where
    by : (o : Option Record) → record_on view dir ≡ o → IsSomeAnd o (λ r. IsTrue (is_base r))
        → IsTrue (is_base (record_of dir (opened_of (view.block dir))))
    by None e is = absurd is
    by (Some r) e is = subst (λ (r : Record). IsTrue (is_base r)) (sym (record_at-block view dir r e)) is

module _ (view : VolumeView) (marks : Marks) (file : FileParts) (table key : List ℕ) (can : CanExit view marks file table key) where
  pub owners : HasOwners view
  owners = owners-of view marks can.ready_for.ready

  -- the root can be written
  pub can-take : (sectors : ℕ) → LiesOn sectors view.layout → has_root_entry view (file_number file) (key_units key) ≡ true
      → CanPutInRoot view marks file
  can-take sectors lies entry = record {
    ready = can.ready_for.ready;
    one = in-one-record view marks (file_number file) (key_units key) can.ready_for entry;
    whole = can.whole;
    apart = layout-lies_apart view owners lies.some lies.on_volume;
    initialized = can.ready_for.written;
  }

  -- or a record has the entry
  pub leaf-entry : has_root_entry view (file_number file) (key_units key) ≡ false
      → has_leaf_entry view (file_number file) (key_units key) ≡ true
  leaf-entry none =
      let leaf = has_leaf_entry view (file_number file) (key_units key) in
      elim (or_cases leaf (has_root_entry view (file_number file) (key_units key)) can.entry) [
        | inl there ↦ there
        | inr root ↦ absurd (both_ways (has_root_entry view (file_number file) (key_units key)) none root)
      ]

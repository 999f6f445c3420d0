-- AN ENTRY THAT ENTERED the index of a directory: what holds then, whichever way it went; and names, told by the types of parts.
use Rattle.std.proofs.Common.{◌≡◌, ◌≢◌, ◌<◌, ℕ, Bool, false, List, [], ◌∷◌, filter, map, sym, ap, ◌∙◌, Some}
use Rattle.std.specs.Prelude.{filter_map, option_map}
use Rattle.list_laws.proofs.FilterLaws.{filter-swap}
use Rattle.list_laws.proofs.MemberLaws.{filter-map}
use Rattle.ntfs_def.specs.FileName.{name_in}
use Rattle.ntfs_def.specs.KeyOrder.{name_order}
use Rattle.ntfs_def.specs.Node.{Item}
use Rattle.ntfs_def.specs.declared.kinds.TheConstants.{INDEX_ROOT}
use Rattle.volume_def.specs.CaseClause.{volume_fold}
use Rattle.volume_def.specs.Coverage.{IsOutsideTable}
use Rattle.volume_def.specs.FileNames.{is_file_name, names_of}
use Rattle.volume_def.specs.Files.{Part, Record, content_value, parts, parts_at, record_on, records_of}
use Rattle.volume_def.specs.Values.{is_first}
use Rattle.volume_def.specs.View.{VolumeView}
use Rattle.edit_def.specs.Account.{nothing}
use Rattle.edit_def.specs.Forms.{ComeRightly}
use Rattle.edit_def.specs.Items.{HasItems}
use Rattle.edit_def.specs.Kept.{is_name_told, key_of, told_by, told_names}
use Rattle.edit_def.specs.Marks.{Marks}
use Rattle.edit_def.specs.Names.{KeepsNames}
use Rattle.record_edits.specs.Between.{IsReady}
use Rattle.record_edits.specs.InPlace.{IsUnnamed}
use Rattle.root_puts.specs.Calls.{ChangesIndex}
use Rattle.root_puts.specs.Keys.{is_index_key_of}
use Rattle.root_puts.specs.Edit.{IsAbsent}
use Rattle.root_puts.specs.PutsInRoot.{KeepsHolder}
use Rattle.made_edits.specs.Left.{KeepsOwnIndex}

-- The volume stands as between two calls. Of the records of the table that of the directory alone was written, which has no copy; of the
-- clusters those of the table, of its mirror and of the index of the directory. All other attributes have the parts that they had, in their
-- order by types, and all files their names; the record of the directory has its header, and its index keeps what it is to. Where no item
-- had this key, it is one call on that index.
pub record Entered (old new : VolumeView) (marks : Marks) (dir : ℕ) (item : Item) : Type 0 where
  pub ready : IsReady new marks
  pub told : new.told ≡ old.told
  pub layout : new.layout ≡ old.layout
  pub rest : (k : ℕ) → new.rest k ≡ old.rest k
  pub blocks : (m : ℕ) → m ≢ dir → new.block m ≡ old.block m
  pub copies : (m : ℕ) → m < 4 → new.copy m ≡ old.copy m
  pub clusters : (c : ℕ) → IsOutsideTable old.layout c → IsUnnamed (is_index_key_of dir) old c → new.cluster c ≡ old.cluster c
  pub records : (m : ℕ) → m ≢ dir → record_on new m ≡ record_on old m
  pub others : (g : ℕ) → g ≢ dir → parts (records_of new) g ≡ parts (records_of old) g
  pub same : (f kind : ℕ) (name : List ℕ) → is_index_key_of dir (key_of f kind name) ≡ false
      → parts_at new f kind name ≡ parts_at old f kind name
  pub kinds : (f : ℕ) (test : ℕ → Bool) → test INDEX_ROOT ≡ false
      → filter (λ (p : Part). test p.kind) (parts (records_of new) f) ≡ filter (λ (p : Part). test p.kind) (parts (records_of old) f)
  pub names_kept : (f : ℕ) → KeepsNames (records_of old) (records_of new) f
  pub holder : (was : Record) → record_on old dir ≡ Some was → KeepsHolder old new dir
  pub forms : (f : ℕ) → ComeRightly old new f
  pub own : KeepsOwnIndex old new dir
  pub changes : ((was : List Item) → HasItems old dir was → IsAbsent (name_order (volume_fold old)) item.key was)
      → ChangesIndex nothing old new marks marks dir [] (item ∷ [])

-- NAMES of a file, by its parts that are names
pub names-same : (old new : VolumeView) (f : ℕ)
    → filter is_file_name (parts (records_of new) f) ≡ filter is_file_name (parts (records_of old) f)
    → names_of (records_of new) f ≡ names_of (records_of old) f
unfolding names_of
names-same old new f same = ap (filter_map (λ (part : Part). option_map name_in (content_value part.content))) same

told-names : (view : VolumeView) (f : ℕ)
    → told_names view f ≡ map told_by (filter is_first (filter is_file_name (parts (records_of view) f)))
told-names view f =
    filter-map told_by is_name_told (filter is_first (parts (records_of view) f))
    ∙ ap (map told_by) (filter-swap is_file_name is_first (parts (records_of view) f))

pub told-same : (old new : VolumeView) (f : ℕ)
    → filter is_file_name (parts (records_of new) f) ≡ filter is_file_name (parts (records_of old) f) → told_names new f ≡ told_names old f
told-same old new f same = told-names new f ∙ ap (λ (ps : List Part). map told_by (filter is_first ps)) same ∙ sym (told-names old f)

-- A FILE WHOSE ATTRIBUTES CAN BE SET, as a path leads to it.
use Rattle.std.specs.Prelude.{◌≡◌, ◌≤◌, ◌%◌, ◌==◌, ◌&&◌, ℕ, not, nat_lt, Bool, List, Contains, length, Result, Ok, Err, if◌then◌else◌}
use Rattle.std.specs.List.{list_any}
use Rattle.ntfs_def.specs.FileName.{FileName}
use Rattle.ntfs_def.specs.declared.lengths.TheConstants.{RECORD}
use Rattle.volume_def.specs.FileNames.{names_of}
use Rattle.volume_def.specs.Files.{records_of}
use Rattle.volume_def.specs.View.{VolumeView}
use Rattle.tree_model.specs.Paths.{and_then, found_file, resolve}
use Rattle.tree_model.specs.Staging.{cannot_edit}
use Rattle.tree_model.specs.Ways.{stands_in_copied}
use Rattle.tree_model.specs.Tree.{Tree}
use Rattle.tree_model.specs.declared.reply.No.{No}
use Rattle.tree_model.specs.declared.reply.No.TheVariants as no
use Rattle.mft_table.specs.declared.mounted.Mounted.{Mounted}
use Rattle.file_record.specs.declared.parts.FileParts.{FileParts}
use Rattle.file_room.specs.FileLinks.{links_held}
use Rattle.file_changes.specs.Links.{CanWriteFile}
use Rattle.tree_edit.specs.declared.settable.Settable.{Settable}

-- the number of the file that a path leads to, where it can be edited
abbrev pub settable : Bool → Tree → List (List ℕ) → Result ℕ No
settable whole_table tree path =
    and_then (resolve tree path)
    (λ found. if cannot_edit whole_table tree (found_file found) then Err no.Unbuilt else Ok (found_file found))

-- what is asked of a file that is held, on a volume with these tables
abbrev pub is_editable : Mounted → FileParts → Bool
is_editable mounted file =
    (mounted.initialized % RECORD == 0)
    && (nat_lt file.number (length mounted.records) && not (list_any stands_in_copied (links_held file)))

-- Its attributes can be set; these are its times, and none of its names stands in a record that has a copy.
pub record IsSettable (view : VolumeView) (found : Settable) : Type 0 where
  pub can : CanWriteFile view found.number
  pub times : found.times ≡ can.node.times
  pub high : (name : FileName) → Contains (names_of (records_of view) found.number) name → 4 ≤ name.parent.number

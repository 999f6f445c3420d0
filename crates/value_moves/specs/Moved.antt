-- A VALUE THAT MOVES INTO CLUSTERS: an attribute whose value stands in its record becomes an extent of one run, from cluster 0 on.
-- Layout: Linux-NTFS documentation, "Attribute Headers" and concept "Data Runs"; Carrier, File System Forensic Analysis, chapters 11, 13.
use Rattle.std.specs.Prelude.{◌≡◌, ◌+◌, ◌<◌, ℕ, Bool, true, false, IsSomeAnd, List, Some, length, slice_get}
use Rattle.ntfs_def.specs.Attribute.{Attribute, attributes}
use Rattle.ntfs_def.specs.Fixup.{opened_of}
use Rattle.ntfs_def.specs.Record.{header_of}
use Rattle.ntfs_def.specs.declared.run_text.Run.{Run}
use Rattle.volume_def.specs.Files.{Value, content_of}
use Rattle.volume_def.specs.Room.{free_bytes}
use Rattle.volume_def.specs.Table.{cluster_bytes}
use Rattle.volume_def.specs.View.{VolumeView}
use Rattle.volume_edits.specs.Rewritten.{RewritesRecord}
use Rattle.record_bytes.specs.AttributeBytes.{one_run, runs_at}
use Rattle.edit_def.specs.Forms.{Form, form_of}
use Rattle.file_record.specs.Attributes.{opened_record}
use Rattle.extent_edits.specs.Cut.{KeepsRecord}
use Rattle.extent_edits.specs.Numbers.{sizes_over}

-- A value without flags: it is neither compressed, encrypted nor sparse.
pub record CanBeMoved (was : Attribute) : Type 0 where
  pub value : List ℕ
  pub is : content_of was.body ≡ Value value
  pub flags : was.flags ≡ 0

-- The bytes of an attribute of this name in clusters, at most: a header of 64, the name up to a multiple of 8, and 24 for the text of any
-- run with its end.
abbrev pub moved_len : List ℕ → ℕ
moved_len name = runs_at name + 24

-- what the header of an attribute tells that was made anew in clusters
abbrev pub form_in_clusters : Attribute → Form
form_in_clusters was = record { kind = was.kind; name = was.name; indexed = 0; unit = 0 }

-- IT BECAME AN EXTENT of this run alone, with these two sizes, in clusters of so many bytes.
pub record BecomesExtent (bytes : ℕ) (run : Run) (real initialized : ℕ) (was now : Attribute) : Type 0 where
  pub can : CanBeMoved was
  pub content : content_of now.body ≡ one_run (sizes_over run.len bytes real initialized) run
  pub form : form_of now ≡ form_in_clusters was

-- THE VALUE OF ATTRIBUTE i OF RECORD n MOVED so. Nothing else of the volume changed.
pub record MovesValue (old new : VolumeView) (n i : ℕ) (run : Run) (real initialized : ℕ) : Type 0 where
  pub stored : List ℕ
  pub was : Attribute
  pub now : Attribute
  pub there : slice_get (attributes (opened_record old n)) i ≡ Some was
  pub edits : RewritesRecord old new n stored was now
  pub header : KeepsRecord (header_of (opened_record old n)) (header_of (opened_of stored))
  pub kind : now.kind ≡ was.kind
  pub name : now.name ≡ was.name
  pub id : now.id ≡ was.id
  pub flags : now.flags ≡ was.flags
  pub becomes : BecomesExtent (cluster_bytes old.layout) run real initialized was now

-- IT MOVED; OR IT IS NO SUCH VALUE, OR ITS RECORD HAS NOT THE BYTES: then nothing changed.
abbrev pub MovesWhereItCan : Bool → VolumeView → VolumeView → ℕ → ℕ → Run → ℕ → ℕ → Type 0
MovesWhereItCan true old new n i run real initialized = MovesValue old new n i run real initialized
MovesWhereItCan false old new n i run real initialized =
    IsSomeAnd (slice_get (attributes (opened_record old n)) i) (λ was.
    CanBeMoved was → length was.bytes + free_bytes old n < moved_len was.name)
    × (new ≡ old)

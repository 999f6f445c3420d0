-- A file that is loaded, as the tree of its volume shows it.
use Rattle.std.specs.Prelude.{◌≡◌, ℕ, List, IsTrue, Option, Some, None, take}
use Rattle.volume_def.specs.CaseClause.{case_parts}
use Rattle.volume_def.specs.Files.{Part, Record, is_base, record_on}
use Rattle.volume_def.specs.Readable.{IsReadableVolume}
use Rattle.volume_def.specs.Values.{value_on}
use Rattle.volume_def.specs.View.{VolumeView}
use Rattle.file_record.specs.Base.{HasBaseRecord, HasHeader}
use Rattle.file_record.specs.Held.{AreParts, file_number, parts_held}
use Rattle.file_record.specs.declared.base.BaseFile.{BaseFile}
use Rattle.tree_model.specs.Reading.{node_by, read}
use Rattle.tree_model.specs.Tree.{node_of}
use Rattle.tree_model.specs.declared.tree.Content.{Content}
use Rattle.tree_model.specs.declared.tree.Content.TheVariants.{Packed, Plain}

-- the number of a loaded file, and its parts
abbrev pub number_of : BaseFile → ℕ
number_of held = file_number held.parts

abbrev pub parts_in : BaseFile → List Part
parts_in held = parts_held held.parts

-- The loaded file is the file of this number on the volume.
pub record IsFileHeld (view : VolumeView) (f : ℕ) (held : BaseFile) : Type 0 where
  pub number : number_of held ≡ f
  pub base : HasBaseRecord view f held.header
  pub parts : AreParts view held.parts

-- The loaded file is a node of the volume's tree: the one that its header and its parts are.
pub record IsNodeHeld (view : VolumeView) (held : BaseFile) : Type 0 where
  pub readable : IsReadableVolume view
  pub base : Record
  pub on : record_on view (number_of held) ≡ Some base
  pub is_base : IsTrue (is_base base)
  pub header : HasHeader held.header base
  pub parts : AreParts view held.parts
  pub node : node_of (read view) (number_of held) ≡ Some (node_by view base (parts_in held))

-- the table of case that is kept is the volume's
abbrev pub IsCaseOf : VolumeView → List ℕ → Type 0
IsCaseOf view table = table ≡ value_on view (case_parts view)

-- the first bytes, at most so many
unfoldable pub first_bytes : ℕ → List ℕ → List ℕ
first_bytes most bytes = take most bytes

-- .. of what an attribute holds; none of a packed one
abbrev pub begin_of : ℕ → Content → Option (List ℕ)
begin_of most (Plain bytes) = Some (first_bytes most bytes)
begin_of most (Packed size) = None

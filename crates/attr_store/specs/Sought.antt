-- Attributes of a file that are sought, and what is read of them.
use Rattle.std.specs.Prelude.{◌≡◌, ℕ, ◌-◌, ◌&&◌, Bool, true, List, [], Contains, unwrap_or}
use Rattle.ntfs_def.specs.declared.run_text.Spot.{Spot}
use Rattle.ntfs_def.specs.Attribute.{Attribute}
use Rattle.ntfs_def.specs.Runs.{runs_in, spot_of}
use Rattle.volume_def.specs.Files.{Part, is_of, part_of, parts_like}
use Rattle.volume_def.specs.Spans.{spans_vcn}
use Rattle.file_record.specs.declared.parts.FileParts.{FileParts}
use Rattle.file_record.specs.Held.{parts_held}

-- whether an attribute is of this type and name, and its header tells that it holds this cluster of its stream
abbrev pub spans_named : ℕ → List ℕ → ℕ → Attribute → Bool
spans_named kind name vcn attribute = is_of kind name (part_of 0 attribute) && spans_vcn vcn (part_of 0 attribute)

-- the parts of a file that are of the type and name of this attribute
abbrev pub parts_held_like : FileParts → Attribute → List Part
parts_held_like file wanted = parts_like (part_of 0 wanted) (parts_held file)

-- the attribute is one of the file, as some record holds it
abbrev pub IsAmong : FileParts → Attribute → Type 0
IsAmong file attribute = (holder : ℕ) × Contains (parts_held file) (part_of holder attribute)

-- The attribute is of the type and name of the first one, as some record of the file holds it, and its header tells that
-- it holds this cluster of the stream.
pub record IsExtentAt (file : FileParts) (wanted : Attribute) (vcn : ℕ) (attribute : Attribute) : Type 0 where
  pub holder : ℕ
  pub among : Contains (parts_held_like file wanted) (part_of holder attribute)
  pub spans : spans_vcn vcn (part_of holder attribute) ≡ true

-- where a cluster lies by the run text of an extent that begins here; outside where the text is no run list
abbrev pub spot_in_text : ℕ → List ℕ → ℕ → Spot
spot_in_text first text vcn = spot_of (unwrap_or (runs_in text) []) (vcn - first)

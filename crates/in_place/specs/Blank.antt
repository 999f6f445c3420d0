-- RECORDS WITHOUT THE BYTES OF THEIR VALUES: all that the bytes of a value do not tell, but for how many they are.
use Rattle.std.specs.Prelude.{ℕ, length, map, replicate}
use Rattle.std.specs.Option.{option_map}
use Rattle.ntfs_def.specs.Attribute.{Attribute, Body, NonResident, Resident}
use Rattle.volume_def.specs.Files.{Clusters, Content, Part, Record, Records, Value}
use Rattle.session_def.specs.Forms.{Form, form_of}

-- a value of zeros, as long
abbrev pub blank_body : Body → Body
blank_body (Resident value) = Resident (replicate (length value) 0)
blank_body (NonResident extent text) = NonResident extent text

-- WHAT AN ATTRIBUTE SAYS apart from its value: its id and flags, what its header tells that no part has, with its type and name, and how
-- long its value is, or its numbers and run text.
pub record Outline : Type 0 where
  pub id : ℕ
  pub flags : ℕ
  pub form : Form
  pub body : Body

abbrev pub outline_of : Attribute → Outline
outline_of attribute = record {
  id = attribute.id;
  flags = attribute.flags;
  form = form_of attribute;
  body = blank_body attribute.body;
}

-- the same of parts, and of the records of a volume
abbrev pub blank_content : Content → Content
blank_content (Value value) = Value (replicate (length value) 0)
blank_content (Clusters extent runs) = Clusters extent runs

abbrev pub blank_part : Part → Part
blank_part part = record part { content = blank_content part.content }

abbrev pub blank_record : Record → Record
blank_record r = record { header = r.header; parts = map blank_part r.parts }

abbrev pub blanked : Records → Records
blanked records = record { count = records.count; record_at = λ n. option_map blank_record (records.record_at n) }

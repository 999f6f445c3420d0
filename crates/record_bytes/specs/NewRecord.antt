-- The opened block of a record that is made.
-- Layout: as in `Record` of ntfs_def.
use Rattle.std.specs.Prelude.{◌≡◌, ℕ, ◌+◌, ◌%◌, ◌==◌, true, List, [], ◌∷◌, ◌++◌, length, replicate, All, Option, Some, None, option_map}
use Rattle.attr_view.specs.Edit.{with_next_id}
use Rattle.attr_view.specs.declared.record_mut.RecordHeader.{RecordHeader}
use Rattle.ntfs_def.specs.Attribute.{Attribute, attributes, value_offset}
use Rattle.ntfs_def.specs.Fixup.{sequence_number}
use Rattle.ntfs_def.specs.Record.{base_in, header_of, is_in_use, next_attribute_id, used_size}
use Rattle.ntfs_def.specs.Shape.{HasShape}
use Rattle.volume_def.specs.Files.{Content, Record, record_of}
use Rattle.record_bytes.specs.AttributeBytes.{part}

-- a record without attributes: its header, and the end mark at 0x38
abbrev pub blank_header : ℕ → ℕ → ℕ → List ℕ
blank_header number sequence flags =
    0x46 ∷ 0x49 ∷ 0x4C ∷ 0x45 ∷ 0x30 ∷ 0 ∷ 3 ∷ 0 ∷ 0 ∷ 0 ∷ 0 ∷ 0 ∷ 0 ∷ 0 ∷ 0 ∷ 0
    ∷ sequence ∷ 0 ∷ 1 ∷ 0 ∷ 0x38 ∷ 0 ∷ flags ∷ 0 ∷ 0x40 ∷ 0 ∷ 0 ∷ 0 ∷ 0 ∷ 4 ∷ 0 ∷ 0
    ∷ 0 ∷ 0 ∷ 0 ∷ 0 ∷ 0 ∷ 0 ∷ 0 ∷ 0 ∷ 0 ∷ 0 ∷ 0 ∷ 0 ∷ number ∷ 0 ∷ 0 ∷ 0
    ∷ 0 ∷ 0 ∷ 0 ∷ 0 ∷ 0 ∷ 0 ∷ 0 ∷ 0 ∷ 0xFF ∷ 0xFF ∷ 0xFF ∷ 0xFF ∷ 0 ∷ 0 ∷ 0 ∷ 0 ∷ []

unfoldable pub blank_block : ℕ → ℕ → ℕ → List ℕ
blank_block number sequence flags = blank_header number sequence flags ++ replicate 960 0

-- .. and what it means
abbrev pub blank_record : ℕ → ℕ → ℕ → Record
blank_record number sequence flags = record {
  header = record { sequence = sequence; links = 1; flags = flags; base = None; next_id = 0; number = number };
  parts = [];
}

-- The values of these attributes begin at multiples of 8, counted from where each attribute begins.
abbrev pub AreAligned : List Attribute → Type 0
AreAligned all = All (λ attribute. value_offset attribute.bytes 0 % 8 ≡ 0) all

-- The block is record n, in use, as it is planned. It was never stored: its update sequence number is 0.
pub record IsNewRecord (n : ℕ) (planned : Option Record) (block : List ℕ) : Type 0 where
  pub shape : HasShape block (length (attributes block))
  pub in_use : is_in_use block ≡ true
  pub means : Some (record_of n block) ≡ planned
  pub unstored : sequence_number block ≡ 0
  -- its attributes have the ids from 0 on, and their values begin at multiples of 8
  pub counted : next_attribute_id block ≡ length (attributes block)
  pub aligned : AreAligned (attributes block)

-- a record with one part more, which has the next id
abbrev pub with_part : ℕ → ℕ → List ℕ → Content → Record → Record
with_part n kind name content r = record {
  header = with_next_id r.header (r.header.next_id + 1);
  parts = r.parts ++ part n kind name r.header.next_id content ∷ [];
}

-- The block has one part more, behind the others.
abbrev pub AddsPart : List ℕ → List ℕ → ℕ → List ℕ → Content → Type 0
AddsPart old new kind name content =
    (n : ℕ) (planned : Option Record) → IsNewRecord n planned old
    → IsNewRecord n (option_map (with_part n kind name content) planned) new

-- The block is a record without attributes, of this number, under a header of these fields. It was never stored.
pub record IsEmptyRecord (number : ℕ) (fields : RecordHeader) (block : List ℕ) : Type 0 where
  pub shape : HasShape block 0
  pub empty : attributes block ≡ []
  pub unstored : sequence_number block ≡ 0
  pub used : used_size block ≡ 0x40
  pub header : header_of block ≡ record {
    sequence = fields.sequence;
    links = fields.links;
    flags = fields.flags;
    base = base_in fields.base;
    next_id = 0;
    number = number;
  }
  pub in_use : is_in_use block ≡ (fields.flags % 2 == 1)

-- The base record of a file, by its header.
use Rattle.std.specs.Prelude.{◌≡◌, ℕ, IsSomeAnd, IsTrue}
use Rattle.ntfs_def.specs.Record.{base_in}
use Rattle.volume_def.specs.Files.{Record, is_base, record_on}
use Rattle.volume_def.specs.View.{VolumeView}
use Rattle.attr_view.specs.declared.record_mut.RecordHeader.{RecordHeader}

-- the fields of a record's header that an owner chooses
pub record HasHeader (header : RecordHeader) (r : Record) : Type 0 where
  pub sequence : header.sequence ≡ r.header.sequence
  pub links : header.links ≡ r.header.links
  pub flags : header.flags ≡ r.header.flags
  pub base : base_in header.base ≡ r.header.base

-- Record f is in use, and a base record with this header: there is a file of this number.
abbrev pub HasBaseRecord : VolumeView → ℕ → RecordHeader → Type 0
HasBaseRecord view f header = IsSomeAnd (record_on view f) (λ r. IsTrue (is_base r) × HasHeader header r)

-- A VOLUME THAT IS READY for a call, and one whose clusters lie apart.
use Rattle.std.proofs.Common.{◌≡◌, ℕ, [], Some, refl, sym}
use Rattle.list_laws.proofs.MemberLaws.{nil-from_Contains}
use Rattle.list_laws.proofs.OptionLaws.{none_other}
use Rattle.std.specs.Prelude.{IsSomeAnd, IsTrue, Option, None}
use Rattle.ntfs_def.specs.declared.records.TheConstants.{MFT_MIRROR}
use Rattle.volume_def.specs.Files.{Record, is_base, parts, record_on, records_of}
use Rattle.volume_def.specs.Sound.{IsSound}
use Rattle.volume_def.specs.Sound as clauses
use Rattle.volume_def.specs.View.{VolumeView}
use Rattle.volume_edits.specs.Owners.{HasOwners}
use Rattle.edit_def.specs.Marks.{AreRight, Marks}
use Rattle.edit_def.specs.Names.{HasRightBases}
use Rattle.edit_def.proofs.NamesLaws.{bases-of}
use Rattle.edit_def.proofs.ToldLaws.{part-file}
use Rattle.record_edits.specs.Between.{IsReady}
use Rattle.in_place.specs.Unnamed.{LiesApart}
use Rattle.in_place.proofs.EditedInPlace.{editable-sound}

-- no cluster has two owners on a volume that is ready
abbrev pub owners-of : (view : VolumeView) (marks : Marks) → IsReady view marks → HasOwners view
owners-of view marks ready = record {
  owners = ready.editable.owners;
  mirror = ready.editable.mirror_place MFT_MIRROR refl;
  table = ready.table.table;
}

-- so they lie apart
pub apart-ready : (view : VolumeView) (marks : Marks) → IsReady view marks → LiesApart view
apart-ready view marks ready = record {
  owners = owners-of view marks ready;
  some = ready.table.some;
  unnamed = ready.table.unnamed;
}

-- and a sound volume is ready where they do, with bits in memory that are right
pub ready-sound : (view : VolumeView) (marks : Marks) → IsSound view → LiesApart view → AreRight view marks → IsReady view marks
ready-sound view marks sound apart right = record {
  editable = editable-sound view marks sound right;
  limits = sound clauses.Limits;
  bases = bases-of (records_of view) (sound clauses.References);
  table = record { table = apart.owners.table; unnamed = apart.unnamed; some = apart.some };
}

-- a record that is not in use is of no file, and no other belongs to it
pub parts-unused : (view : VolumeView) (n : ℕ) → HasRightBases (records_of view) → record_on view n ≡ None
    → parts (records_of view) n ≡ []
parts-unused view n bases none = nil-from_Contains (parts (records_of view) n) (λ part c.
    never (record_on view n) none (part-file view n part bases c))
  where
    never : (o : Option Record) → o ≡ None → IsSomeAnd o (λ r. IsTrue (is_base r)) → ⊥
    never None e is = is
    never (Some r) e is = none_other (sym e)

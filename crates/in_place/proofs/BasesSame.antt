-- REFERENCES of extension records are right as they were.
use Rattle.std.proofs.Common.{◌≡◌, Bool, Option, Some, None, sym, subst}
use Rattle.std.specs.Option.{option_map}
use Rattle.std.specs.Prelude.{IfSome, IsSomeAnd, IsTrue}
use Rattle.ntfs_def.specs.Record.{Reference}
use Rattle.volume_def.specs.Files.{Record, Records, is_base, records_of}
use Rattle.volume_def.specs.ReferencesClause.{NamesBase}
use Rattle.volume_def.specs.View.{VolumeView}
use Rattle.session_def.specs.EditDefKept.{Key}
use Rattle.session_def.specs.Names.{HasRightBases}
use Rattle.in_place.specs.Blank.{blank_record, blanked}
use Rattle.in_place.specs.InPlace.{Rewrites}
use Rattle.in_place.proofs.SameRecords.{records-same}

base-blank : (records : Records) (reference : Reference) → NamesBase records reference → NamesBase (blanked records) reference
base-blank records reference names = by (records.record_at reference.number) names
  where
    by : (o : Option Record) → IsSomeAnd o (λ r. IsTrue (is_base r) × (r.header.sequence ≡ reference.sequence))
        → IsSomeAnd (option_map blank_record o) (λ r. IsTrue (is_base r) × (r.header.sequence ≡ reference.sequence))
    by None is = is
    by (Some r) is = is

base-back : (records : Records) (reference : Reference) → NamesBase (blanked records) reference → NamesBase records reference
base-back records reference names = by (records.record_at reference.number) names
  where
    by : (o : Option Record) → IsSomeAnd (option_map blank_record o) (λ r. IsTrue (is_base r) × (r.header.sequence ≡ reference.sequence))
        → IsSomeAnd o (λ r. IsTrue (is_base r) × (r.header.sequence ≡ reference.sequence))
    by None is = is
    by (Some r) is = is

if-more : {A : Type 0} (P Q : A → Type 0) → ((a : A) → P a → Q a) → (o : Option A) → IfSome o P → IfSome o Q
if-more P Q f None is = is
if-more P Q f (Some a) is = f a is

bases-blank : (records : Records) → HasRightBases records → HasRightBases (blanked records)
bases-blank records right n = by (records.record_at n) (right n)
  where
    by : (o : Option Record) → IfSome o (λ r. IfSome r.header.base (NamesBase records))
        → IfSome (option_map blank_record o) (λ r. IfSome r.header.base (NamesBase (blanked records)))
    by None is = is
    by (Some r) is = if-more (NamesBase records) (NamesBase (blanked records)) (base-blank records) r.header.base is

bases-back : (records : Records) → HasRightBases (blanked records) → HasRightBases records
bases-back records right n = by (records.record_at n) (right n)
  where
    by : (o : Option Record) → IfSome (option_map blank_record o) (λ r. IfSome r.header.base (NamesBase (blanked records)))
        → IfSome o (λ r. IfSome r.header.base (NamesBase records))
    by None is = is
    by (Some r) is = if-more (NamesBase (blanked records)) (NamesBase records) (base-back records) r.header.base is

pub bases-same : (changed : Key → Bool) (old new : VolumeView) → Rewrites changed old new → HasRightBases (records_of old)
    → HasRightBases (records_of new)
bases-same changed old new w right =
    bases-back (records_of new) (subst HasRightBases (sym (records-same changed old new w)) (bases-blank (records_of old) right))

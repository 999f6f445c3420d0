-- RECORDS THAT CAME TO A FILE, OR WENT, as steps; and a base record that was made, as a file that comes.
use Rattle.std.proofs.Common.{◌≡◌, ◌≢◌, ◌<◌, ◌≤◌, ℕ, Bool, true, false, List, [], ◌∷◌, length, None, Some}
use Rattle.std.proofs.Common.{refl, sym, ap, subst, inr, ◌∙◌, arith}
use Rattle.std.specs.Prelude.{◌==◌, All, IsSomeAnd, IsTrue, cond, count_by, is_none, nat_lt}
use Rattle.std.proofs.lemmas.List.Sums.{count_by-le-length}
use Rattle.ntfs_def.specs.Fixup.{opened_of}
use Rattle.ntfs_def.specs.Record.{Header, Reference, header_of, is_in_use, sequence_of}
use Rattle.ntfs_def.specs.declared.kinds.TheConstants.{FILE_NAME, STANDARD_INFORMATION}
use Rattle.ntfs_def.specs.declared.records.TheConstants.{FIRST_ORDINARY}
use Rattle.list_laws.proofs.PieceLaws.{All-one}
use Rattle.file_record.specs.AttributeBytes.{part}
use Rattle.volume_def.specs.AttributesClause.{AscendsFrom, IsRightPart, IsRightRecord, IsStandard, is_standard, times_id}
use Rattle.volume_def.specs.ExtentsClause.{AreAttribute}
use Rattle.volume_def.specs.Files.{Part, Value, is_base, parts_like, record_in, record_of, record_on, records_of}
use Rattle.volume_def.specs.Readable.{IsFile}
use Rattle.volume_def.specs.ReferencesClause.{NamesBase}
use Rattle.volume_def.specs.Table.{cluster_bytes}
use Rattle.volume_def.specs.View.{VolumeView}
use Rattle.file_record.specs.MountedType.{Mounted}
use Rattle.file_record.specs.Changes.{with_record_given, with_record_taken}
use Rattle.file_record.specs.FreeRecords.{FreesBlock, IsOrdinaryFree}
use Rattle.edit_def.specs.Account.{Wants}
use Rattle.edit_def.specs.Marks.{Marks}
use Rattle.file_edits.proofs.WholeEdits.{one-value}
use Rattle.file_record.specs.Extensions.{ComesEmpty, CreatesBase, IsBareExtension, IsNewBase, reference_of}
use Rattle.file_edits.specs.Files.{CostsFile, IsPlainFile, IsPlainValue, MakesFile}
use Rattle.file_edits.specs.Steps.{FreesExtension, SetsRow, TakesExtension}
use Rattle.record_calls.specs.Marks.{marks_of}
use Rattle.record_calls.proofs.Rows.{free-within, row-given, row-taken}

-- the reference to a base record names it
pub base-named : (view : VolumeView) (f : ℕ) → IsFile view f → NamesBase (records_of view) (reference_of view f)
unfolding record_in header_of
base-named view f is = by (nat_lt f view.layout.count) (is_in_use (view.block f)) is
  where
    by : (inside used : Bool)
        → IsSomeAnd (cond inside (cond used (Some (record_of f (opened_of (view.block f)))) None) None) (λ r. IsTrue (is_base r))
        → IsSomeAnd (cond inside (cond used (Some (record_of f (opened_of (view.block f)))) None) None)
        (λ r. IsTrue (is_base r) × (r.header.sequence ≡ sequence_of (opened_of (view.block f))))
    by true true base = (base, refl)
    by true false base = base
    by false used base = base

-- the flag that was taken, and given back
taken-row : (was now : Mounted) (n : ℕ) → now ≡ with_record_taken was n → IsOrdinaryFree was.records n
    → SetsRow (marks_of was) (marks_of now) n true
taken-row was now n is free =
    subst (λ (m : Mounted). SetsRow (marks_of was) (marks_of m) n true) (sym is) (row-taken was n (free-within was n free))

pub extension-taken : (f : ℕ) (old new : VolumeView) (was now : Mounted) (n : ℕ) (base : Reference) → IsTrue old.told
    → ComesEmpty old new n base → now ≡ with_record_taken was n → IsOrdinaryFree was.records n → n < old.layout.count
    → record_on old n ≡ None → NamesBase (records_of old) base → base.number ≡ f
    → TakesExtension f old new (marks_of was) (marks_of now)
extension-taken f old new was now n base told e is free inside unused names file = record {
  told = told;
  n = n;
  stored = e.stored;
  replaces = e.replaces;
  ordinary = free.0;
  inside = inside;
  free = unused;
  used = e.used;
  well = e.well;
  empty = e.empty;
  base = base;
  base_is = ap (λ (h : Header). h.base) e.header;
  names = names;
  file = file;
  row = taken-row was now n is free;
}

pub extension-freed : (f : ℕ) (old new : VolumeView) (was now : Mounted) (n : ℕ) → IsTrue old.told → FreesBlock old new n
    → IsBareExtension old f n → now ≡ with_record_given was n → FIRST_ORDINARY ≤ n → n < length was.records
    → FreesExtension f old new (marks_of was) (marks_of now)
extension-freed f old new was now n told e bare is ordinary inside = record {
  told = told;
  n = n;
  stored = e.stored;
  replaces = e.replaces;
  ordinary = ordinary;
  inside = bare.inside;
  used = bare.used;
  empty = bare.empty;
  extension = bare.extension;
  file = bare.file;
  gone = e.idle told bare.array;
  row = subst (λ (m : Mounted). SetsRow (marks_of was) (marks_of m) n false) (sym is) (row-given was n inside);
}

-- A NEW BASE RECORD
abbrev standard_part : ℕ → List ℕ → Part
standard_part n standard = part n STANDARD_INFORMATION [] 0 (Value standard)

module _ (n sequence : ℕ) (dir : Bool) (standard block : List ℕ) (e : IsNewBase n sequence dir standard block) where
  is-base : IsTrue (is_base (record_of n block))
  is-base = ap (λ (h : Header). is_none h.base) e.header

  all-one : (P : Part → Type 0) → P (standard_part n standard) → All P (record_of n block).parts
  all-one P p = subst (All P) (sym e.parts) (All-one P (standard_part n standard) p)

  pub new-plain : IsPlainFile n (record_of n block)
  new-plain = record {
    base = is-base;
    values = all-one IsPlainValue (record { value = refl; no_list = λ z. absurd (omega (arith, z)); units = refl });
    held = λ none. let is : standard_part n standard ∷ [] ≡ [] = sym e.parts ∙ none in cc;
  }

  pub new-right : length standard ≡ 72 → IsRightRecord n (record_of n block)
  new-right long = record {
    system = λ low. is-base;
    rising = subst (AscendsFrom 0) (sym e.parts) (omega arith, tt);
    ids = λ id. subst (λ all. times_id id all ≤ 1) (sym e.parts)
        (count_by-le-length (λ (part : Part). part.id == id) (standard_part n standard ∷ []));
    one_standard = λ b. ap (count_by is_standard) e.parts;
    standard = λ b. all-one (λ part. part.kind ≡ STANDARD_INFORMATION → IsStandard part) (λ k. (refl, inr long));
    each = all-one IsRightPart (record { resident = λ k. refl; name = λ k. absurd (omega (arith, k)) });
  }

  pub new-streams : (size : ℕ)
      → All (λ part. part.kind ≢ FILE_NAME → AreAttribute size n (parts_like part (record_of n block).parts)) (record_of n block).parts
  new-streams size = subst (λ all. All (λ part. part.kind ≢ FILE_NAME → AreAttribute size n (parts_like part all)) all) (sym e.parts)
      (All-one (λ part. part.kind ≢ FILE_NAME → AreAttribute size n (parts_like part (standard_part n standard ∷ [])))
      (standard_part n standard) (λ other. one-value size n (standard_part n standard) refl))

pub made : (old new : VolumeView) (was now : Mounted) (n : ℕ) (dir : Bool) (standard : List ℕ) → IsTrue old.told
    → CreatesBase old new n dir standard → length standard ≡ 72 → now ≡ with_record_taken was n → IsOrdinaryFree was.records n
    → n < old.layout.count → record_on old n ≡ None → MakesFile n old new (marks_of was) (marks_of now)
made old new was now n dir standard told e long is free inside unused = record {
  told = told;
  stored = e.stored;
  replaces = e.replaces;
  ordinary = free.0;
  inside = inside;
  free = unused;
  used = e.used;
  well = e.well;
  plain = new-plain n _ dir standard (opened_of e.stored) e.is;
  right = new-right n _ dir standard (opened_of e.stored) e.is long;
  streams = new-streams n _ dir standard (opened_of e.stored) e.is (cluster_bytes old.layout);
  row = taken-row was now n is free;
}

pub costs : (old new : VolumeView) (before after : Marks) (n : ℕ) (dir : Bool) (standard : List ℕ) (wants : Wants)
    → CreatesBase old new n dir standard → (t : MakesFile n old new before after) → 1 ≤ wants.parts n → 1 ≤ wants.records
    → CostsFile n (record_of n (opened_of t.stored)).parts wants
costs old new before after n dir standard wants e t one record_one =
    let same : t.stored ≡ e.stored = sym (t.replaces.block t.told) ∙ e.replaces.block t.told in
    let parts : (record_of n (opened_of t.stored)).parts ≡ standard_part n standard ∷ [] =
    ap (λ stored. (record_of n (opened_of stored)).parts) same ∙ e.is.parts in
    subst (λ all. CostsFile n all wants) (sym parts) (record { parts_are = one; names = omega arith; one = record_one })

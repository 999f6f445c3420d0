-- The clause on links of one file, by what its base record tells and by its names.
use Rattle.std.proofs.Common.{Bool, IsSomeAnd, IsTrue, List, None, Option, Some, ap, arith, eq-eqb, false, if◌then◌else◌, refl, subst}
use Rattle.std.proofs.Common.{sym, true, ℕ, ◌==◌, ◌∙◌, ◌≡◌, ◌≢◌}
use Rattle.std.specs.Prelude.{IfSome}
use Rattle.std.proofs.lemmas.Bool.{and_from, and_parts}
use Rattle.list_laws.specs.SameItems.{SameItems}
use Rattle.list_laws.proofs.OptionLaws.{none_other, some_same}
use Rattle.list_laws.proofs.SameItemsLaws.{SameItems-length}
use Rattle.ntfs_def.specs.FileName.{FileName}
use Rattle.ntfs_def.specs.declared.records.TheConstants.{ROOT}
use Rattle.volume_def.specs.FileNames.{is_not_dos, names_of}
use Rattle.volume_def.specs.Files.{Record, Records, is_base, is_directory, record_on, records_of}
use Rattle.volume_def.specs.LinksClause.{HasRightLinks, MeetsLinks, ReachesRoot}
use Rattle.volume_def.specs.View.{VolumeView}
use Rattle.tree_model.proofs.ClimbLaws.{IsDirectoryOf}
use Rattle.edit_def.specs.Names.{HasRightNames, Numbers, is_directory_by, numbers_at, numbers_by, numbers_in}
use Rattle.name_edits.proofs.PairedNames.{paired-same, paired-from, paired-to}

pub directory-of : (o : Option Record) (sequence : ℕ) → is_directory_by (numbers_by o) sequence ≡ true
    → IsSomeAnd o (λ r. IsTrue (is_base r) × IsTrue (is_directory r))
directory-of None sequence e = cc
directory-of (Some r) sequence e = by (is_base r) refl e
  where
    by : (base : Bool) → is_base r ≡ base
        → is_directory_by (if base then Some
        (record { sequence = r.header.sequence; links = r.header.links; directory = is_directory r }) else None) sequence ≡ true
        → IsTrue (is_base r) × IsTrue (is_directory r)
    by true base e = (base, (and_parts (is_directory r) (r.header.sequence == sequence) e).0)
    by false base e = cc

pub numbers-base : (records : Records) (f : ℕ) (r : Record) → records.record_at f ≡ Some r → is_base r ≡ true
    → numbers_at records f ≡ Some (numbers_in r)
numbers-base records f r at base = ap numbers_by at ∙ ap (λ b. if b then Some (numbers_in r) else None) base

-- from the clause
pub names-meets : (records : Records) (f : ℕ) (numbers : Numbers) → MeetsLinks records f → numbers_at records f ≡ Some numbers
    → HasRightNames f numbers (names_of records f)
names-meets records f numbers meets at = by (records.record_at f) meets.links at
  where
    last : (r : Record) (b : Bool) → is_base r ≡ b → (IsTrue (is_base r) → HasRightLinks records f r)
        → (if b then Some (numbers_in r) else None) ≡ Some numbers → HasRightNames f numbers (names_of records f)
    last r true base right at =
        let h = right base in
        let same : numbers_in r ≡ numbers = cc in
        subst (λ n. HasRightNames f n (names_of records f)) same
        (record { named = h.named; count = h.count; paired = paired-to (names_of records f) h.paired; once = h.once })
    last r false base right at = cc

    by : (o : Option Record) → IfSome o (λ r. IsTrue (is_base r) → HasRightLinks records f r) → numbers_by o ≡ Some numbers
        → HasRightNames f numbers (names_of records f)
    by None right at = cc
    by (Some r) right at = last r (is_base r) refl right at

-- and back
pub meets-names : (view : VolumeView) (f : ℕ)
    → ((numbers : Numbers) → numbers_at (records_of view) f ≡ Some numbers → HasRightNames f numbers (names_of (records_of view) f))
    → (f ≢ ROOT → IsDirectoryOf view f → ReachesRoot (records_of view) f) → (f ≡ ROOT → IsDirectoryOf view ROOT)
    → MeetsLinks (records_of view) f
meets-names view f right rooted root = record { links = by (record_on view f) refl; root = root }
  where
    by : (o : Option Record) → record_on view f ≡ o → IfSome o (λ r. IsTrue (is_base r) → HasRightLinks (records_of view) f r)
    by None at = tt
    by (Some r) at = λ base.
        let h = right (numbers_in r) (numbers-base (records_of view) f r at base) in
        record {
          named = h.named;
          count = h.count;
          paired = paired-from (names_of (records_of view) f) h.paired;
          once = h.once;
          rooted = λ ne dir. rooted ne (rw at (base, dir));
        }

pub right-same : (f : ℕ) (numbers : Numbers) (xs ys : List FileName) → SameItems xs ys → HasRightNames f numbers xs
    → HasRightNames f numbers ys
right-same f numbers xs ys h right =
    let l = SameItems-length xs ys h in
    record {
      named = λ ge. let a = right.named ge in omega (arith, a, l);
      count = λ ge. right.count ge ∙ sym l;
      paired = paired-same xs ys h right.paired;
      once = λ ne dir. h.counts is_not_dos ∙ right.once ne dir;
    }

pub directory-numbers : (o : Option Record) → IsSomeAnd o (λ r. IsTrue (is_base r) × IsTrue (is_directory r))
    → (numbers : Numbers) × (numbers_by o ≡ Some numbers) × (numbers.directory ≡ true)
directory-numbers None is = absurd is
directory-numbers (Some r) is = (numbers_in r, ap (λ b. if b then Some (numbers_in r) else None) is.0, is.1)

-- THE CLAUSE, BOTH WAYS. A directory other than the root leads there, by its numbers.
rooted-by : (records : Records) (f : ℕ) (o : Option Record) (numbers : Numbers) → f ≢ ROOT
    → IfSome o (λ r. IsTrue (is_base r) → HasRightLinks records f r) → numbers_by o ≡ Some numbers → numbers.directory ≡ true
    → ReachesRoot records f
rooted-by records f None numbers away right at dir = absurd (none_other at)
rooted-by records f (Some r) numbers away right at dir = by (is_base r) refl at
  where
    by : (b : Bool) → is_base r ≡ b → (if b then Some (numbers_in r) else None) ≡ Some numbers → ReachesRoot records f
    by true base at = let same : numbers_in r ≡ numbers = some_same at in (right base).rooted away
        (ap (λ (n : Numbers). n.directory) same ∙ dir)
    by false base at = absurd (none_other at)

pub rooted-meets : (records : Records) (f : ℕ) (numbers : Numbers) → MeetsLinks records f → numbers_at records f ≡ Some numbers
    → f ≢ ROOT → numbers.directory ≡ true → ReachesRoot records f
rooted-meets records f numbers meets at away dir = rooted-by records f (records.record_at f) numbers away meets.links at dir

pub root-meets : (records : Records) → MeetsLinks records ROOT
    → (numbers : Numbers) × (numbers_at records ROOT ≡ Some numbers) × (numbers.directory ≡ true)
root-meets records meets = directory-numbers (records.record_at ROOT) (meets.root refl)

-- a directory by its numbers
pub numbers-directory : (o : Option Record) (numbers : Numbers) → numbers_by o ≡ Some numbers → numbers.directory ≡ true
    → IsSomeAnd o (λ r. IsTrue (is_base r) × IsTrue (is_directory r))
numbers-directory o numbers at dir =
    directory-of o numbers.sequence (ap (λ k. is_directory_by k numbers.sequence) at
    ∙ and_from numbers.directory (numbers.sequence == numbers.sequence) dir (eq-eqb numbers.sequence numbers.sequence refl))

pub links-whole : (view : VolumeView) (f : ℕ)
    → ((numbers : Numbers) → numbers_at (records_of view) f ≡ Some numbers → HasRightNames f numbers (names_of (records_of view) f))
    → ((numbers : Numbers) → numbers_at (records_of view) f ≡ Some numbers → f ≢ ROOT → numbers.directory ≡ true
    → ReachesRoot (records_of view) f)
    → (f ≡ ROOT → (numbers : Numbers) × (numbers_at (records_of view) ROOT ≡ Some numbers) × (numbers.directory ≡ true))
    → MeetsLinks (records_of view) f
links-whole view f right rooted root = meets-names view f right
    (λ away is. let n = directory-numbers (record_on view f) is in rooted n.0 n.1 away n.2)
    (λ e. let n = root e in numbers-directory (record_on view ROOT) n.0 n.1 n.2)

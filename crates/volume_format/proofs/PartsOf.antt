-- Among base records each file has the parts of its own record.
use Rattle.std.proofs.Common.{◌≡◌, ◌≢◌, ℕ, ◌<◌, ◌≤◌, ◌==◌, true, false, cond, List, [], Option, Some, None, refl, ap, ◌∙◌, arith}
use Rattle.std.specs.Prelude.{IfSome, option_map, unwrap_or}
use Rattle.std.proofs.lemmas.Bool.Decides.{nat_tests}
use Rattle.ntfs_def.specs.Record.{Reference}
use Rattle.volume_def.specs.Files.{Part, Record, Records, file_of, parts, parts_in}
use Rattle.list_laws.proofs.FlatMapLaws.{flat_map-none, flat_map-one}

abbrev pub parts_or_none : Option Record → List Part
parts_or_none None = []
parts_or_none (Some r) = r.parts

-- all records are base records
abbrev pub AllBase : Records → Type 0
AllBase records = (n : ℕ) → IfSome (records.record_at n) (λ r. r.header.base ≡ None)

pub file_of-base : (n : ℕ) (r : Record) → r.header.base ≡ None → file_of n r ≡ n
file_of-base n r e = ap (λ (base : Option Reference). unwrap_or (option_map (λ b. b.number) base) n) e

parts_in-other : (n f : ℕ) (o : Option Record) → IfSome o (λ r. r.header.base ≡ None) → n ≢ f → parts_in o n f ≡ []
unfolding parts_in
parts_in-other n f None base ne = refl
parts_in-other n f (Some r) base ne =
    let e = file_of-base n r base in
    let t : (file_of n r == f) ≡ false = rw e (grind (arith, nat_tests)) in
    ap (λ b. cond b r.parts []) t

parts_in-own : (n : ℕ) (o : Option Record) → IfSome o (λ r. r.header.base ≡ None) → parts_in o n n ≡ parts_or_none o
unfolding parts_in
parts_in-own n None base = refl
parts_in-own n (Some r) base =
    let e = file_of-base n r base in
    let t : (file_of n r == n) ≡ true = rw e (grind (arith, nat_tests)) in
    ap (λ b. cond b r.parts []) t

pub parts-base : (records : Records) → AllBase records → (f : ℕ) → f < records.count → parts records f ≡ parts_or_none (records.record_at f)
unfolding parts
parts-base records base f inside =
    flat_map-one (λ n. parts_in (records.record_at n) n f) 0 records.count f (omega arith) (omega arith)
    (λ m ne. parts_in-other m f (records.record_at m) (base m) ne)
    ∙ parts_in-own f (records.record_at f) (base f)

-- and past the last record there is no file
pub parts-past : (records : Records) → AllBase records → (f : ℕ) → records.count ≤ f → parts records f ≡ []
unfolding parts
parts-past records base f past =
    flat_map-none (λ n. parts_in (records.record_at n) n f) 0 records.count
    (λ m low high. parts_in-other m f (records.record_at m) (base m) (λ e. absurd (omega (arith, e, high, past))))

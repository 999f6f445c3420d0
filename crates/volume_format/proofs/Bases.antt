-- All records of a new volume are base records, so each file has the parts of its own record.
use Rattle.std.proofs.Common.{◌≡◌, ℕ, ◌<◌, Some, None, refl, ap, ◌∙◌, arith}
use Rattle.volume_def.specs.Files.{Record, parts}
use Rattle.volume_format.specs.Plan.{Plan, planned_records, record_count, record_in_list, record_list}
use Rattle.volume_format.proofs.EachRecord.{EachRecord, each-listed}
use Rattle.volume_format.proofs.Listed.{record_in_list-inside}
use Rattle.volume_format.proofs.PartsOf.{AllBase, parts-base, parts_or_none}

abbrev Base : ℕ → Record → Type 0
Base n r = r.header.base ≡ None

bases : (p : Plan) → EachRecord Base p
bases p = record {
  n0 = refl;
  n1 = refl;
  n2 = refl;
  n3 = refl;
  n4 = refl;
  n5 = refl;
  n6 = refl;
  n7 = refl;
  n8 = refl;
  n9 = refl;
  n10 = refl;
  n11 = refl;
  n24 = refl;
  n25 = refl;
}

pub AllBase-planned : (p : Plan) → AllBase (planned_records p)
AllBase-planned p = each-listed Base p (bases p)

pub parts-planned : (p : Plan) (f : ℕ) → f < record_count → parts (planned_records p) f ≡ parts_or_none (record_in_list (record_list p) f)
parts-planned p f inside = parts-base (planned_records p) (AllBase-planned p) f inside

pub parts-listed : (p : Plan) (f : ℕ) (r : Record) → record_in_list (record_list p) f ≡ Some r → parts (planned_records p) f ≡ r.parts
parts-listed p f r e =
    let inside = record_in_list-inside (record_list p) f r e in
    parts-planned p f (omega (arith, inside)) ∙ ap parts_or_none e

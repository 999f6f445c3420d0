-- The records of a view of a new volume are those of the plan.
use Rattle.std.proofs.Common.{◌≡◌, ℕ, ◌<◌, cond, List, filter, Option, None, inl, inr, sym, ap, ◌∙◌, arith}
use Rattle.std.proofs.lemmas.Bool.{cases_lt, lt-ltb, le-ltb}
use Rattle.std.proofs.Math.Path.{fun_ext}
use Rattle.volume_def.specs.Files.{Record, Records, is_of, parts, parts_at, record_in, record_on, records_of}
use Rattle.volume_def.specs.View.{VolumeView}
use Rattle.volume_format.specs.Plan.{Plan, planned_records, record_count, record_in_list, record_list}
use Rattle.volume_format.specs.Planned.{IsPlanned}
use Rattle.volume_format.proofs.Listed.{record_in_list-past}
use Rattle.volume_format.proofs.Bases.{parts-planned}
use Rattle.volume_format.proofs.PartsOf.{parts_or_none}

records_same : (a b : Records) → a.count ≡ b.count → ((n : ℕ) → a.record_at n ≡ b.record_at n) → a ≡ b
records_same a b count each =
    ap (λ (k : ℕ). let t : Records = record { count = k; record_at = a.record_at } in t) count
    ∙ ap (λ (f : ℕ → Option Record). let t : Records = record { count = b.count; record_at = f } in t) (fun_ext each)

module _ (p : Plan) (view : VolumeView) (is : IsPlanned p view) where
  pub record_on-planned : (n : ℕ) → record_on view n ≡ record_in_list (record_list p) n
  record_on-planned n = elim (cases_lt n record_count) [
    | inl lt ↦ ap (λ b. cond b (record_in n (view.block n)) None) (lt-ltb n view.layout.count (omega (arith, is.count))) ∙ is.records n lt
    | inr ge ↦
        ap (λ b. cond b (record_in n (view.block n)) None) (le-ltb n view.layout.count (omega (arith, is.count)))
        ∙ sym (record_in_list-past (record_list p) n (omega arith))
  ]

  pub records_of-planned : records_of view ≡ planned_records p
  records_of-planned = records_same _ _ is.count record_on-planned

  -- the parts of a type and name of a file
  pub parts_at-planned : (f kind : ℕ) (name : List ℕ) → f < record_count
      → parts_at view f kind name ≡ filter (is_of kind name) (parts_or_none (record_in_list (record_list p) f))
  parts_at-planned f kind name inside =
      ap (λ records. filter (is_of kind name) (parts records f)) records_of-planned
      ∙ ap (filter (is_of kind name)) (parts-planned p f inside)

-- The clause on the table of case holds of a new volume, and what its table says.
use Rattle.std.proofs.Common.{◌≡◌, ℕ, ◌+◌, ◌*◌, ◌/◌, ◌%◌, ◌^◌, ◌<◌, ◌==◌, true, false, cond, List, length, get_or, refl, ap, ◌∙◌, arith}
use Rattle.std.proofs.lemmas.Bool.Decides.{nat_tests}
use Rattle.std.proofs.lemmas.List.FromFn.{length-map-range_with_len, get_or-map-range_with_len}
use Rattle.volume_def.specs.CaseClause.{HasCaseTable, MeetsCaseTable, case_parts, volume_fold}
use Rattle.volume_def.specs.Values.{value_on}
use Rattle.volume_def.specs.View.{VolumeView}
use Rattle.volume_format.specs.Items.{case_byte, case_of}
use Rattle.volume_format.specs.Plan.{Plan, case_len}
use Rattle.volume_format.specs.Planned.{IsPlanned}
use Rattle.volume_format.proofs.Contents.{case_parts-planned, case_parts-value}

byte-low : (unit : ℕ) → case_byte (2 * unit) ≡ case_of unit % 256
byte-low unit =
    let even : 2 * unit % 2 ≡ 0 = omega arith in
    let e : (2 * unit % 2 == 0) ≡ true = grind (arith, nat_tests) in
    let half : 2 * unit / 2 ≡ unit = omega arith in
    ap (λ b. cond b (case_of (2 * unit / 2) % 256) (case_of (2 * unit / 2) / 256)) e ∙ ap (λ k. case_of k % 256) half

byte-high : (unit : ℕ) → case_byte (2 * unit + 1) ≡ case_of unit / 256
byte-high unit =
    let odd : (2 * unit + 1) % 2 ≡ 1 = omega arith in
    let e : ((2 * unit + 1) % 2 == 0) ≡ false = grind (arith, nat_tests) in
    let half : (2 * unit + 1) / 2 ≡ unit = omega arith in
    ap (λ b. cond b (case_of ((2 * unit + 1) / 2) % 256) (case_of ((2 * unit + 1) / 2) / 256)) e ∙ ap (λ k. case_of k / 256) half

joined : (n low high : ℕ) → low ≡ n % 256 → high ≡ n / 256 → low + 2 ^ 8 * high ≡ n
joined n low high l h = omega arith

module _ (p : Plan) (view : VolumeView) (is : IsPlanned p view) (some : 0 < p.size) where
  HasCaseTable-planned : HasCaseTable view
  HasCaseTable-planned = record {
    plain = rw (case_parts-planned p view is) refl;
    whole = ap length (case_parts-value p view is some) ∙ length-map-range_with_len case_byte 0 case_len;
  }

  pub MeetsCaseTable-planned : (n : ℕ) → MeetsCaseTable view n
  MeetsCaseTable-planned n e = HasCaseTable-planned

  byte-case : (k : ℕ) → k < case_len → get_or (value_on view (case_parts view)) k 0 ≡ case_byte k
  byte-case k inside =
      ap (λ (bytes : List ℕ). get_or bytes k 0) (case_parts-value p view is some)
      ∙ get_or-map-range_with_len case_byte 0 case_len k k 0 inside (omega arith)

  -- what a unit is compared as
  pub volume_fold-planned : (unit : ℕ) → unit < 2 ^ 16 → volume_fold view unit ≡ case_of unit
  volume_fold-planned unit lt =
      joined (case_of unit) _ _ (byte-case (2 * unit) (omega arith) ∙ byte-low unit)
      (byte-case (2 * unit + 1) (omega arith) ∙ byte-high unit)

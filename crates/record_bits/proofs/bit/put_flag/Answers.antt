use Rattle.std.proofs.Common.{◌≡◌, ◌≢◌, ◌-◌, ◌*◌, ◌/◌, ◌%◌, ◌^◌, ℕ, bit_and, get_or, inl, inr, length, set, sym, ap, w8, ◌∙◌, arith}
use Rattle.std.proofs.lemmas.Bool.{cases_eq}
use Rattle.std.proofs.lemmas.Nat.Bits.{bit_at_clear_other, bit_at_clear_same}
use Rattle.cluster_bitmap.specs.Words.{bit_for}
use Rattle.list_laws.proofs.BitLaws.{SetsBit-set, bit_in-place, bit_in-set_here, bit_in-set_other}
use Rattle.record_bits.proofs.bit.put_flag.Goals as goal

pub returns-then-value-clause-here : goal.returns-then-value-clause-here
returns-then-value-clause-here c =
    (SetsBit-set c.args.sector.now c.args.flag (omega arith)).here ∙ ap bit_for (sym c.if-value.true)

pub returns-then-value-clause-others : goal.returns-then-value-clause-others
returns-then-value-clause-others c k ne = (SetsBit-set c.args.sector.now c.args.flag (omega arith)).others k ne

pub returns-clause-here : goal.returns-clause-here
returns-clause-here c =
    let flag = c.args.flag in
    bit_in-set_here c.args.sector.now (flag / 8) _ (flag % 8) flag (omega arith) (omega arith) (omega arith)
    ∙ bit_at_clear_same w8 (get_or c.args.sector.now (flag / 8) 0) (flag % 8) (omega arith)
    ∙ ap bit_for (sym c.if-value.false)

pub returns-clause-others : goal.returns-clause-others
returns-clause-others c k ne =
    let bytes = c.args.sector.now in
    let flag = c.args.flag in
    elim (cases_eq (k / 8) (flag / 8)) [
      | inl e ↦
          let apart : k % 8 ≢ flag % 8 = λ is. ne (omega arith) in
          bit_in-set_here bytes (flag / 8) _ (k % 8) k (omega arith) (omega arith) (omega arith)
          ∙ bit_at_clear_other w8 (get_or bytes (flag / 8) 0) (flag % 8) (omega arith) (k % 8) (omega arith) apart
          ∙ sym (bit_in-place bytes (flag / 8) (k % 8) k (omega arith) (omega arith))
      | inr other ↦ bit_in-set_other bytes (flag / 8) _ k other
    ]

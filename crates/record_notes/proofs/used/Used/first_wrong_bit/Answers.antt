use Rattle.std.proofs.Common.{◌<◌, ◌*◌, length, arith, ap, inl, inr, sym, ◌∙◌}
use Rattle.std.proofs.lemmas.Bool.{cases_lt}
use Rattle.list_laws.specs.Bits.{bit_in}
use Rattle.record_notes.specs.Used.{records_noted}
use Rattle.record_notes.proofs.BitmapLaws.{records-differ, records-meet}
use Rattle.record_notes.proofs.used.Used.first_wrong_bit.Goals as goal

pub returns-in_default : goal.returns-in_default
returns-in_default c = λ view notes has is before n high. elim (cases_lt n (8 * c.args.from)) [
  | inl lt ↦ before n lt
  | inr low ↦
      let used = c.args.self.now in
      records-meet view used c.args.piece.now c.args.from n notes has is low high
      (λ ordinary inside.
      let here : n < 8 * length c.deref.result.now = omega (arith, ap length c.deref.ensures.value, used.room) in
      c.in_default.ensures n low high ordinary here ∙ ap (λ bits. bit_in bits n) c.deref.ensures.value)
]

pub returns-then-record-self : goal.returns-then-record-self
returns-then-record-self c = λ view notes has is before n high. elim (cases_lt n (8 * c.args.from)) [
  | inl lt ↦ before n lt
  | inr low ↦
      let used = c.args.self.now in
      let first = c.in-Some.ensures in
      records-meet view used c.args.piece.now c.args.from n notes has is low high
      (λ ordinary inside.
      let here : n < 8 * length c.deref.result.now = omega (arith, ap length c.deref.ensures.value, used.room) in
      let earlier : n < c.in-Some.record = omega (arith, c.if-record-self.true) in
      first.3 n low earlier ordinary here ∙ ap (λ bits. bit_in bits n) c.deref.ensures.value)
]

pub returns : goal.returns
returns c = λ view notes has is before.
    let used = c.args.self.now in
    let first = c.in-Some.ensures in
    let record_at = c.in-Some.record in
    let inside : record_at < records_noted used = c.if-record-self.false in (
      first.1,
      λ meets. first.2 (λ ordinary here.
          records-differ view used c.args.piece.now c.args.from record_at notes is first.0 first.1 ordinary inside meets
          ∙ ap (λ bits. bit_in bits record_at) (sym c.deref.ensures.value)),
      λ n earlier. elim (cases_lt n (8 * c.args.from)) [
        | inl lt ↦ before n lt
        | inr low ↦ records-meet view used c.args.piece.now c.args.from n notes has is low (omega (arith, first.1))
            (λ ordinary within.
            let here : n < 8 * length c.deref.result.now = omega (arith, ap length c.deref.ensures.value, used.room) in
            first.3 n low earlier ordinary here ∙ ap (λ bits. bit_in bits n) c.deref.ensures.value)
      ],
    )

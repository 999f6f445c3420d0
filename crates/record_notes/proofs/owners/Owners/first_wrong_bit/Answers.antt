use Rattle.std.proofs.Common.{◌<◌, ◌*◌, length, arith, ap, inl, inr, sym, ◌∙◌}
use Rattle.std.proofs.lemmas.Bool.{cases_lt}
use Rattle.list_laws.specs.Bits.{bit_in}
use Rattle.record_notes.specs.Owners.{clusters_noted}
use Rattle.record_notes.proofs.BitmapLaws.{bits-differ, bits-meet}
use Rattle.record_notes.proofs.owners.Owners.first_wrong_bit.Goals as goal

pub returns-in_default : goal.returns-in_default
returns-in_default c = λ view written notes has fits is before n high. elim (cases_lt n (8 * c.args.from)) [
  | inl lt ↦ before n lt
  | inr low ↦
      let owners = c.args.self.now in
      bits-meet view owners written c.args.piece.now c.args.from n notes has fits is low high
      (λ inside.
      let here : n < 8 * length c.deref.result.now = omega (arith, ap length c.deref.ensures.value, owners.owned.room) in
      c.in_default.ensures n low high here ∙ ap (λ bits. bit_in bits n) c.deref.ensures.value)
]

pub returns-then-cluster-self : goal.returns-then-cluster-self
returns-then-cluster-self c = λ view written notes has fits is before n high. elim (cases_lt n (8 * c.args.from)) [
  | inl lt ↦ before n lt
  | inr low ↦
      let owners = c.args.self.now in
      let first = c.in-Some.ensures in
      bits-meet view owners written c.args.piece.now c.args.from n notes has fits is low high
      (λ inside.
      let here : n < 8 * length c.deref.result.now = omega (arith, ap length c.deref.ensures.value, owners.owned.room) in
      let earlier : n < c.in-Some.cluster = omega (arith, c.if-cluster-self.true) in
      first.3 n low earlier here ∙ ap (λ bits. bit_in bits n) c.deref.ensures.value)
]

pub returns : goal.returns
returns c = λ view written notes has fits is before.
    let owners = c.args.self.now in
    let first = c.in-Some.ensures in
    let cluster = c.in-Some.cluster in
    let inside : cluster < clusters_noted owners = c.if-cluster-self.false in (
      first.1,
      λ meets. first.2 (λ here.
          bits-differ view owners c.args.piece.now c.args.from cluster notes is first.0 first.1 inside meets
          ∙ ap (λ bits. bit_in bits cluster) (sym c.deref.ensures.value)),
      λ n earlier. elim (cases_lt n (8 * c.args.from)) [
        | inl lt ↦ before n lt
        | inr low ↦ bits-meet view owners written c.args.piece.now c.args.from n notes has fits is low (omega (arith, first.1))
            (λ within.
            let here : n < 8 * length c.deref.result.now = omega (arith, ap length c.deref.ensures.value, owners.owned.room) in
            first.3 n low earlier here ∙ ap (λ bits. bit_in bits n) c.deref.ensures.value)
      ],
    )

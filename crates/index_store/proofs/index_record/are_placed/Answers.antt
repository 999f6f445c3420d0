use Rattle.std.proofs.Common.{◌≡◌, ◌+◌, false, inl, inr, sym, ap, ◌∙◌, arith}
use Rattle.std.proofs.lemmas.Bool.{cases_lt}
use Rattle.volume_def.specs.Values.{spot_at}
use Rattle.attr_view.specs.View.{attribute_of}
use Rattle.attr_store.specs.Sought.{parts_held_like}
use Rattle.index_store.specs.IndexRecords.{is_hole}
use Rattle.index_store.proofs.IndexRecordLaws.{placed-all, placed-not}
use Rattle.index_store.proofs.index_record.are_placed.Goals as goal

pub returns-then-is_hole : goal.returns-then-is_hole
returns-then-is_hole c size f s =
    let extents = parts_held_like c.args.file.now (attribute_of c.args.stream.now) in
    placed-not extents c.args.vcn c.args.count c.loop-k.k (omega arith)
    (ap is_hole (sym (c.in_ok-spot.ensures size f s)) ∙ sym c.is_hole.ensures ∙ c.if-is_hole.true)

pub loop-k-preserved : goal.loop-k-preserved
loop-k-preserved c size f s j lt =
    let extents = parts_held_like c.args.file.now (attribute_of c.args.stream.now) in
    let here : is_hole (spot_at extents (c.args.vcn + c.loop-k.k)) ≡ false =
    ap is_hole (sym (c.in_ok-spot.ensures size f s)) ∙ sym c.is_hole.ensures ∙ c.if-is_hole.false in
    elim (cases_lt j c.loop-k.k) [
      | inl before ↦ c.loop-k.invariant size f s j before
      | inr now ↦
          let same : j ≡ c.loop-k.k = omega arith in
          ap (λ k. is_hole (spot_at extents (c.args.vcn + k))) same ∙ here
    ]

pub returns : goal.returns
returns c size f s =
    placed-all (parts_held_like c.args.file.now (attribute_of c.args.stream.now)) c.args.vcn c.args.count
    (λ k lt. c.loop-k.invariant size f s k (omega arith))

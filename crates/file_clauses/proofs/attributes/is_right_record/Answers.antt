use Rattle.std.proofs.Common.{◌≡◌, ◌==◌, inl, inr, arith, eq-eqb}
use Rattle.attr_view.specs.View.{viewed_block}
use Rattle.volume_def.specs.Files.{is_base, record_of}
use Rattle.file_clauses.proofs.AttributesLaws.{RightRecord-from, RightRecord-parts, is_base-zero}
use Rattle.file_clauses.proofs.attributes.is_right_record.Goals as goal

pub returns-then-n-ge-SYSTEM_END-clause-right : goal.returns-then-n-ge-SYSTEM_END-clause-right
returns-then-n-ge-SYSTEM_END-clause-right c =
    let r = record_of c.args.n (viewed_block c.args.view.now) in
    let reference = c.header-base.result.base in
    let base = reference == 0 in
    let is : is_base r ≡ base = is_base-zero r reference c.header-base.ensures.base in (
      λ t. RightRecord-from c.args.n r base is
          (λ low. elim c.if-n-ge-SYSTEM_END.either [
            | inl zero ↦ eq-eqb reference 0 zero
            | inr late ↦ let high = late.1 in absurd
                (omega arith)
          ])
          ((c.are_right.ensures c.args.n).0 t),
      λ right. (c.are_right.ensures c.args.n).1 (RightRecord-parts c.args.n r base is right),
    )

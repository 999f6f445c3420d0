use Rattle.std.proofs.Common.{◌≡◌, ◌%◌, sym, subst, ◌∙◌}
use Rattle.ntfs_def.specs.Attribute.{value_offset}
use Rattle.ntfs_def.specs.Shape.{IsOneAttribute}
use Rattle.ntfs_def.specs.Units.{wide}
use Rattle.record_bytes.specs.AttributeBytes.{IsPartBytes, one_run}
use Rattle.record_bytes.proofs.NewRecordLaws.{AddsPart-inserted}
use Rattle.record_bytes.proofs.new_record.add_stream.Goals as goal

pub returns-clause-adds : goal.returns-clause-adds
returns-clause-adds c =
    let p = c.in_ok-attr.ensures in
    let same : c.in_ok-attr.attr.items ≡ c.deref-2.result.now = sym c.deref-2.ensures.value in
    let name : c.deref.result.now ≡ wide c.args.letters.now = c.deref.ensures.value ∙ c.in_ok-name.ensures.bytes in
    AddsPart-inserted c.args.block.now c.add.new.block c.deref-2.result.now (subst IsOneAttribute same p.one) c.add.ensures
    c.requires.shape c.args.kind (wide c.args.letters.now) c.u16_at-id.result (one_run c.args.sizes c.args.run)
    (subst (λ n. IsPartBytes c.deref-2.result.now c.args.kind n c.u16_at-id.result (one_run c.args.sizes c.args.run)) name
    (subst (λ b. IsPartBytes b c.args.kind c.deref.result.now c.u16_at-id.result (one_run c.args.sizes c.args.run)) same p.part))
    (subst (λ b. value_offset b 0 % 8 ≡ 0) same (p.aligned c.requires.first))
    c.u16_at-id.ensures

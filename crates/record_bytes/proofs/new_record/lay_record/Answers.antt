use Rattle.record_bytes.proofs.EmptyRecordLaws.{IsEmptyRecord-laid, shape-numbered}
use Rattle.record_bytes.proofs.new_record.lay_record.Goals as goal

pub set_fields-requires : goal.set_fields-requires
set_fields-requires c =
    shape-numbered c.blank.new.block c.blank.ensures.new c.put_u32.new.bytes c.args.number c.put_u32.ensures.rest c.put_u32.ensures.value

pub returns : goal.returns
returns c =
    IsEmptyRecord-laid c.blank.new.block c.blank.ensures.new c.blank.ensures.used c.put_u32.new.bytes c.set_fields.new.block c.args.number
    c.args.header c.put_u32.ensures.rest c.put_u32.ensures.value c.set_fields.ensures

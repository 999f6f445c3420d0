use Rattle.std.proofs.Common.{◌+◌, inl, ◌∙◌, arith}
use Rattle.file_makes.proofs.FieldsKept.{same_four, u64-kept}
use Rattle.file_makes.proofs.times.put_moment.Goals as goal

pub returns-clause-times : goal.returns-clause-times
returns-clause-times c =
    let at = c.args.at in
    let one = c.put_u64.new.bytes in
    let two = c.put_u64-2.new.bytes in
    let three = c.put_u64-3.new.bytes in
    let all = c.put_u64-4.new.bytes in
    let last = c.put_u64-4.ensures.rest in
    let third = c.put_u64-3.ensures.rest in
    same_four
    (u64-kept three all (at + 0x18) (at + 0x18 + 8) at last (inl (omega arith))
    ∙ u64-kept two three (at + 0x10) (at + 0x10 + 8) at third (inl (omega arith))
    ∙ u64-kept one two (at + 0x08) (at + 0x08 + 8) at c.put_u64-2.ensures.rest (inl (omega arith)) ∙ c.put_u64.ensures.value)
    (u64-kept three all (at + 0x18) (at + 0x18 + 8) (at + 0x08) last (inl (omega arith))
    ∙ u64-kept two three (at + 0x10) (at + 0x10 + 8) (at + 0x08) third (inl (omega arith)) ∙ c.put_u64-2.ensures.value)
    (u64-kept three all (at + 0x18) (at + 0x18 + 8) (at + 0x10) last (inl (omega arith)) ∙ c.put_u64-3.ensures.value)
    c.put_u64-4.ensures.value

use Rattle.std.proofs.Common.{◌<◌, length, sym, ◌∙◌, arith}
use Rattle.std.proofs.lemmas.Bool.Decides.{nat_tests}
use Rattle.dir_index.proofs.SoughtUnits.{own_at, own_count, own_inside}
use Rattle.dir_index.proofs.sought.unit_at.Goals as goal

pub overflow_mul-place : goal.overflow_mul-place
overflow_mul-place c =
    let some : 0 < length c.args.key.now = grind (arith, nat_tests, c.if-is_empty.ensures) in
    let count = own_count c.args.name.now c.args.key.now some c.requires.key in
    omega (arith, c.type_inv.key 64)

pub overflow_add-place : goal.overflow_add-place
overflow_add-place c =
    let some : 0 < length c.args.key.now = grind (arith, nat_tests, c.if-is_empty.ensures) in
    let count = own_count c.args.name.now c.args.key.now some c.requires.key in
    omega (arith, c.type_inv.key 64)

pub u16_at-requires : goal.u16_at-requires
u16_at-requires c =
    let some : 0 < length c.args.key.now = grind (arith, nat_tests, c.if-is_empty.ensures) in
    own_inside c.args.name.now c.args.key.now c.args.place some c.requires.key c.requires.inside

pub returns-else-is_empty : goal.returns-else-is_empty
returns-else-is_empty c =
    let some : 0 < length c.args.key.now = grind (arith, nat_tests, c.if-is_empty.ensures) in
    let count = own_count c.args.name.now c.args.key.now some c.requires.key in
    c.u16_at.ensures ∙ sym (own_at c.args.name.now c.args.key.now c.args.place some c.requires.key (omega arith))

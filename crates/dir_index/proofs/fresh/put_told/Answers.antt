use Rattle.std.proofs.Common.{◌≡◌, ◌∷◌, [], ap, ◌∙◌, arith}
use Rattle.std.specs.Prelude.{bit_and, bit_or}
use Rattle.vol_bytes.specs.Field.{u32_at, u64_at}
use Rattle.dir_index.specs.Standard.{hidden_flags}
use Rattle.dir_index.proofs.FieldSteps.{before, behind, outside-twice, same_four}
use Rattle.dir_index.proofs.FreshLaws.{named-long, told-item, told-one}
use Rattle.dir_index.proofs.fresh.put_told.Goals as goal

pub put_times-requires : goal.put_times-requires
put_times-requires c = omega (arith, named-long c.args.entry.now c.requires.one c.requires.key)

pub put_sizes-requires : goal.put_sizes-requires
put_sizes-requires c = omega (arith, named-long c.args.entry.now c.requires.one c.requires.key, c.put_times.ensures.rest.len)

pub returns-clause-one : goal.returns-clause-one
returns-clause-one c =
    let old = c.args.entry.now in
    let mid = c.put_times.new.entry in
    let new = c.put_sizes.new.entry in
    let same = outside-twice old mid new 0x18 0x38 0x38 0x4C 0x18 0x4C c.put_times.ensures.rest c.put_sizes.ensures.rest
    (omega arith) (omega arith) (omega arith) (omega arith) in
    told-one old c.requires.one c.requires.key new same

pub returns-clause-refreshes : goal.returns-clause-refreshes
returns-clause-refreshes c =
    let old = c.args.entry.now in
    let mid = c.put_times.new.entry in
    let new = c.put_sizes.new.entry in
    let told = c.args.told.now in
    let rest = c.put_sizes.ensures.rest in
    let same = outside-twice old mid new 0x18 0x38 0x38 0x4C 0x18 0x4C c.put_times.ensures.rest rest
    (omega arith) (omega arith) (omega arith) (omega arith) in
    let times : u64_at new 0x18 ∷ u64_at new 0x20 ∷ u64_at new 0x28 ∷ u64_at new 0x30 ∷ [] ≡ told.times =
    same_four (before mid new 0x38 0x4C 0x18 rest (omega arith)) (before mid new 0x38 0x4C 0x20 rest (omega arith))
    (before mid new 0x38 0x4C 0x28 rest (omega arith)) (before mid new 0x38 0x4C 0x30 rest (omega arith)) ∙ c.put_times.ensures.times in
    let flags : u32_at new 0x48 ≡ bit_or (bit_and (u32_at old 0x48) hidden_flags) told.flags =
    c.put_sizes.ensures.flags
    ∙ ap (λ n. bit_or (bit_and n hidden_flags) told.flags) (behind old mid 0x18 0x38 0x48 c.put_times.ensures.rest (omega arith)) in
    told-item old c.requires.one c.requires.key new same told times c.put_sizes.ensures.allocated c.put_sizes.ensures.real flags

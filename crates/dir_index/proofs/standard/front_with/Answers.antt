use Rattle.std.specs.Prelude.{bit_and, bit_or}
use Rattle.std.proofs.Common.{rules, ◌≡◌, ◌-◌, length, get_or, ap, ◌∙◌, arith}
use Rattle.vol_bytes.specs.Field.{u32_at, u64_at}
use Rattle.dir_index.proofs.FieldSteps.{before, four, same_four}
use Rattle.dir_index.proofs.standard.front_with.Goals as goal

pub returns : goal.returns
returns c =
    let times = c.args.times.now in
    let one = c.put_u64.new.bytes in
    let two = c.put_u64-2.new.bytes in
    let three = c.put_u64-3.new.bytes in
    let all = c.put_u64-4.new.bytes in
    let front = c.put_u32.new.bytes in
    let created : u64_at one 0 ≡ get_or times 0 0 = search rules in
    let modified : u64_at two 8 ≡ get_or times 1 0 = search rules in
    let changed : u64_at three 16 ≡ get_or times 2 0 = search rules in
    let accessed : u64_at all 24 ≡ get_or times 3 0 = search rules in
    let many : length times ≡ 4 = search rules in
    record {
      len = search rules;
      times_are =
          same_four
          (before all front 32 36 0 c.put_u32.ensures.rest (omega arith) ∙ before three all 24 32 0 c.put_u64-4.ensures.rest (omega arith)
          ∙ before two three 16 24 0 c.put_u64-3.ensures.rest (omega arith) ∙ before one two 8 16 0 c.put_u64-2.ensures.rest (omega arith)
          ∙ created)
          (before all front 32 36 8 c.put_u32.ensures.rest (omega arith) ∙ before three all 24 32 8 c.put_u64-4.ensures.rest (omega arith)
          ∙ before two three 16 24 8 c.put_u64-3.ensures.rest (omega arith) ∙ modified)
          (before all front 32 36 16 c.put_u32.ensures.rest (omega arith) ∙ before three all 24 32 16 c.put_u64-4.ensures.rest (omega arith)
          ∙ changed)
          (before all front 32 36 24 c.put_u32.ensures.rest (omega arith) ∙ accessed)
          ∙ four times many;
      flags_are =
          c.put_u32.ensures.value
          ∙ ap (λ v. bit_or (bit_and v (4294967295 - c.from.result)) c.from-2.result) c.u32_at.ensures
          ∙ ap (λ n. bit_or (bit_and (u32_at c.args.value.now 0x20) (4294967295 - n)) c.from-2.result) c.from.ensures
          ∙ ap (λ n. bit_or (bit_and (u32_at c.args.value.now 0x20) 4294954712) n) c.from-2.ensures;
    }

use Rattle.std.proofs.Common.{◌+◌, ◌≤◌, length, rules, arith}
use Rattle.std.specs.Int.{w64}
use Rattle.std.proofs.lemmas.Int.{to_z-of_z}
use Rattle.byteorder.specs.Endian.{little_bytes, low_bytes}
use Rattle.byteorder.specs.Numbers.{length-bytes_low_first}
use Rattle.data_runs.specs.Written.{SpellsShortest}
use Rattle.data_runs.proofs.PutLaws.{Puts-part}
use Rattle.data_runs.proofs.encode.put_number.Goals as goal

pub slice_bounds-write_int-end : goal.slice_bounds-write_int-end
slice_bounds-write_int-end c =
    let text = little_bytes c.number_len-len.result (low_bytes w64 c.number_len-len.result c.args.number) in
    let long = length-bytes_low_first 0 c.number_len-len.result (low_bytes w64 c.number_len-len.result c.args.number) in
    let back = to_z-of_z w64 c.args.number c.ranges.number in
    let fits : c.args.at + c.number_len-len.result ≤ length c.args.out.now =
    omega (arith, long, c.requires text (rw back at c.number_len-len.ensures.shortest)) in
    search rules

pub returns : goal.returns
returns c =
    let text = little_bytes c.number_len-len.result (low_bytes w64 c.number_len-len.result c.args.number) in
    let long = length-bytes_low_first 0 c.number_len-len.result (low_bytes w64 c.number_len-len.result c.args.number) in
    let back = to_z-of_z w64 c.args.number c.ranges.number in
    let shortest = rw back at c.number_len-len.ensures.shortest in
    let fits : c.args.at + c.number_len-len.result ≤ length c.args.out.now = omega (arith, long, c.requires text shortest) in
    Puts-part (λ text. SpellsShortest text c.args.number) c.args.out.now _ text c.args.at c.number_len-len.result fits long
    shortest (rw back at c.write_int.ensures)

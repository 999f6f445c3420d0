use Rattle.std.proofs.Common.{arith, bit_xor, ◌<◌, ◌^◌}
use Rattle.std.proofs.lemmas.Nat.{widths}
use Rattle.list_laws.proofs.BitLaws.{DiffersFirst-of}
use Rattle.record_notes.proofs.bits.lowest_difference.Goals as goal

pub returns : goal.returns
returns c = let small : bit_xor c.args.a c.args.b < 2 ^ 8 = grind (arith, widths) in DiffersFirst-of c.args.a c.args.b small c.requires

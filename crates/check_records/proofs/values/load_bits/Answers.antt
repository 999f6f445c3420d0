use Rattle.std.proofs.Common.{◌∙◌}
use Rattle.list_laws.proofs.BitLaws.{flags_in-piece}
use Rattle.check_records.proofs.values.load_bits.Goals as goal

pub returns-in-Ok-clause-flags : goal.returns-in-Ok-clause-flags
returns-in-Ok-clause-flags c = λ value is. c.in-Ok.ensures.flags ∙ flags_in-piece value c.args.bytes.now c.args.count is c.requires

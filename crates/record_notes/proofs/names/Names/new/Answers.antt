use Rattle.std.proofs.Common.{ap, sym, map, ◌∙◌}
use Rattle.record_notes.specs.Names.{told_name}
use Rattle.record_notes.proofs.NameLaws.{held-none}
use Rattle.record_notes.proofs.names.Names.new.Goals as goal

pub returns : goal.returns
returns c records = ap (map told_name) c.new.ensures.items ∙ sym (held-none records)

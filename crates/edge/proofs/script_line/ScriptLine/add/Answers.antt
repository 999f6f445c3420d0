use Rattle.std.proofs.Common.{◌∙◌, ap, length, ◌-◌}
use Rattle.std.specs.Option.{unwrap_or}
use Rattle.std.proofs.lemmas.Option.{unwrap_or-slice_get}
use Rattle.edge.proofs.script_line.ScriptLine.add.Goals as goal

pub returns-clause-last : goal.returns-clause-last
returns-clause-last c =
    let bytes = c.args.bytes.now in
    let last = c.args.self.now.last in
    c.unwrap_or-self.ensures ∙ ap (λ found. unwrap_or found last) (c.copied.ensures ∙ c.last.ensures.value)
    ∙ unwrap_or-slice_get bytes (length bytes - 1) last

use Rattle.std.proofs.Common.{sym, ◌∙◌}
use Rattle.cmd_lang.proofs.PathLaws.{IfOk-follows, behind, not_empty}
use Rattle.cmd_lang.proofs.paths.read_behind.Goals as goal

pub returns : goal.returns
returns c = IfOk-follows _ _ c.read_names.result (λ found. behind c.args.rest.now found (not_empty c.args.rest.now
    (sym c.is_empty.ensures ∙ c.if-is_empty.false))) c.read_names.ensures

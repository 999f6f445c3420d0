use Rattle.std.proofs.Common.{[], ◌∷◌, subst}
use Rattle.cmd_lang.specs.Lines.{Finds}
use Rattle.cmd_lang.specs.Words.{IsPath}
use Rattle.cmd_lang.proofs.PathLaws.{first_path}
use Rattle.cmd_lang.proofs.paths.read_named_stream.Goals as goal

pub returns-in_default : goal.returns-in_default
returns-in_default c = λ path stream x.
    let none = subst (Finds (IsPath c.args.first.now)) c.in_default.is c.in_ok-path.ensures in
    none path (first_path c.args.first.now (c.args.second.now ∷ []) path stream x)

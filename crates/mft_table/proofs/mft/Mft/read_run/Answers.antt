use Rattle.std.proofs.Common.{rules, ◌≡◌, None, length, ◌∙◌}
use Rattle.mft_table.proofs.StreamRuns.{zeros-hole}
use Rattle.mft_table.proofs.mft.Mft.read_run.Goals as goal

pub returns-in-None-clause-read : goal.returns-in-None-clause-read
returns-in-None-clause-read g c told =
    let hole : c.args.lcn ≡ None = search rules in
    rw hole (c.fill.ensures.after (λ y e. e) ∙ zeros-hole _ _ c.args.skip (length c.args.into.now))

use Rattle.std.proofs.Common.{Some, ap, ◌∙◌}
use Rattle.std.specs.Option.{option_or}
use Rattle.record_notes.specs.Names.{told_name}
use Rattle.volume_clauses.proofs.TallyLaws.{tally-dos, tally-other}
use Rattle.volume_clauses.proofs.tallies.with_name.Goals as goal

pub returns-then-name-eq-DOS : goal.returns-then-name-eq-DOS
returns-then-name-eq-DOS c places is = tally-dos places (told_name c.args.name.now).place c.args.tally c.if-name-eq-DOS.true is

pub returns : goal.returns
returns c places is =
    tally-other places (told_name c.args.name.now).place c.args.tally c.or.result c.if-name-eq-DOS.false
    (c.or.ensures ∙ ap (λ number. option_or c.args.tally.parent (Some number)) c.number_in.ensures) is

use Rattle.mft_table.specs.Mft.{view}
use Rattle.check_dirs.proofs.directory.meet_note.Goals as goal

pub returns-in-Ok-clause-met : goal.returns-in-Ok-clause-met
returns-in-Ok-clause-met g c = λ told noted. c.meet_in.ensures.met (view g.D.Disk c.args.mft.now) noted (c.in-Ok.ensures.read told)

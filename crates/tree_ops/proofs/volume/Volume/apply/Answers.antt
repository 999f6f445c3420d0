use Rattle.tree_ops.specs.Edits.{command_of}
use Rattle.tree_ops.proofs.ReplyLaws.{replies-of}
use Rattle.tree_ops.proofs.volume.Volume.apply.Goals as goal

pub returns-in-Some-clause-applied : goal.returns-in-Some-clause-applied
returns-in-Some-clause-applied g c answered first before ready =
    (replies-of g.D.Disk c.args.self.now c.edit.new.self c.args.session c.args.command.now (command_of c.in-Some.edit) c.edit.result
    c.in-Some.ensures.is c.edit.ensures).applied answered first before ready

pub returns-in-Some-clause-failed : goal.returns-in-Some-clause-failed
returns-in-Some-clause-failed g c answered first before ready =
    (replies-of g.D.Disk c.args.self.now c.edit.new.self c.args.session c.args.command.now (command_of c.in-Some.edit) c.edit.result
    c.in-Some.ensures.is c.edit.ensures).failed answered first before ready

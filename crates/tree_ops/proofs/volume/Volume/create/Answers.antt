use Rattle.std.proofs.Common.{refl, subst, sym}
use Rattle.made_done.specs.MadeOwed.{made_command}
use Rattle.tree_ops.specs.Edits.{create_edit}
use Rattle.tree_ops.specs.Replies.{Replies}
use Rattle.tree_ops.specs.Volumes.{opens_of, view_under}
use Rattle.tree_ops.specs.declared.volume.Volume.{Volume}
use Rattle.tree_ops.proofs.CreateBy.{create-by}
use Rattle.tree_ops.proofs.ReplyLaws.{replies-edit}
use Rattle.tree_ops.proofs.volume.Volume.create.Goals as goal

pub returns : goal.returns
returns g c =
    let ended = c.create-ended in
    let new : Volume g.row.D.Denot g.D.Disk =
    record c.args.self.now { mft = ended.new.mft; last = ended.new.last; mark = ended.new.mark } in
    subst (Replies g.D.Disk c.args.self.now new c.args.session (made_command c.args.directory c.args.path.now)) (sym c.reply_to.ensures)
    (replies-edit g.D.Disk g.met.D.Disk.told_length c.args.self.now new c.args.session (made_command c.args.directory c.args.path.now)
    (create_edit c.args.directory c.args.path.now c.args.self.now.moment) c.requires.shown
    (create-by c.args.directory (opens_of g.D.Disk c.args.self.now) c.args.self.now.moment c.args.session c.args.path.now
    (view_under g.D.Disk c.args.self.now))
    c.requires.serves refl refl ended.result ended.ensures.ends ended.ensures.last ended.ensures.forgets ended.ensures.goes_on
    ended.ensures.settled ended.ensures.counts)

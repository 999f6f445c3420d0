use Rattle.std.proofs.Common.{refl, subst, sym}
use Rattle.tree_model.specs.declared.command.Command.TheVariants as command_is
use Rattle.tree_ops.specs.Edits.{setsec_edit}
use Rattle.tree_ops.specs.Replies.{Replies}
use Rattle.tree_ops.specs.Volumes.{opens_of, view_under}
use Rattle.tree_ops.specs.declared.volume.Volume.{Volume}
use Rattle.tree_ops.proofs.FileEditBy.{file-edit}
use Rattle.tree_ops.proofs.SetsecBy.{described-by, setsec-by}
use Rattle.tree_ops.proofs.ReplyLaws.{replies-edit}
use Rattle.tree_ops.proofs.volume.Volume.secure.Goals as goal

pub returns : goal.returns
returns g c =
    let ended = c.set_security-ended in
    let new : Volume g.row.D.Denot g.D.Disk =
    record c.args.self.now { mft = ended.new.mft; last = ended.new.last; mark = ended.new.mark } in
    let old = c.args.self.now in
    let its = described-by (view_under g.D.Disk old) (λ told. (c.requires.serves.can.in_use told).sound) c.args.id in
    subst (Replies g.D.Disk old new c.args.session (command_is.Setsec c.args.path.now c.args.id)) (sym c.reply_to.ensures)
    (replies-edit g.D.Disk g.met.D.Disk.told_length old new c.args.session (command_is.Setsec c.args.path.now c.args.id)
    (setsec_edit c.args.path.now c.args.id its.0 old.moment) c.requires.shown
    (file-edit (setsec-by (opens_of g.D.Disk old) old.moment c.args.session c.args.path.now c.args.id its.0 (view_under g.D.Disk old)
    its.1))
    c.requires.serves refl refl ended.result (ended.ensures.ends its.0 its.1.whether) ended.ensures.last ended.ensures.forgets
    ended.ensures.goes_on ended.ensures.settled ended.ensures.counts)

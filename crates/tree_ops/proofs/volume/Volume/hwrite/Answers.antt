use Rattle.std.proofs.Common.{refl, subst, sym}
use Rattle.tree_model.specs.declared.command.Command.TheVariants as command_is
use Rattle.tree_ops.specs.Edits.{hwrite_edit}
use Rattle.tree_ops.specs.Replies.{Replies}
use Rattle.tree_ops.specs.Volumes.{opens_of, view_under}
use Rattle.tree_ops.specs.declared.streams.StreamEdit.TheVariants as s
use Rattle.tree_ops.specs.declared.volume.Volume.{Volume}
use Rattle.tree_ops.proofs.FileEditBy.{file-edit}
use Rattle.tree_ops.proofs.HwriteBy.{hwrite-by}
use Rattle.tree_ops.proofs.ReplyLaws.{replies-edit}
use Rattle.tree_ops.proofs.volume.Volume.hwrite.Goals as goal

pub returns : goal.returns
returns g c =
    let ended = c.hwrite-ended in
    let new : Volume g.row.D.Denot g.D.Disk =
    record c.args.self.now { mft = ended.new.mft; last = ended.new.last; mark = ended.new.mark } in
    subst (Replies g.D.Disk c.args.self.now new c.args.session (command_is.Hwrite c.args.handle c.args.at c.args.bytes.now)) (sym
    c.reply_to.ensures)
    (replies-edit g.D.Disk g.met.D.Disk.told_length c.args.self.now new c.args.session (command_is.Hwrite c.args.handle c.args.at
    c.args.bytes.now)
    (hwrite_edit (s.Write c.args.at c.args.bytes) (opens_of g.D.Disk c.args.self.now) c.args.session c.args.handle c.args.self.now.moment)
    tt
    (file-edit (hwrite-by (opens_of g.D.Disk c.args.self.now) c.args.self.now.moment c.args.session c.args.handle c.args.at c.args.bytes
    (view_under g.D.Disk c.args.self.now)))
    c.requires.serves refl refl ended.result ended.ensures.ends ended.ensures.last ended.ensures.forgets ended.ensures.goes_on
    ended.ensures.settled ended.ensures.counts)

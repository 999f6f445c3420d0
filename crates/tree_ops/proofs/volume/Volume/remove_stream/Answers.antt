use Rattle.std.proofs.Common.{refl, subst, sym}
use Rattle.tree_model.specs.declared.command.Command.TheVariants as command_is
use Rattle.tree_ops.specs.Edits.{stream_edit}
use Rattle.tree_ops.specs.Replies.{Replies}
use Rattle.tree_ops.specs.Volumes.{opens_of, view_under}
use Rattle.tree_ops.specs.declared.streams.StreamEdit.TheVariants as s
use Rattle.tree_ops.specs.declared.volume.Volume.{Volume}
use Rattle.tree_ops.proofs.FileEditBy.{file-edit}
use Rattle.tree_ops.proofs.ReplyLaws.{replies-edit}
use Rattle.tree_ops.proofs.RmstreamBy.{rmstream-by}
use Rattle.tree_ops.proofs.volume.Volume.remove_stream.Goals as goal

pub returns : goal.returns
returns g c =
    let ended = c.edit_stream-ended in
    let old = c.args.self.now in
    let new : Volume g.row.D.Denot g.D.Disk = record old { mft = ended.new.mft; last = ended.new.last; mark = ended.new.mark } in
    subst (Replies g.D.Disk old new c.args.session (command_is.Rmstream c.args.path.now c.args.name.now)) (sym c.reply_to.ensures)
    (replies-edit g.D.Disk g.met.D.Disk.told_length old new c.args.session (command_is.Rmstream c.args.path.now c.args.name.now)
    (stream_edit s.Remove (opens_of g.D.Disk old) c.args.path.now c.args.name.now old.moment) tt
    (file-edit (rmstream-by (opens_of g.D.Disk old) old.moment c.args.session c.args.path.now c.args.name.now (view_under g.D.Disk old)))
    c.requires.serves refl refl ended.result ended.ensures.ends ended.ensures.last ended.ensures.forgets ended.ensures.goes_on
    ended.ensures.settled ended.ensures.counts)

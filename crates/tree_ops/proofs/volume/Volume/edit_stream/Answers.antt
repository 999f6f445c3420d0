use Rattle.std.proofs.Common.{refl, subst, sym}
use Rattle.tree_ops.specs.Edits.{stream_command, stream_edit}
use Rattle.tree_ops.specs.Replies.{Replies}
use Rattle.tree_ops.specs.Volumes.{opens_of, view_under}
use Rattle.tree_ops.specs.declared.volume.Volume.{Volume}
use Rattle.tree_ops.proofs.FileEditBy.{file-edit}
use Rattle.tree_ops.proofs.ReplyLaws.{replies-edit}
use Rattle.tree_ops.proofs.StreamEdits.{sets-none, stream-by}
use Rattle.tree_ops.proofs.volume.Volume.edit_stream.Goals as goal

pub returns : goal.returns
returns g c = λ stream named.
    let ended = c.edit_stream-ended in
    let old = c.args.self.now in
    let path = c.args.path.now in
    let opens = opens_of g.D.Disk old in
    let command = stream_command c.args.what path stream in
    let new : Volume g.row.D.Denot g.D.Disk = record old { mft = ended.new.mft; last = ended.new.last; mark = ended.new.mark } in
    subst (Replies g.D.Disk old new c.args.session command) (sym c.reply_to.ensures)
    (replies-edit g.D.Disk g.met.D.Disk.told_length old new c.args.session command
    (stream_edit c.args.what opens path c.args.name.now old.moment) (sets-none c.args.what path stream)
    (file-edit (stream-by c.args.what opens old.moment c.args.session path stream c.args.name.now named (view_under g.D.Disk old)))
    c.requires.serves refl refl ended.result ended.ensures.ends ended.ensures.last ended.ensures.forgets ended.ensures.goes_on
    ended.ensures.settled ended.ensures.counts)

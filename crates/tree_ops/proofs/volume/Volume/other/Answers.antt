use Rattle.std.proofs.Common.{refl, Ok}
use Rattle.tree_model.specs.declared.reply.Reply.TheVariants as reply
use Rattle.tree_ops.specs.declared.volume.Volume.{Volume}
use Rattle.tree_ops.proofs.ReplyLaws.{replies-failed, replies-still}
use Rattle.tree_ops.proofs.StillLaws.{reads-still, still-view}
use Rattle.tree_ops.proofs.VolumeLaws.{failed-still, held-behind}
use Rattle.tree_ops.proofs.volume.Volume.other.Goals as goal

pub returns-in-Ok : goal.returns-in-Ok
returns-in-Ok g c =
    let new : Volume g.row.D.Denot g.D.Disk = record c.args.self.now {
      mft = c.answer.new.mft;
      last = c.answer.new.last;
      opens = c.answer.new.opens;
      moment = c.answer.new.moment;
    } in
    let still = reads-still g.D.Disk c.args.self.now.mft c.answer.new.mft c.in-Ok.ensures.reads.0 c.in-Ok.ensures.reads.1 in
    replies-still g.D.Disk c.args.self.now new c.args.session c.args.command.now (reply.Ok c.in-Ok.shown) (λ e. cc) c.in-Ok.ensures.plain
    c.requires.serves
    still refl c.in-Ok.ensures.last
    (held-behind g.D.Disk c.args.self.now new c.args.session c.args.command.now (Ok c.in-Ok.shown)
    (still-view g.D.Disk c.args.self.now.mft c.answer.new.mft still) c.requires.serves.can.in_use c.requires.serves.held
    c.in-Ok.ensures.does (λ e. cc))
    (λ told facts tells. c.in-Ok.ensures.does facts told tells) c.in-Ok.ensures.counts

pub returns-in-Err-No : goal.returns-in-Err-No
returns-in-Err-No g c =
    let new : Volume g.row.D.Denot g.D.Disk = record c.args.self.now {
      mft = c.answer.new.mft;
      last = c.answer.new.last;
      opens = c.answer.new.opens;
      moment = c.answer.new.moment;
    } in
    let still = reads-still g.D.Disk c.args.self.now.mft c.answer.new.mft c.answer.ensures.reads.0 c.answer.ensures.reads.1 in
    replies-still g.D.Disk c.args.self.now new c.args.session c.args.command.now (reply.No c.in-Err-No.refused) (λ e. cc) refl
    c.requires.serves
    still refl c.answer.ensures.last
    (held-behind g.D.Disk c.args.self.now new c.args.session c.args.command.now c.answer.result
    (still-view g.D.Disk c.args.self.now.mft c.answer.new.mft still) c.requires.serves.can.in_use c.requires.serves.held
    c.answer.ensures.does (λ e. cc))
    (λ told facts tells. rw c.in-Err-No.field-0-is at (c.in-Err-No.ensures.does facts told tells))
    (rw c.in-Err-No.field-0-is at c.in-Err-No.ensures.counts)

pub returns-in-Err-Device : goal.returns-in-Err-Device
returns-in-Err-Device g c =
    let new : Volume g.row.D.Denot g.D.Disk = record c.args.self.now {
      mft = c.answer.new.mft;
      last = c.answer.new.last;
      opens = c.answer.new.opens;
      moment = c.answer.new.moment;
    } in
    let still = reads-still g.D.Disk c.args.self.now.mft c.answer.new.mft c.answer.ensures.reads.0 c.answer.ensures.reads.1 in
    replies-failed g.D.Disk c.args.self.now new c.args.session c.args.command.now still.keeps.goes_on still.keeps.settled
    (rw c.in-Err-Device.field-0-is at c.in-Err-Device.ensures.counts)
    (λ first before r. failed-still g.D.Disk first c.args.self.now new before c.args.session c.args.command.now still.keeps.now r)

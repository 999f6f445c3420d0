-- A volume on which an edit was done serves still.
use Rattle.std.proofs.Common.{◌≡◌, ◌*◌, ℕ, List, length, Option, Some, None, sym, ap, subst, ◌∙◌}
use Rattle.std.specs.Prelude.{IfSome, IsTrue, is_some}
use Rattle.vol_disk.specs.Contents.{IsTold, WhereTold}
use Rattle.vol_disk.specs.declared.Disk.{Ghosts}
use Rattle.vol_stage.specs.Staged.{image}
use Rattle.mft_table.specs.InUse.{IsInUse}
use Rattle.mft_table.specs.MirrorClusters.{IsMirrorInside}
use Rattle.mft_table.specs.Mft.{stage_of, view}
use Rattle.tree_model.specs.Facts.{IsVolumeOf, TellsFacts}
use Rattle.tree_model.specs.Refusals.{Facts}
use Rattle.tree_model.specs.declared.command.Command.{Command}
use Rattle.tree_model.specs.declared.reply.Answer.TheVariants as a
use Rattle.tree_model.specs.declared.reply.Reply.TheVariants as reply
use Rattle.made_done.specs.Written.{SetsShown}
use Rattle.tree_model.proofs.HasFacts.{has_facts}
use Rattle.mark_write.specs.Flags.{LiesAt}
use Rattle.share_table.specs.Held.{HoldsOpens}
use Rattle.share_table.proofs.OpensLaws.{held-step}
use Rattle.tree_read.specs.Standings.{IsStanding}
use Rattle.tree_ops.specs.Edits.{CanEdit, EditOf, EditsFile, HasMark, IsClear, IsMarkOf}
use Rattle.tree_ops.specs.Runs.{machine_under}
use Rattle.tree_ops.specs.Serves.{Serves}
use Rattle.tree_ops.specs.Volumes.{disk_under, mark_of, moment_of, opens_of, view_under}
use Rattle.tree_ops.specs.declared.volume.Volume.{Volume}
use Rattle.tree_ops.proofs.ImageLaws.{some-bytes}
use Rattle.tree_ops.proofs.TablesKept.{mirror-kept}
use Rattle.tree_ops.proofs.EditBy.{IsEditBy}
use Rattle.tree_ops.proofs.EditVolume as edited

module _ {D : Type 0} (g : Ghosts D) (sized : (disk : D) → IfSome (g.now disk) (λ all. length all ≡ 512 * g.size disk))
    (old new : Volume D g) (session : ℕ) (command : Command) (edit : EditOf) (shown : SetsShown command)
    (by : IsEditBy (view_under g old) (opens_of g old) (moment_of g old) session command edit) (can : CanEdit g old.mft (mark_of g old))
    (s : EditsFile g old.mft new.mft (mark_of g old) edit) where
  -- where the disk tells its contents now it did so before
  record WasTold : Type 0 where
    before : List ℕ
    was : g.now (disk_under g old) ≡ Some before
    facts : Facts
    tells : TellsFacts (view_under g old) facts

  was-told : IsTrue (view_under g new).told → WasTold
  was-told t =
      let told : IsTrue (view_under g old).told = sym (s.goes_on.told_image ∙ s.keeps.goes_on.told_image) ∙ t in
      let b = some-bytes (g.now (disk_under g old)) (ap (λ (o : Option (List ℕ)). is_some o) (sym can.clear.tells) ∙ told) in
      let f = has_facts (view_under g old) (can.in_use told).sound in
      record { before = b.0; was = b.1; facts = f.0; tells = f.1 }

  now-in_use : IsInUse g new.mft
  now-in_use t =
      let w = was-told t in
      edited.now-in_use g sized old new session command edit shown by can s w.facts w.before w.was w.tells t

  now-bytes : WhereTold (image g (stage_of g new.mft)) (λ all. IsVolumeOf all (view g new.mft))
  now-bytes all is =
      let w = was-told (ap (λ (o : Option (List ℕ)). is_some o) is) in
      edited.now-bytes g sized old new session command edit shown by can s w.facts w.before w.was w.tells all is

  now-mark : IsTrue (view_under g new).told → IsMarkOf (view_under g new) s.place.flag
  now-mark t =
      let w = was-told t in
      subst (λ v. IsMarkOf v s.place.flag) (sym (edited.new-view g sized old new session command edit shown by can s w.facts w.before w.was
      w.tells))
      (edited.now-mark g sized old new session command edit shown by can s w.facts w.before w.was w.tells)

  now-clear : IsClear g new.mft
  now-clear = record {
    tells = s.finishes.image;
    whole = s.finishes.sound;
    plain = s.finishes.places;
    tables = s.committed ∙ sym s.mounted;
  }

  now-has : HasMark (g.size (disk_under g new)) (g.now (disk_under g new)) s.place.flag
  now-has = record {
    place = subst (λ n. LiesAt n s.place.flag) (sym (s.goes_on.size ∙ s.keeps.goes_on.size)) s.placed.lies;
    set = λ t. s.finishes.marked (staged t);
    copied = λ t. s.finishes.copied (staged t);
  }
    where
      staged : IsTold (g.now (disk_under g new)) → IsTold (image g (stage_of g s.staged))
      staged t = s.keeps.goes_on.one ∙ sym s.goes_on.told ∙ t

  can-still : CanEdit g new.mft (Some s.place.flag)
  can-still = record {
    in_use = now-in_use;
    bytes = now-bytes;
    mirror = subst IsMirrorInside (sym s.mounted) (mirror-kept g old.mft s.staged s.keeps can.mirror);
    clear = now-clear;
    marked = now-has;
    flag = now-mark;
  }

  held-still : (IsTrue (view_under g old).told → HoldsOpens (machine_under g old)) → opens_of g new ≡ opens_of g old
      → moment_of g new ≡ moment_of g old → IsTrue (view_under g new).told → HoldsOpens (machine_under g new)
  held-still held opens moment t =
      let w = was-told t in
      let told : IsTrue (view_under g old).told = sym (s.goes_on.told_image ∙ s.keeps.goes_on.told_image) ∙ t in
      subst HoldsOpens (sym
      (edited.new-machine g sized old new session command edit shown by can s w.facts w.before w.was w.tells opens moment))
      (held-step w.facts (machine_under g old) session command (reply.Ok a.Done) _ (held told)
      (edited.stepped g sized old new session command edit shown by can s w.facts w.before w.was w.tells))

  pub serves-done : Serves g old → opens_of g new ≡ opens_of g old → moment_of g new ≡ moment_of g old
      → mark_of g new ≡ Some s.place.flag → new.last ≡ None → Serves g new
  serves-done serves opens moment mark last = record {
    can = subst (CanEdit g new.mft) (sym mark) can-still;
    last = λ t. subst (λ o. IfSome o (IsStanding (view_under g new))) (sym last) tt;
    held = held-still serves.held opens moment;
  }

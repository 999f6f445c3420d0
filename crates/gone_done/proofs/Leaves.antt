-- WHAT `rm` LEAVES, staged and written.
use Rattle.std.proofs.Common.{◌≡◌, ◌≤◌, ◌+◌, ◌&&◌, ◌||◌, ℕ, Bool, true, false, List, Ok, Some, length, refl, sym, ap}
use Rattle.std.proofs.Common.{subst, ◌∙◌}
use Rattle.std.proofs.lemmas.Bool.{or_parts}
use Rattle.vol_disk.specs.Contents.{sector_in}
use Rattle.volume_def.specs.Sound.{IsSound, told_view}
use Rattle.volume_def.specs.View.{VolumeView}
use Rattle.ntfs_def.specs.FileName.{FileName}
use Rattle.tree_model.specs.Cases.{has_point}
use Rattle.tree_model.specs.Drops.{is_last_name}
use Rattle.tree_model.specs.Facts.{IsVolumeOf}
use Rattle.tree_model.specs.Reading.{link_for}
use Rattle.tree_model.specs.Refusals.{Facts, outcome}
use Rattle.tree_model.specs.Staging.{has_object_id}
use Rattle.tree_model.specs.Subjects.{Machine}
use Rattle.tree_model.specs.Tree.{Tree}
use Rattle.tree_model.specs.declared.command.Command.TheVariants as c
use Rattle.tree_model.specs.declared.tree.Node.{Node}
use Rattle.tree_model.proofs.StepLaws.{one_volume}
use Rattle.session_def.specs.Done.{EditDone, HasEmptyLog}
use Rattle.session_def.specs.State.{State}
use Rattle.command_edits.proofs.AllowedCommands.{allowed}
use Rattle.mark_write.specs.declared.flag.Flag.{Flag}
use Rattle.mark_write.specs.declared.log.Span.{Span}
use Rattle.volume_mark.specs.SameVolume.{IsSameVolume}
use Rattle.volume_mark.proofs.MarkLaws.{mark-law}
use Rattle.in_place_done.specs.Behind.{MarksBehind}
use Rattle.gone_owed.specs.GoneOwed.{IsUnlinked, at_gone}
use Rattle.in_place_done.specs.Finished.{IsFinished, IsPlaceOf}
use Rattle.in_place_done.proofs.StagedVolume.{staged_view}
use Rattle.in_place_done.proofs.WrittenBytes.{IsWritten, is-written}
use Rattle.gone_edits.specs.Goes.{CanGo}
use Rattle.gone_owed.specs.Drops.{DropsUnder}
use Rattle.gone_done.specs.GoneDone.{FindsGoing, LeavesGone, StagesGone, machine_gone, most_gone}
use Rattle.gone_done.proofs.FileGone as went
use Rattle.gone_done.proofs.GoneWritten.{CanBeLeft, can-be-left}

-- NO KEY leads to the file: it would be refused else.
stripped : (a b : Bool) → a ≡ true → (a && b) ≡ false → b ≡ false
stripped true b e none = none
stripped false b e none = cc

not-linked : (facts : Facts) (before : State) (session : ℕ) (path : List (List ℕ)) (n : ℕ) (name : FileName)
    → outcome facts before.machine session (c.Rm path) ≡ Ok (at_gone before.machine.tree n name)
    → is_last_name before.machine.tree (link_for n name) ≡ true → IsUnlinked (at_gone before.machine.tree n name)
not-linked facts before session path n name found last =
    let at = at_gone before.machine.tree n name in
    let keys = (allowed facts before.machine session (c.Rm path) at found).keys in
    let both = or_parts (has_point at) (has_object_id at)
    (stripped (is_last_name before.machine.tree (link_for n name)) (has_point at || has_object_id at) last keys) in
    record { no_point = both.0; no_object_id = both.1 }

module _ (facts : Facts) (before : State) (session : ℕ) (path : List (List ℕ)) (n dir : ℕ) (name : FileName)
    (found : outcome facts before.machine session (c.Rm path) ≡ Ok (at_gone before.machine.tree n name)) (flag : Flag)
    (staged written : List ℕ) (long : length staged ≡ length before.image)
    (s : CanBeLeft before path n dir name (staged_view before staged)) (w : IsWritten before flag staged written) where
  abbrev new : VolumeView
  new = staged_view before staged

  -- the bytes that were written are the same volume
  same : IsSameVolume new flag written
  same = mark-law new flag staged w.volume s.sound w.flag_there written w.agrees

  -- .. of which the disk tells all
  other-is : same.other ≡ staged_view before written
  other-is =
      same.volume.is
      ∙ ap (told_view (sector_in (Some written))) (sym (ap (λ (v : VolumeView). v.layout) same.volume.is) ∙ same.layout)

  module _ (next : State) (image : next.image ≡ written) (volume : IsVolumeOf written next.view) where
    next-is : next.view ≡ same.other
    next-is = one_volume written next.view same.other volume same.volume

    settled : IsSound next.view
    settled = subst IsSound (sym next-is) same.sound

    first : MarksBehind new next.view
    first = subst (MarksBehind new) (sym (next-is ∙ other-is)) w.behind

    as-long : length next.image ≡ length before.image
    as-long = ap length image ∙ w.agrees.long ∙ long

  done : (next : State) → next.image ≡ written → IsVolumeOf written next.view
      → next.machine ≡ machine_gone before session path n name → next.written ≤ before.written + most_gone before dir
      → EditDone facts before session (c.Rm path) next × HasEmptyLog next.view
  done next image volume moved wrote =
      let leaves = s.leaves next (first next image volume) (settled next image volume) (as-long next image volume)
      (ap (λ (m : Machine). m.tree) moved) wrote in (
        record {
          at = at_gone before.machine.tree n name;
          found = found;
          made = 0;
          fresh = λ makes. cc;
          moved = moved;
          leaves = leaves;
        },
        leaves.log,
      )

  -- ALL OF IT
  leaves-written : LeavesGone facts before session path n dir name flag staged written
  leaves-written = record {
    new = new;
    is = refl;
    volume = w.volume;
    sound = s.sound;
    reading = s.reads;
    flag_there = w.flag_there;
    agrees = w.agrees;
    stored = w.stored;
    done = done;
  }

-- where it was written behind the mark
leaves-in : (facts : Facts) (before : State) (session : ℕ) (path : List (List ℕ)) (n : ℕ) (file parent : Node) (name : FileName)
    (flag : Flag) (marked : Bool) (spans : List Span) (staged written : List ℕ)
    → FindsGoing facts before session path n name.parent.number file parent name
    → StagesGone before n name.parent.number parent name staged
    → IsPlaceOf before.view before.image flag marked spans → IsFinished flag marked spans staged written
    → LeavesGone facts before session path n name.parent.number name flag staged written
leaves-in facts before session path n file parent name flag marked spans staged written finds s place finished =
    let is_gone = went.is_gone before finds.stands n file parent name finds.can finds.high (staged_view before staged) s.drops in
    let last = subst (λ (t : Tree). is_last_name t (link_for n name) ≡ true) finds.stands.reading is_gone.last in
    let unlinked = not-linked facts before session path n name finds.found last in
    let is = can-be-left before finds.stands n file parent name finds.can finds.high finds.exit unlinked (staged_view before staged) s.drops
    path in
    leaves-written facts before session path n name.parent.number name finds.found flag staged written s.long is
    (is-written before staged finds.stands is.sound is.alone s.long flag marked spans written place finished)

pub leaves : (facts : Facts) (before : State) (session : ℕ) (path : List (List ℕ)) (n dir : ℕ) (file parent : Node) (name : FileName)
    (flag : Flag) (marked : Bool) (spans : List Span) (staged written : List ℕ)
    → FindsGoing facts before session path n dir file parent name → StagesGone before n dir parent name staged
    → IsPlaceOf before.view before.image flag marked spans → IsFinished flag marked spans staged written
    → LeavesGone facts before session path n dir name flag staged written
leaves facts before session path n dir file parent name flag marked spans staged written finds s place finished =
    subst (λ d. FindsGoing facts before session path n d file parent name → StagesGone before n d parent name staged
    → LeavesGone facts before session path n d name flag staged written) finds.can.inside
    (λ finds s. leaves-in facts before session path n file parent name flag marked spans staged written finds s place finished) finds s

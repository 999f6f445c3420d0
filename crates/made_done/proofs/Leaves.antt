-- WHAT `create` AND `mkdir` LEAVE, staged and written.
use Rattle.std.proofs.Common.{◌≡◌, ◌≤◌, ◌+◌, ℕ, Bool, List, Some, length, refl, sym, ap, subst, ◌∙◌}
use Rattle.vol_disk.specs.Contents.{sector_in}
use Rattle.volume_def.specs.Sound.{IsSound, told_view}
use Rattle.volume_def.specs.View.{VolumeView}
use Rattle.tree_model.specs.Effects.{new_node, security_of}
use Rattle.tree_model.specs.Facts.{IsVolumeOf}
use Rattle.tree_model.specs.Refusals.{Facts}
use Rattle.tree_model.specs.Step.{IsFresh}
use Rattle.tree_model.specs.Subjects.{Machine}
use Rattle.tree_model.specs.Tree.{Tree}
use Rattle.tree_model.specs.declared.tree.Node.{Node}
use Rattle.tree_model.proofs.StepLaws.{one_volume}
use Rattle.session_def.specs.Done.{EditDone, HasEmptyLog}
use Rattle.session_def.specs.State.{State}
use Rattle.mark_write.specs.declared.flag.Flag.{Flag}
use Rattle.mark_write.specs.declared.log.Span.{Span}
use Rattle.in_place_done.specs.Marks.{marks_of}
use Rattle.in_place_done.proofs.FreshNumber.{fresh-number}
use Rattle.volume_mark.specs.SameVolume.{IsSameVolume}
use Rattle.volume_mark.proofs.MarkLaws.{mark-law}
use Rattle.in_place_done.specs.Behind.{MarksBehind}
use Rattle.made_owed.specs.Wants.{making_wants}
use Rattle.made_owed.specs.MadeOwed.{at_name, made_command}
use Rattle.in_place_done.specs.Finished.{IsFinished, IsPlaceOf}
use Rattle.in_place_done.proofs.StagedVolume.{staged_view}
use Rattle.in_place_done.proofs.WrittenBytes.{IsWritten, is-written}
use Rattle.made_done.specs.MadeDone.{FindsPlace, LeavesMade, StagesUnder, machine_made, most_made}
use Rattle.made_done.proofs.FileMade as file
use Rattle.made_done.proofs.MadeWritten.{CanBeLeft, can-be-left}

-- THE NUMBER of the file is one that the machine may choose.
fresh : (directory : Bool) (facts : Facts) (before : State) (session : ℕ) (path : List (List ℕ)) (dir : ℕ) (units : List ℕ) (node : Node)
    (made : ℕ) (staged : List ℕ) → FindsPlace directory facts before session path dir units node
    → StagesUnder directory before dir units node made staged → IsFresh facts before.machine.tree made
fresh directory facts before session path dir units node made staged finds s =
    let is = file.is_made directory before finds.stands dir units node finds.can finds.high made (staged_view before staged) s.makes in
    subst (λ (tree : Tree). IsFresh facts tree made) finds.stands.reading
    (fresh-number facts (making_wants directory made) before.view is.calls.mid (marks_of s.makes.was) (marks_of s.makes.now) made directory
    (new_node directory before.machine.now (security_of before.machine.tree dir)) finds.told is.calls.makes)

module _ (directory : Bool) (facts : Facts) (before : State) (session : ℕ) (path : List (List ℕ)) (dir : ℕ) (units : List ℕ) (node : Node)
    (made : ℕ) (finds : FindsPlace directory facts before session path dir units node) (free : IsFresh facts before.machine.tree made)
    (flag : Flag) (staged written : List ℕ) (long : length staged ≡ length before.image)
    (s : CanBeLeft directory before path dir units made (staged_view before staged)) (w : IsWritten before flag staged written) where
  abbrev new : VolumeView
  new = staged_view before staged

  -- the bytes that were written are the same volume
  same : IsSameVolume new flag written
  same = mark-law new flag staged w.volume s.sound w.flag_there written w.agrees

  -- .. of which the disk tells all
  other-is : same.other ≡ staged_view before written
  other-is =
      same.volume.is
      ∙ ap (told_view (sector_in (Some written))) (sym (ap (λ (v : VolumeView). v.layout) same.volume.is) ∙ same.layout)

  module _ (next : State) (image : next.image ≡ written) (volume : IsVolumeOf written next.view) where
    next-is : next.view ≡ same.other
    next-is = one_volume written next.view same.other volume same.volume

    settled : IsSound next.view
    settled = subst IsSound (sym next-is) same.sound

    first : MarksBehind new next.view
    first = subst (MarksBehind new) (sym (next-is ∙ other-is)) w.behind

    as-long : length next.image ≡ length before.image
    as-long = ap length image ∙ w.agrees.long ∙ long

  done : (next : State) → next.image ≡ written → IsVolumeOf written next.view
      → next.machine ≡ machine_made directory before session path dir units made → next.written ≤ before.written + most_made before dir
      → EditDone facts before session (made_command directory path) next × HasEmptyLog next.view
  done next image volume moved wrote =
      let leaves = s.leaves next (first next image volume) (settled next image volume) (as-long next image volume)
      (ap (λ (m : Machine). m.tree) moved) wrote in (
        record {
          at = at_name dir units;
          found = finds.found;
          made = made;
          fresh = λ makes. free;
          moved = moved;
          leaves = leaves;
        },
        leaves.log,
      )

  -- ALL OF IT
  leaves-written : LeavesMade directory facts before session path dir units made flag staged written
  leaves-written = record {
    new = new;
    is = refl;
    volume = w.volume;
    sound = s.sound;
    reading = s.reads;
    flag_there = w.flag_there;
    agrees = w.agrees;
    stored = w.stored;
    done = done;
  }

-- where it was written behind the mark
pub leaves : (directory : Bool) (facts : Facts) (before : State) (session : ℕ) (path : List (List ℕ)) (dir : ℕ) (units : List ℕ)
    (node : Node) (made : ℕ) (flag : Flag) (marked : Bool) (spans : List Span) (staged written : List ℕ)
    → FindsPlace directory facts before session path dir units node → StagesUnder directory before dir units node made staged
    → IsPlaceOf before.view before.image flag marked spans → IsFinished flag marked spans staged written
    → LeavesMade directory facts before session path dir units made flag staged written
leaves directory facts before session path dir units node made flag marked spans staged written finds s place finished =
    let is = can-be-left directory before finds.stands dir units node finds.can finds.high made (staged_view before staged) s.makes path in
    leaves-written directory facts before session path dir units node made finds
    (fresh directory facts before session path dir units node made staged finds s) flag staged written s.long is
    (is-written before staged finds.stands is.sound is.alone s.long flag marked spans written place finished)

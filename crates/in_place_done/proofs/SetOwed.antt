-- WHAT WAS SET IN PLACE is all that is asked of such a command, on whatever comes behind, and leaves alone what tells where the volume
-- lies.
use Rattle.std.proofs.Common.{◌≡◌, ◌≢◌, ◌<◌, ◌≤◌, ◌+◌, ℕ, Bool, false, [], length, refl, subst, arith}
use Rattle.ntfs_def.specs.declared.kinds.TheConstants.{DATA}
use Rattle.ntfs_def.specs.declared.records.TheConstants.{BOOT, FIRST_ORDINARY, LOG_FILE, MFT, ROOT, VOLUME}
use Rattle.volume_def.specs.FileNames.{names_of}
use Rattle.volume_def.specs.Files.{records_of}
use Rattle.volume_def.specs.Sound.{IsSound}
use Rattle.volume_def.specs.View.{VolumeView}
use Rattle.tree_model.specs.Hidden.{is_hidden}
use Rattle.tree_model.specs.Subjects.{Located}
use Rattle.tree_model.specs.declared.command.Command.{Command}
use Rattle.tree_model.specs.declared.tree.Node.{Node}
use Rattle.tree_model.proofs.NamesLaws.{is_shown}
use Rattle.edit_def.specs.Kept.{Key, key_of}
use Rattle.session_def.specs.State.{State}
use Rattle.in_place.specs.Behind.{MarksBehind}
use Rattle.in_place.specs.Unnamed.{NamesNoneOf}
use Rattle.in_place_owed.specs.SetsInPlace.{SetsInPlace, is_set_key, links_of}
use Rattle.in_place_owed.proofs.SetKeys.{data-free, low-other, shown-ordinary}
use Rattle.edit_written.specs.LeavesAlone.{LeavesAlone}
use Rattle.edit_written.proofs.LeftAlone.{rewritten}
use Rattle.in_place_done.specs.Written.{most_set}
use Rattle.in_place_done.proofs.FirstRecords.{firsts-free}
use Rattle.in_place_done.proofs.NameCount.{links-count}
use Rattle.in_place_done.proofs.StagedVolume.{CanBeSet, IsSet}

module _ (before : State) (command : Command) (at : Located) (node : Node) (new : VolumeView) (is : CanBeSet before command at node)
    (s : IsSet before command at new) where
  abbrev old : VolumeView
  old = before.view

  abbrev changed : Key → Bool
  changed = is_set_key before.machine.tree command at

  firsts : (n : ℕ) → n < 4 → NamesNoneOf changed n
  firsts = firsts-free old before.machine.tree is.stands.reading command at is.edits node is.can.there is.high

  shown : is_hidden (records_of old) at.file ≡ false
  shown = (is_shown old at.file node is.can.there).shown

  -- no stream of the system was rewritten
  no-stream : (g : ℕ) → g < FIRST_ORDINARY → g ≢ ROOT → changed (key_of g DATA []) ≡ false
  no-stream g low other =
      data-free before.machine.tree command at (key_of g DATA []) is.edits refl
      (low-other at.file g (shown-ordinary (records_of old) at.file shown) low other)

  pub set-alone : LeavesAlone old new
  set-alone =
      rewritten changed old new s.rewrites is.can.sound is.can.apart (firsts MFT (omega arith)) (firsts VOLUME (omega arith))
      (no-stream BOOT (omega arith) (λ e. omega (arith, e))) (firsts LOG_FILE (omega arith) DATA [])

  pub set-in-place : (next : State) → MarksBehind new next.view → IsSound next.view → length next.image ≡ length before.image
      → next.written ≤ before.written + most_set before command at.file → SetsInPlace before next command at new
  set-in-place next first settled long wrote = record {
    stands = is.stands;
    edits = is.edits;
    new = is.none;
    shown = λ edits. shown;
    in_place = is.in_place;
    nowhere = s.nowhere;
    rewrites = s.rewrites;
    sound = s.sound;
    firsts = firsts;
    standard = s.standard;
    marks = s.marks;
    roots = λ dir has. s.roots dir;
    entries = λ dir was now index has still. s.entries dir was now index has still before.machine.tree next.machine.tree;
    rests = s.rests;
    first = first;
    settled = settled;
    long = long;
    wrote = let count = few in omega (arith, wrote, count);
  }
    where
      few : links_of before.machine.tree at.file ≡ length (names_of (records_of old) at.file)
      few = subst (λ tree. links_of tree at.file ≡ length (names_of (records_of old) at.file)) is.stands.reading
          (links-count old at.file node is.can.there)

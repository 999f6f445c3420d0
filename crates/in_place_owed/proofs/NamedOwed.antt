-- WHAT IS KEPT of the attributes that the command names, and of all others that a command may name.
use Rattle.std.proofs.Common.{◌≡◌, ℕ, false, List, [], ◌∷◌, None, codes, map, refl, sym, subst}
use Rattle.ntfs_def.specs.declared.kinds.TheConstants.{FILE_NAME, INDEX_ROOT, STANDARD_INFORMATION}
use Rattle.volume_def.specs.Files.{parts_at}
use Rattle.volume_def.specs.View.{VolumeView}
use Rattle.volume_def.proofs.SoundLaws.{readable-sound}
use Rattle.tree_model.specs.Bill.{dropped_links}
use Rattle.tree_model.specs.IndexRoom.{is_object_id_item, is_point_item, object_id_index, point_index}
use Rattle.tree_model.specs.Subjects.{Located, NewName}
use Rattle.tree_model.specs.declared.command.Command.{Command}
use Rattle.edit_def.specs.Kept.{key_of}
use Rattle.session_def.specs.Done.{KeepsOfNamed, added_links, point_added}
use Rattle.session_def.specs.Kept.{KeepsEntries, KeepsKeys, KeepsStandard}
use Rattle.session_def.specs.Named.{main_file}
use Rattle.session_def.specs.State.{State}
use Rattle.in_place.proofs.KeptInPlace as keeps
use Rattle.in_place.proofs.OwedInPlace as owed
use Rattle.in_place.proofs.RoomSame.{numbers-same}
use Rattle.in_place_owed.specs.SetsInPlace.{SetsInPlace}
use Rattle.in_place_owed.proofs.BothRewrites.{apart, bases, both, either-kind, either-no_index, is_either_key}
use Rattle.in_place_owed.proofs.EntriesOwed.{entries-owed}
use Rattle.in_place_owed.proofs.InPlaceCommands.{does-little, lengthens-none, timed-one}
use Rattle.in_place_owed.proofs.StandardOwed.{standard-owed}

pub named-owed : (before next : State) (command : Command) (at : Located) (made : ℕ) (staged : VolumeView)
    → SetsInPlace before next command at staged → KeepsOfNamed before next command at made
named-owed before next command at made staged s =
    let old = before.view in
    let new = next.view in
    let tree = before.machine.tree in
    let w = both before next command at staged s in
    let lies = apart before next command at staged s in
    let named = is_either_key tree command at in
    let little = does-little tree command at s.edits in
    let no_name : (f : ℕ) (name : List ℕ) → named (key_of f FILE_NAME name) ≡ false =
    λ f name. either-kind tree command at (key_of f FILE_NAME name) s.edits refl refl refl refl in
    let no_index = either-no_index tree command at s.edits in
    let kept = keeps.kept-room named old new w lies.owners lies.some lies.unnamed in
    let right = bases before next command at staged s in
    let readable = readable-sound old s.stands.sound in
    let readable_new = readable-sound new s.settled in
    record {
      standard = λ f stays.
          subst (λ b. KeepsStandard b (parts_at old f STANDARD_INFORMATION []) (parts_at new f STANDARD_INFORMATION []))
          (sym (lengthens-none old tree command at s.edits s.in_place f)) (standard-owed before next command at staged s f);
      names = λ f stays. owed.names-but named old new w (dropped_links tree command at) f (no_name f);
      numbers = λ f other. numbers-same named old new w f;
      sequence = owed.sequence-same named old new w;
      points =
          subst (λ (tags : List ℕ). KeepsKeys old (point_index old) new (point_index new) (map (is_point_item old at.file) tags)
          (point_added old command at)) (sym little.dropped)
          (subst (KeepsKeys old (point_index old) new (point_index new) []) (sym (little.no_point old))
          (owed.keys-kept named old new w (codes "$Reparse") (codes "$R") no_name
          (λ f. no_index (codes "$R") refl refl f INDEX_ROOT refl) kept right readable readable_new
          (no_index (codes "$R") refl refl) refl));
      object_ids =
          subst (λ (ids : List (List ℕ)). KeepsKeys old (object_id_index old) new (object_id_index new) (map is_object_id_item ids) None)
          (sym little.ids)
          (owed.keys-kept named old new w (codes "$ObjId") (codes "$O") no_name
          (λ f. no_index (codes "$O") refl refl f INDEX_ROOT refl) kept right readable readable_new
          (no_index (codes "$O") refl refl) refl);
      entries = λ dir was now is has becomes.
          let main = main_file command at made in
          subst (λ files. KeepsEntries new tree next.machine.tree files (added_links at.new main) was now)
          (sym (timed-one command at made s.edits s.new))
          (subst (λ (n : NewName). KeepsEntries new tree next.machine.tree (at.file ∷ []) (added_links n main) was now)
          (sym s.new)
          (entries-owed before next command at staged s dir was now is has becomes));
    }

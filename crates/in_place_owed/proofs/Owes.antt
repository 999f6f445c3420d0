-- WHAT THE COMMAND OWES, and so what it leaves.
use Rattle.std.proofs.Common.{◌≡◌, ◌==◌, ◌&&◌, ℕ, false, List, [], length, refl, ap, arith}
use Rattle.std.proofs.lemmas.Bool.{or_from}
use Rattle.ntfs_def.specs.declared.kinds.TheConstants.{ATTRIBUTE_LIST, DATA, FILE_NAME, STANDARD_INFORMATION, VOLUME_INFORMATION}
use Rattle.ntfs_def.specs.declared.records.TheConstants.{LOG_FILE, VOLUME}
use Rattle.volume_def.specs.View.{VolumeView}
use Rattle.tree_model.specs.Subjects.{Located}
use Rattle.tree_model.specs.declared.command.Command.{Command}
use Rattle.edit_def.specs.Kept.{key_of}
use Rattle.session_def.specs.Done.{LeavesDone}
use Rattle.session_def.specs.FirstMark.{is_first_key}
use Rattle.session_def.specs.Named.{is_log_key, is_mark_key, main_file}
use Rattle.session_def.specs.Owed.{Owes}
use Rattle.session_def.specs.State.{State}
use Rattle.session_def.proofs.OwedLaws.{leaves-done}
use Rattle.in_place.proofs.BehindLaws.{log_end-behind}
use Rattle.in_place.proofs.FormSame.{forms-come}
use Rattle.in_place.proofs.NodesOwed.{nodes-kept}
use Rattle.in_place.proofs.OwedInPlace.{none-gained, none-gained_named, order-kept}
use Rattle.in_place.proofs.UnusedSame.{unused-kept}
use Rattle.in_place_owed.specs.SetsInPlace.{SetsInPlace, is_node_kind, is_set_key}
use Rattle.in_place_owed.proofs.BothRewrites.{apart, both, either-kind, is_either_key}
use Rattle.in_place_owed.proofs.CallsOwed.{calls}
use Rattle.in_place_owed.proofs.CostLaws.{wrote-owed}
use Rattle.in_place_owed.proofs.InPlaceCommands.{does-little, owns-all}
use Rattle.in_place_owed.proofs.IndexesSet.{indexes-owed}
use Rattle.in_place_owed.proofs.NamedOwed.{named-owed}
use Rattle.in_place_owed.proofs.RecordsOwed.{blocks-owed, copies-owed}
use Rattle.in_place_owed.proofs.StandardOwed.{marks-owed}

pub owes : (before next : State) (command : Command) (at : Located) (made : ℕ) (staged : VolumeView)
    → SetsInPlace before next command at staged → Owes before next command at made
owes before next command at made staged s =
    let old = before.view in
    let new = next.view in
    let tree = before.machine.tree in
    let named = is_either_key tree command at in
    let w = both before next command at staged s in
    let lies = apart before next command at staged s in
    let little = does-little tree command at s.edits in
    let free : (f kind : ℕ) (name : List ℕ) → (kind == DATA) ≡ false → (kind == STANDARD_INFORMATION) ≡ false → is_node_kind kind ≡ false
    → (kind == VOLUME_INFORMATION) ≡ false → named (key_of f kind name) ≡ false =
    λ f kind name a b d e. either-kind tree command at (key_of f kind name) s.edits a b d (first-free f kind name a e) in
    record {
      long = s.long;
      named = named-owed before next command at made staged s;
      clusters = record {
        ends = λ f kind name plain vcn gained. absurd (none-gained named old new w f kind name vcn gained);
        gains = λ vcn gained. absurd (none-gained_named named old new w at.file _ vcn gained);
        owned = λ vcn is.
            owns-all command s.edits _ _ vcn
            (λ punches. none-gained_named named old new w at.file _ vcn (is, s.nowhere punches vcn));
      };
      nodes = nodes-kept named old new w tree next.machine.tree command at made
          (record { makes = little.makes; drops = little.drops; points = little.points })
          (λ name. free (main_file command at made) FILE_NAME name refl refl refl refl)
          (λ f was now. marks-owed before next command at staged s f) (little.point new (main_file command at made));
      indexes = indexes-owed before next command at staged s made;
      blocks = blocks-owed before next command at made staged s;
      unused = unused-kept named old new w;
      copies = copies-owed before next command at staged s;
      made_forms = forms-come named old new w;
      lists = λ f. order-kept named old new w lies.owners lies.some f
          (λ name. free f ATTRIBUTE_LIST name refl refl refl refl);
      log_end = log_end-behind (is_set_key tree command at) old staged new s.rewrites lies.owners lies.some
          (s.firsts LOG_FILE (omega arith) DATA []) s.first.log_end;
      wrote = wrote-owed before next command at made staged s;
    }
  where
    first-free : (f kind : ℕ) (name : List ℕ) → (kind == DATA) ≡ false → (kind == VOLUME_INFORMATION) ≡ false
        → is_first_key (key_of f kind name) ≡ false
    first-free f kind name a e =
        or_from (is_log_key (key_of f kind name)) (is_mark_key (key_of f kind name))
        (ap (λ b. b && ((length name == 0) && (f == LOG_FILE))) a) (ap (λ b. b && ((length name == 0) && (f == VOLUME))) e)

pub leaves : (before next : State) (command : Command) (at : Located) (made : ℕ) (staged : VolumeView)
    → SetsInPlace before next command at staged → LeavesDone before next command at made
leaves before next command at made staged s =
    leaves-done before next command at made (calls before next command at made staged s) (owes before next command at made staged s)

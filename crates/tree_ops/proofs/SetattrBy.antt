-- WHAT IS DUE FOR `setattr`: where its path leads to a file that can be edited it is done, and else refused so.
use Rattle.std.proofs.Common.{◌≡◌, ◌≤◌, ℕ, Bool, true, false, List, None, Result, Ok, Err, refl, ap, subst, ◌∙◌, arith}
use Rattle.std.specs.Prelude.{Contains, if◌then◌else◌, slice_set}
use Rattle.ntfs_def.specs.FileName.{FileName}
use Rattle.volume_def.specs.FileNames.{names_of}
use Rattle.volume_def.specs.Files.{records_of}
use Rattle.volume_def.specs.View.{VolumeView}
use Rattle.tree_model.specs.Effects.{opens_after}
use Rattle.tree_model.specs.Facts.{TellsFacts, is_whole_table}
use Rattle.tree_model.specs.Paths.{and_then, found_file, resolve}
use Rattle.tree_model.specs.Reading.{read}
use Rattle.tree_model.specs.Refusals.{Facts, outcome}
use Rattle.tree_model.specs.Staging.{cannot_edit}
use Rattle.tree_model.specs.Step.{answered, due}
use Rattle.tree_model.specs.Subjects.{Machine, at_found, locate}
use Rattle.tree_model.specs.declared.command.Command.{Command}
use Rattle.tree_model.specs.declared.command.Command.TheVariants as c
use Rattle.tree_model.specs.declared.opens.OpenEntry.{OpenEntry}
use Rattle.tree_model.specs.declared.reply.No.{No}
use Rattle.tree_model.specs.declared.reply.No.TheVariants as no
use Rattle.tree_model.specs.declared.tree.Found.{Found}
use Rattle.tree_model.proofs.LookLaws.{find-never}
use Rattle.made_done.proofs.Below.{has-room}
use Rattle.stream_changes.specs.Below.{settable}
use Rattle.made_done.specs.Below.{CanSet, SetsAttributes}
use Rattle.tree_ops.specs.Edits.{setattr_edit}
use Rattle.tree_ops.specs.Wanted.{machine_on}
use Rattle.tree_ops.proofs.FileEditBy.{IsFileEditBy, LeadsToFile}

module _ (facts : Facts) (view : VolumeView) (opens : List OpenEntry) (now session : ℕ) (path : List (List ℕ)) (flags : ℕ)
    (tells : TellsFacts view facts) where
  abbrev m : Machine
  m = machine_on view opens now

  abbrev command : Command
  command = c.Setattr path flags

  -- the file can be edited, or it cannot
  abbrev edits : Bool → Found → Result ℕ No
  edits cannot found = if cannot then Err no.Unbuilt else Ok (found_file found)

  abbrev cannot_at : Found → Bool
  cannot_at found = cannot_edit (is_whole_table view) (read view) (found_file found)

  -- there is room for it
  room : (found : Found) → facts.no_room m command (at_found (read view) found) ≡ None
  room found = tells.no_room m command (at_found (read view) found)
      ∙ has-room view (read view) command (at_found (read view) found) refl refl refl

  found-at : (found : Found) → resolve (read view) path ≡ Ok found → cannot_at found ≡ false
      → outcome facts m session command ≡ Ok (at_found (read view) found)
  unfolding outcome locate
  found-at found e can =
      let n = find-never opens (found_file found) in
      let w = tells.whole_table in
      let o = tells.built_for m command (at_found (read view) found) in
      let r = room found in
      rw (e, n, w, can, o, r) refl

  refused-at : (found : Found) → resolve (read view) path ≡ Ok found → cannot_at found ≡ true
      → outcome facts m session command ≡ Err no.Unbuilt
  unfolding outcome locate
  refused-at found e can =
      let n = find-never opens (found_file found) in
      let w = tells.whole_table in
      rw (e, n, w, can) refl

  path-refused : (why : No) → resolve (read view) path ≡ Err why → outcome facts m session command ≡ Err why
  unfolding outcome locate
  path-refused why e = rw e refl

  pub setattr-found : (file : ℕ) → settable (is_whole_table view) (read view) path ≡ Ok file → LeadsToFile facts m session command file
  setattr-found file is = by (resolve (read view) path) refl is
    where
      by_edit : (found : Found) → resolve (read view) path ≡ Ok found → (b : Bool) → cannot_at found ≡ b → edits b found ≡ Ok file
          → LeadsToFile facts m session command file
      by_edit found e true can is = cc
      by_edit found e false can is =
          let same : found_file found ≡ file = cc in
          record { at = at_found (read view) found; is = found-at found e can; file_is = same }

      by : (r : Result Found No) → resolve (read view) path ≡ r → and_then r (λ found. edits (cannot_at found) found) ≡ Ok file
          → LeadsToFile facts m session command file
      by (Err refused) e is = cc
      by (Ok found) e is = by_edit found e _ refl is

  pub setattr-refused : (refused : No) → settable (is_whole_table view) (read view) path ≡ Err refused
      → due facts m session command ≡ Err refused
  unfolding due
  setattr-refused refused is = ap (answered facts m session command) (by (resolve (read view) path) refl is)
    where
      by_edit : (found : Found) → resolve (read view) path ≡ Ok found → (b : Bool) → cannot_at found ≡ b → edits b found ≡ Err refused
          → outcome facts m session command ≡ Err refused
      by_edit found e true can is = let same : no.Unbuilt ≡ refused = cc in refused-at found e can ∙ ap Err same
      by_edit found e false can is = cc

      by : (r : Result Found No) → resolve (read view) path ≡ r → and_then r (λ found. edits (cannot_at found) found) ≡ Err refused
          → outcome facts m session command ≡ Err refused
      by (Err why) e is = let same : why ≡ refused = cc in path-refused why e ∙ ap Err same
      by (Ok found) e is = by_edit found e _ refl is

-- IT IS THAT OF THE COMMAND
pub setattr-by : (opens : List OpenEntry) (now session : ℕ) (path : List (List ℕ)) (flags : ℕ) (view : VolumeView)
    → IsFileEditBy view opens now session (c.Setattr path flags) (setattr_edit path flags now)
unfolding opens_after
setattr-by opens now session path flags view = record {
  edits = refl;
  is = refl;
  found = λ told facts tells file is. setattr-found facts view opens now session path flags tells file is;
  refused = λ told facts tells why is. setattr-refused facts view opens now session path flags tells why is;
  stages = λ told facts tells file is new does.
      let can = subst (λ f. CanSet view f does.can.can.node) does.file_is does.can.can.can in
      record {
        node = does.can.can.node;
        can = can;
        high = subst (λ f. (name : FileName) → Contains (names_of (records_of view) f) name → 4 ≤ name.parent.number) does.file_is
            does.can.high;
        stages = λ image written. subst (λ times. SetsAttributes view new file (slice_set times 2 now) flags) does.can.times does.sets;
      };
  opens_stay = λ at. refl;
  moment_stays = λ at. refl;
  few = λ new file. omega arith;
}

-- WHAT IS DUE FOR `setsec`: where its path leads to a file whose security id can be set, and the volume has a descriptor of that id, it is
-- done, and else refused so.
use Rattle.std.proofs.Common.{◌≡◌, ◌≤◌, ◌&&◌, ◌||◌, ℕ, Bool, true, false, List, [], ◌∷◌, not, Option, Some, None, Result, Ok, Err}
use Rattle.std.proofs.Common.{refl, ap, subst, ◌∙◌, arith}
use Rattle.std.specs.Prelude.{Contains, IsTrue, if◌then◌else◌, is_some, option_map, slice_set}
use Rattle.ntfs_def.specs.FileName.{FileName}
use Rattle.volume_def.specs.FileNames.{names_of}
use Rattle.volume_def.specs.Files.{records_of}
use Rattle.volume_def.specs.Sound.{IsSound}
use Rattle.volume_def.specs.View.{VolumeView}
use Rattle.tree_model.specs.Effects.{opens_after}
use Rattle.tree_model.specs.Facts.{TellsDescriptor, TellsFacts, is_whole_table}
use Rattle.tree_model.specs.Paths.{and_then, found_file, resolve}
use Rattle.tree_model.specs.Reading.{read}
use Rattle.tree_model.specs.Refusals.{Facts, first_some, outcome, refusal, unless, when}
use Rattle.tree_model.specs.Staging.{cannot_edit}
use Rattle.tree_model.specs.Ways.{has_place_for_id}
use Rattle.tree_model.specs.Step.{answered, due}
use Rattle.tree_model.specs.Subjects.{Located, Machine, at_found, locate, subject_of}
use Rattle.tree_model.specs.declared.command.Command.{Command}
use Rattle.tree_model.specs.declared.command.Command.TheVariants as c
use Rattle.tree_model.specs.declared.opens.OpenEntry.{OpenEntry}
use Rattle.tree_model.specs.declared.reply.No.{No}
use Rattle.tree_model.specs.declared.reply.No.TheVariants as no
use Rattle.tree_model.specs.declared.tree.Found.{Found}
use Rattle.tree_model.proofs.FactsLaws.{one_told}
use Rattle.tree_model.proofs.HasFacts.{has_facts}
use Rattle.list_laws.proofs.BoolLaws.{or-false}
use Rattle.tree_model.proofs.LookLaws.{find-never}
use Rattle.name_changes.specs.Security.{TellsWhether}
use Rattle.made_done.proofs.Below.{has-room}
use Rattle.stream_changes.specs.Below.{secure_in, secure_wanted}
use Rattle.made_done.specs.Below.{CanSet, SetsSecurity}
use Rattle.tree_ops.specs.Edits.{setsec_edit}
use Rattle.tree_ops.specs.Wanted.{machine_on}
use Rattle.tree_ops.proofs.FileEditBy.{IsFileEditBy, LeadsToFile}
use Rattle.tree_ops.proofs.Judged.{can-of, not-both, with_at}

-- WHETHER THE ID HAS A DESCRIPTOR, as what is told beside the tree says it, where the contents are told.
pub record IsDescribed (v : VolumeView) (id : ℕ) (described : Bool) : Type 0 where
  pub whether : IsTrue v.told → TellsWhether v id described
  pub facts_so : IsTrue v.told → (facts : Facts) → TellsFacts v facts → is_some (facts.descriptor id) ≡ described

pub described-by : (v : VolumeView) → (IsTrue v.told → IsSound v) → (id : ℕ) → (described : Bool) × IsDescribed v id described
described-by v sound id = by v.told refl
  where
    one : (o : Option (List ℕ)) → TellsDescriptor v id o → TellsWhether v id (is_some o)
    one None none = none
    one (Some bytes) has = (bytes, has)

    by : (b : Bool) → v.told ≡ b → (described : Bool) × IsDescribed v id described
    by false e = (false, record { whether = λ told. cc; facts_so = λ told. cc })
    by true e =
        let f = has_facts v (sound e) in (
          is_some (f.0.descriptor id),
          record {
            whether = λ told. one (f.0.descriptor id) (f.1.descriptors id);
            facts_so = λ told facts tells.
                ap (λ (o : Option (List ℕ)). is_some o) (one_told v id (facts.descriptor id) (f.0.descriptor id) (tells.descriptors id)
                (f.1.descriptors id));
          },
        )

-- THE REFUSALS in their order, and what is wanted, by what each case asks
abbrev judge : Bool → Option No → Bool → Option No → Option No
judge described apart unbuilt room = first_some (
    when (not described) no.NoSecurity ∷
    apart ∷
    when unbuilt no.Unbuilt ∷
    room ∷ [])

abbrev wanted_by : Bool → Bool → ℕ → Result ℕ No
wanted_by described can file = if not described then Err no.NoSecurity else if can then Ok file else Err no.Unbuilt

judged : (at : Located) (file : ℕ) (described can : Bool) (room : Option No) → (can ≡ true → room ≡ None)
    → unless (judge described None (not can) room) at ≡ with_at at (wanted_by described can file)
judged at file false can room has = refl
judged at file true false room has = refl
judged at file true true room has = ap (λ o. unless (judge true None false o) at) (has refl)

module _ (facts : Facts) (view : VolumeView) (opens : List OpenEntry) (now session : ℕ) (path : List (List ℕ)) (id : ℕ) (described : Bool)
    (so : is_some (facts.descriptor id) ≡ described) (tells : TellsFacts view facts) where
  abbrev m : Machine
  m = machine_on view opens now

  abbrev command : Command
  command = c.Setsec path id

  abbrev at : Found → Located
  at found = at_found (read view) found

  abbrev cannot : Found → Bool
  cannot found = cannot_edit (is_whole_table view) (read view) (found_file found)

  abbrev place : Found → Bool
  place found = has_place_for_id view (found_file found)

  abbrev can : Found → Bool
  can found = not (cannot found) && place found

  room : (found : Found) → can found ≡ true → facts.no_room m command (at found) ≡ None
  room found is =
      tells.no_room m command (at found) ∙ has-room view (read view) command (at found) refl refl (can-of (cannot found) (place found) is)

  -- the refusal that is due
  refusal-is : (found : Found) → refusal facts m session command (subject_of command) (at found)
      ≡ judge described None (not (can found)) (facts.no_room m command (at found))
  refusal-is found =
      let w = tells.whole_table in
      let o = tells.built_for m command (at found) ∙ or-false (place found) in
      let both : (cannot_edit facts.whole_table (read view) (found_file found) || not (facts.built_for m command (at found))) ≡ not
      (can found) =
      ap (λ b. cannot_edit b (read view) (found_file found) || not (facts.built_for m command (at found))) w
      ∙ ap (λ b. cannot found || not b) o ∙ not-both (cannot found) (place found) in
      let none = find-never opens (found_file found) in
      ap (λ (e : Option OpenEntry). judge (is_some (facts.descriptor id))
      (option_map (λ (entry : OpenEntry). no.Shared entry.session entry.handle) e)
      (cannot_edit facts.whole_table (read view) (found_file found) || not (facts.built_for m command (at found)))
      (facts.no_room m command (at found))) none
      ∙ ap (λ b. judge (is_some (facts.descriptor id)) None b (facts.no_room m command (at found))) both
      ∙ ap (λ b. judge b None (not (can found)) (facts.no_room m command (at found))) so

  outcome-is : (found : Found) → resolve (read view) path ≡ Ok found
      → outcome facts m session command ≡ with_at (at found) (secure_in view described (found_file found))
  unfolding outcome locate
  outcome-is found e =
      ap (λ r. and_then (and_then r (λ f. Ok (at_found (read view) f)))
      (λ x. unless (refusal facts m session command (subject_of command) x) x)) e
      ∙ ap (λ o. unless o (at found)) (refusal-is found)
      ∙ judged (at found) (found_file found) described (can found) (facts.no_room m command (at found)) (room found)

  path-refused : (why : No) → resolve (read view) path ≡ Err why → outcome facts m session command ≡ Err why
  unfolding outcome locate
  path-refused why e = rw e refl

  ok-file : (described can : Bool) (named file : ℕ) → wanted_by described can named ≡ Ok file → named ≡ file
  ok-file false can named file e = cc
  ok-file true false named file e = cc
  ok-file true true named file e = cc

  pub setsec-found : (file : ℕ) → secure_wanted view described path ≡ Ok file → LeadsToFile facts m session command file
  setsec-found file is = by (resolve (read view) path) refl is
    where
      by : (r : Result Found No) → resolve (read view) path ≡ r
          → and_then r (λ found. secure_in view described (found_file found)) ≡ Ok file → LeadsToFile facts m session command file
      by (Err why) e is = cc
      by (Ok found) e is = record {
        at = at found;
        is = outcome-is found e ∙ ap (with_at (at found)) is;
        file_is = ok-file described (can found) (found_file found) file is;
      }

  pub setsec-refused : (refused : No) → secure_wanted view described path ≡ Err refused → due facts m session command ≡ Err refused
  unfolding due
  setsec-refused refused is = ap (answered facts m session command) (by (resolve (read view) path) refl is)
    where
      by : (r : Result Found No) → resolve (read view) path ≡ r
          → and_then r (λ found. secure_in view described (found_file found)) ≡ Err refused
          → outcome facts m session command ≡ Err refused
      by (Err why) e is = let same : why ≡ refused = cc in path-refused why e ∙ ap Err same
      by (Ok found) e is = outcome-is found e ∙ ap (with_at (at found)) is

-- IT IS THAT OF THE COMMAND
pub setsec-by : (opens : List OpenEntry) (now session : ℕ) (path : List (List ℕ)) (id : ℕ) (described : Bool) (view : VolumeView)
    → IsDescribed view id described
    → IsFileEditBy view opens now session (c.Setsec path id) (setsec_edit path id described now)
unfolding opens_after
setsec-by opens now session path id described view is_so = record {
  edits = refl;
  is = refl;
  found = λ told facts tells file is.
      setsec-found facts view opens now session path id described (is_so.facts_so told facts tells) tells file is;
  refused = λ told facts tells why is.
      setsec-refused facts view opens now session path id described (is_so.facts_so told facts tells) tells why is;
  stages = λ told facts tells file is new does.
      let set = does.can.settable in
      record {
        node = set.can.node;
        can = subst (λ f. CanSet view f set.can.node) does.file_is set.can.can;
        high = subst (λ f. (name : FileName) → Contains (names_of (records_of view) f) name → 4 ≤ name.parent.number) does.file_is set.high;
        stages = λ image written.
            subst (λ flags. SetsSecurity view new file id (slice_set set.can.node.times 2 now) flags) does.can.flags
            (subst (λ times. SetsSecurity view new file id (slice_set times 2 now) does.found.flags) set.times does.sets);
      };
  opens_stay = λ at. refl;
  moment_stays = λ at. refl;
  few = λ new file. omega arith;
}

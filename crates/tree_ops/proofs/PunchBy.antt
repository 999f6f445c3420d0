-- WHAT IS DUE FOR `punch`: where the stream that its path leads to is a value it is done, and else refused so.
use Rattle.std.proofs.Common.{◌≡◌, ◌==◌, ◌&&◌, ◌||◌, ℕ, Bool, true, List, not, length, Option, None}
use Rattle.std.proofs.Common.{Ok, Err}
use Rattle.std.proofs.Common.{refl, ap, ◌∙◌, arith}
use Rattle.list_laws.proofs.BoolLaws.{or-false}
use Rattle.volume_def.specs.View.{VolumeView}
use Rattle.tree_model.specs.Cases.{is_wide, shared}
use Rattle.tree_model.specs.Effects.{opens_after}
use Rattle.tree_model.specs.Facts.{TellsFacts, is_whole_table}
use Rattle.tree_model.specs.Paths.{and_then, found_file, resolve}
use Rattle.tree_model.specs.Reading.{read}
use Rattle.tree_model.specs.Refusals.{Facts, outcome, refusal, unless}
use Rattle.tree_model.specs.Staging.{cannot_edit}
use Rattle.tree_model.specs.Ways.{is_done_in_place}
use Rattle.tree_model.specs.Step.{due}
use Rattle.tree_model.specs.Subjects.{Located, Machine, at_found, is_directory, locate, stream_name, subject_of, with_stream}
use Rattle.tree_model.specs.declared.command.Command.{Command}
use Rattle.tree_model.specs.declared.command.Command.TheVariants as c
use Rattle.tree_model.specs.declared.opens.OpenEntry.{OpenEntry}
use Rattle.tree_model.specs.declared.reply.No.{No}
use Rattle.tree_model.specs.declared.tree.Found.{Found}
use Rattle.made_done.proofs.Below.{has-room}
use Rattle.stream_changes.specs.Below.{can_punch, punch_in, punch_wanted}
use Rattle.tree_ops.specs.Edits.{EditsFound, stream_edit}
use Rattle.tree_ops.specs.Wanted.{machine_on}
use Rattle.tree_ops.specs.declared.streams.StreamEdit.TheVariants as s
use Rattle.tree_ops.proofs.FileEditBy.{IsFileEditBy, StagesFile}
use Rattle.tree_ops.proofs.StreamBy.{FindsStream, edited-file, edited-so, stream-found, stream-refused, stream_of_found}
use Rattle.tree_ops.proofs.StreamFound.{spelt-so, tellable-so, there-so}
use Rattle.tree_ops.proofs.Judged.{can-file, can-of, if_can, last-can, not-both, with_at}
use Rattle.tree_ops.proofs.JudgedThere.{judge, judged, same-file}

module _ (facts : Facts) (view : VolumeView) (opens : List OpenEntry) (now session : ℕ) (path : List (List ℕ)) (stream : Option (List ℕ))
    (from len : ℕ) (tells : TellsFacts view facts) where
  abbrev m : Machine
  m = machine_on view opens now

  abbrev command : Command
  command = c.Punch path stream from len

  abbrev name : List ℕ
  name = stream_name stream

  abbrev at : Found → Located
  at found = stream_of_found view name found

  abbrev cannot : Found → Bool
  cannot found = cannot_edit (is_whole_table view) (read view) (found_file found)

  abbrev built : Found → Bool
  built found = is_done_in_place view (read view) command (at found)

  abbrev can : Found → Bool
  can found = not (cannot found) && built found

  abbrev dir : Found → Bool
  dir found = (length name == 0) && is_directory (at found).node

  room : (found : Found) → can found ≡ true → facts.no_room m command (at found) ≡ None
  room found is =
      tells.no_room m command (at found) ∙ has-room view (read view) command (at found) refl refl (can-of (cannot found) (built found) is)

  -- the refusal that is due
  refusal-is : (found : Found) → refusal facts m session command (subject_of command) (at found)
      ≡ judge (at found).content (dir found) (is_wide from len) (shared m command (at found)) (not (can found))
      (facts.no_room m command (at found))
  refusal-is found =
      let w = tells.whole_table in
      let o = tells.built_for m command (at found) ∙ or-false (built found) in
      let both : (cannot_edit facts.whole_table (read view) (found_file found) || not (facts.built_for m command (at found)))
      ≡ not (can found) =
      ap (λ b. cannot_edit b (read view) (found_file found) || not (facts.built_for m command (at found))) w
      ∙ ap (λ b. cannot found || not b) o ∙ not-both (cannot found) (built found) in
      ap (λ b. judge (at found).content (dir found) (is_wide from len) (shared m command (at found)) b
      (facts.no_room m command (at found))) both

  outcome-is : (found : Found) → resolve (read view) path ≡ Ok found
      → outcome facts m session command ≡ with_at (at found) (punch_in view opens name from len (found_file found))
  unfolding outcome locate
  outcome-is found e =
      ap (λ r. and_then (and_then (and_then r (λ f. Ok (at_found (read view) f))) (λ x. Ok (with_stream (read view) name x)))
      (λ x. unless (refusal facts m session command (subject_of command) x) x)) e
      ∙ ap (λ o. unless o (at found)) (refusal-is found)
      ∙ judged (at found) (at found).content (dir found) (is_wide from len) (shared m command (at found)) (not (can found))
      (facts.no_room m command (at found)) (if_can (can found) (found_file found))
      (last-can (at found) (found_file found) (can found) (facts.no_room m command (at found)) (room found))

  path-refused : (why : No) → resolve (read view) path ≡ Err why → outcome facts m session command ≡ Err why
  unfolding outcome locate
  path-refused why e = rw e refl

  same : (found : Found) (file : ℕ) → punch_in view opens name from len (found_file found) ≡ Ok file → found_file found ≡ file
  same found file is =
      same-file (at found).content (dir found) (is_wide from len) (shared m command (at found)) (if_can (can found) (found_file found))
      (found_file found) file (can-file (can found) (found_file found) file) is

  pub punch-found : (file : ℕ) → punch_wanted view opens path name from len ≡ Ok file → FindsStream facts view m session command name file
  punch-found file is =
      stream-found facts view opens now session command path name (λ file. punch_in view opens name from len file) same outcome-is
      path-refused file is

  pub punch-refused : (refused : No) → punch_wanted view opens path name from len ≡ Err refused
      → due facts m session command ≡ Err refused
  punch-refused refused is =
      stream-refused facts view opens now session command path name (λ file. punch_in view opens name from len file) same outcome-is
      path-refused refused is

-- WHAT WAS PUNCHED is what the command stages, by the stream that was found.
punch-staged : (facts : Facts) (view new : VolumeView) (opens : List OpenEntry) (now session : ℕ) (path : List (List ℕ))
    (stream : Option (List ℕ)) (from len file : ℕ)
    → (p : EditsFound (s.Punch from len) view new file (stream_name stream) now)
    → (x : FindsStream facts view (machine_on view opens now) session (c.Punch path stream from len) (stream_name stream) file)
    → StagesFile view opens now (c.Punch path stream from len) x.leads.at file new
punch-staged facts view new opens now session path stream from len file p x =
    let asked = stream_name stream in
    let what = s.Punch from len in
    edited-file what view new file asked now p opens (c.Punch path stream from len) x.leads.at
    (λ image written. record {
      name = p.can.stream.is.part.name;
      spelt_so = spelt-so view p.found asked (λ f. can_punch view asked f) p.can file p.file_is x.leads.at x.stream_is x.node_is;
      there = there-so view p.found asked (λ f. can_punch view asked f) p.can file p.file_is;
      tellable = tellable-so view p.found asked (λ f. can_punch view asked f) p.can file p.file_is;
      punches = edited-so what view new file asked now p;
    })

-- IT IS THAT OF THE COMMAND
pub punch-by : (opens : List OpenEntry) (now session : ℕ) (path : List (List ℕ)) (stream : Option (List ℕ)) (from len : ℕ)
    (view : VolumeView)
    → IsFileEditBy view opens now session (c.Punch path stream from len)
    (stream_edit (s.Punch from len) opens path (stream_name stream) now)
unfolding opens_after
punch-by opens now session path stream from len view = record {
  edits = refl;
  is = refl;
  found = λ told facts tells file is. (punch-found facts view opens now session path stream from len tells file is).leads;
  refused = λ told facts tells why is. punch-refused facts view opens now session path stream from len tells why is;
  stages = λ told facts tells file is new p.
      punch-staged facts view new opens now session path stream from len file p
      (punch-found facts view opens now session path stream from len tells file is);
  opens_stay = λ at. refl;
  moment_stays = λ at. refl;
  few = λ new file. omega arith;
}

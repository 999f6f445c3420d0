-- WHAT IS DUE FOR `rmstream`: where the stream that its path leads to is a value of a file without an attribute list, or lies in clusters
-- in one part, it is done, and else refused so.
use Rattle.std.proofs.Common.{◌≡◌, ◌==◌, ◌&&◌, ◌||◌, ℕ, Bool, true, false, List, not, length, None, Ok, Err}
use Rattle.std.proofs.Common.{inl, inr, refl, ap, ◌∙◌, arith}
use Rattle.std.specs.Prelude.{is_some}
use Rattle.std.proofs.lemmas.Bool.{and_parts, or_cases}
use Rattle.volume_def.specs.Values.{first_part}
use Rattle.volume_def.specs.View.{VolumeView}
use Rattle.tree_model.specs.Cases.{shared}
use Rattle.tree_model.specs.Effects.{opens_after, touched}
use Rattle.tree_model.specs.Facts.{TellsFacts, is_whole_table}
use Rattle.tree_model.specs.Paths.{and_then, found_file, resolve}
use Rattle.tree_model.specs.Reading.{read}
use Rattle.tree_model.specs.Refusals.{Facts, outcome, refusal, unless}
use Rattle.tree_model.specs.Staging.{cannot_edit}
use Rattle.tree_model.specs.Ways.{has_no_list, has_placed_bits, in_extent}
use Rattle.tree_model.specs.Step.{due}
use Rattle.tree_model.specs.StreamRoom.{stream_parts, stream_value}
use Rattle.tree_model.specs.Subjects.{Located, Machine, at_found, is_directory, locate, subject_of, with_stream}
use Rattle.tree_model.specs.declared.command.Command.{Command}
use Rattle.tree_model.specs.declared.command.Command.TheVariants as c
use Rattle.tree_model.specs.declared.opens.OpenEntry.{OpenEntry}
use Rattle.tree_model.specs.declared.reply.No.{No}
use Rattle.tree_model.specs.declared.tree.Found.{Found}
use Rattle.made_done.specs.Below.{PutsStream, no_gain}
use Rattle.made_done.proofs.Below.{value-room}
use Rattle.stream_changes.specs.Below.{can_drop, can_give, drop_in, drop_wanted}
use Rattle.tree_ops.specs.Edits.{EditsFound, stream_edit}
use Rattle.tree_ops.specs.Wanted.{machine_on}
use Rattle.tree_ops.specs.declared.streams.StreamEdit.TheVariants as s
use Rattle.tree_ops.proofs.FileEditBy.{IsFileEditBy, StagesFile}
use Rattle.tree_ops.proofs.StreamBy.{FindsStream, edited-file, edited-so, edited-stream, stream-found, stream-refused, stream_of_found}
use Rattle.tree_ops.proofs.Judged.{can-file, if_can, last-can, three-ways, with_at}
use Rattle.tree_ops.proofs.JudgedThere.{judge, judged, same-file}
use Rattle.tree_ops.proofs.RoomAsked.{extent-there, located-counted, value-there}

-- It is not built unless it is done in one of both ways.
parted : (cannot value alone extent one placed : Bool)
    → (cannot || not ((value && alone) || (extent && (one && (alone && placed)))))
    ≡ not (((not cannot && value) && alone) || ((not cannot && (extent && (one && alone))) && placed))
parted true value alone extent one placed = refl
parted false value alone false one placed = refl
parted false value alone true false placed = refl
parted false value alone true true placed = refl

built-so : (cannot value alone : Bool) → ((not cannot && value) && alone) ≡ true → (value && alone) ≡ true
built-so true value alone e = cc
built-so false value alone e = e

extent-so : (cannot extent one alone placed : Bool) → ((not cannot && (extent && (one && alone))) && placed) ≡ true
    → (extent && (one && (alone && placed))) ≡ true
extent-so true extent one alone placed e = cc
extent-so false false one alone placed e = cc
extent-so false true false alone placed e = cc
extent-so false true true alone placed e = e

module _ (facts : Facts) (view : VolumeView) (opens : List OpenEntry) (now session : ℕ) (path : List (List ℕ)) (name : List ℕ)
    (tells : TellsFacts view facts) where
  abbrev m : Machine
  m = machine_on view opens now

  abbrev command : Command
  command = c.Rmstream path name

  abbrev at : Found → Located
  at found = stream_of_found view name found

  abbrev cannot : Found → Bool
  cannot found = cannot_edit (is_whole_table view) (read view) (found_file found)

  abbrev goes : Found → Bool
  goes found = can_drop view name (found_file found)

  abbrev gives : Found → Bool
  gives found = can_give view name (found_file found) && has_placed_bits view

  abbrev can : Found → Bool
  can found = goes found || gives found

  abbrev dir : Found → Bool
  dir found = (length name == 0) && is_directory (at found).node

  -- whether it is a value, of a file without a list
  abbrev value : Found → Bool
  value found = is_some (stream_value (stream_parts view (read view) (at found)))

  abbrev alone : Found → Bool
  alone found = has_no_list view (found_file found)

  -- .. or lies in clusters, in one part
  abbrev extent : Found → Bool
  extent found = in_extent (first_part (stream_parts view (read view) (at found)))

  abbrev one : Found → Bool
  one found = length (stream_parts view (read view) (at found)) == 1

  room : (found : Found) → can found ≡ true → facts.no_room m command (at found) ≡ None
  room found is = elim (or_cases (goes found) (gives found) is) [
    | inl goes ↦
        let built = built-so (cannot found) (value found) (alone found) goes in
        let there = value-there view (read view) (at found) (and_parts (value found) (alone found) built).0 in
        tells.no_room m command (at found)
        ∙ value-room view (read view) command (at found) refl refl (located-counted view (read view) (at found) refl there) there
    | inr gives ↦
        let built = extent-so (cannot found) (extent found) (one found) (alone found) (has_placed_bits view) gives in
        let there = extent-there view (read view) (at found) (and_parts (extent found) _ built).0 in
        tells.no_room m command (at found)
        ∙ value-room view (read view) command (at found) refl refl (located-counted view (read view) (at found) refl there) there
  ]

  -- the refusal that is due; nothing is too big
  refusal-is : (found : Found) → refusal facts m session command (subject_of command) (at found)
      ≡ judge (at found).content (dir found) false (shared m command (at found)) (not (can found)) (facts.no_room m command (at found))
  refusal-is found =
      let w = tells.whole_table in
      let o = tells.built_for m command (at found) in
      let both : (cannot_edit facts.whole_table (read view) (found_file found) || not (facts.built_for m command (at found)))
      ≡ not (can found) =
      ap (λ b. cannot_edit b (read view) (found_file found) || not (facts.built_for m command (at found))) w
      ∙ ap (λ b. cannot found || not b) (o ∙ three-ways view (read view) command (at found) refl)
      ∙ parted (cannot found) (value found) (alone found) (extent found) (one found) (has_placed_bits view) in
      ap (λ b. judge (at found).content (dir found) false (shared m command (at found)) b (facts.no_room m command (at found))) both

  outcome-is : (found : Found) → resolve (read view) path ≡ Ok found
      → outcome facts m session command ≡ with_at (at found) (drop_in view opens name (found_file found))
  unfolding outcome locate
  outcome-is found e =
      ap (λ r. and_then (and_then (and_then r (λ f. Ok (at_found (read view) f))) (λ x. Ok (with_stream (read view) name x)))
      (λ x. unless (refusal facts m session command (subject_of command) x) x)) e
      ∙ ap (λ o. unless o (at found)) (refusal-is found)
      ∙ judged (at found) (at found).content (dir found) false (shared m command (at found)) (not (can found))
      (facts.no_room m command (at found)) (if_can (can found) (found_file found))
      (last-can (at found) (found_file found) (can found) (facts.no_room m command (at found)) (room found))

  path-refused : (why : No) → resolve (read view) path ≡ Err why → outcome facts m session command ≡ Err why
  unfolding outcome locate
  path-refused why e = rw e refl

  same : (found : Found) (file : ℕ) → drop_in view opens name (found_file found) ≡ Ok file → found_file found ≡ file
  same found file is =
      same-file (at found).content (dir found) false (shared m command (at found)) (if_can (can found) (found_file found))
      (found_file found) file (can-file (can found) (found_file found) file) is

  pub drop-found : (file : ℕ) → drop_wanted view opens path name ≡ Ok file → FindsStream facts view m session command name file
  drop-found file is =
      stream-found facts view opens now session command path name (λ file. drop_in view opens name file) same outcome-is path-refused
      file is

  pub drop-refused : (refused : No) → drop_wanted view opens path name ≡ Err refused → due facts m session command ≡ Err refused
  drop-refused refused is =
      stream-refused facts view opens now session command path name (λ file. drop_in view opens name file) same outcome-is path-refused
      refused is

-- WHAT IS GONE is what the command stages, by the stream that was found.
drop-staged : (facts : Facts) (view new : VolumeView) (opens : List OpenEntry) (now session : ℕ) (path : List (List ℕ)) (name : List ℕ)
    (file : ℕ)
    → (p : EditsFound s.Remove view new file name now)
    → (x : FindsStream facts view (machine_on view opens now) session (c.Rmstream path name) name file)
    → StagesFile view opens now (c.Rmstream path name) x.leads.at file new
drop-staged facts view new opens now session path name file p x =
    edited-file s.Remove view new file name now p opens (c.Rmstream path name) x.leads.at
    (λ image written. edited-stream s.Remove view new file name now p (λ name. PutsStream view new file name None no_gain 0
    (touched now p.can.settable.can.node).times p.can.settable.can.node.flags) x.leads.at opens image written x.stream_is x.node_is
    (edited-so s.Remove view new file name now p))

-- IT IS THAT OF THE COMMAND
pub rmstream-by : (opens : List OpenEntry) (now session : ℕ) (path : List (List ℕ)) (name : List ℕ) (view : VolumeView)
    → IsFileEditBy view opens now session (c.Rmstream path name) (stream_edit s.Remove opens path name now)
unfolding opens_after
rmstream-by opens now session path name view = record {
  edits = refl;
  is = refl;
  found = λ told facts tells file is. (drop-found facts view opens now session path name tells file is).leads;
  refused = λ told facts tells why is. drop-refused facts view opens now session path name tells why is;
  stages = λ told facts tells file is new p.
      drop-staged facts view new opens now session path name file p (drop-found facts view opens now session path name tells file is);
  opens_stay = λ at. refl;
  moment_stays = λ at. refl;
  few = λ new file. omega arith;
}

-- WHAT IS DUE FOR `truncate`: where the stream that its path leads to is a value of a file without an attribute list, and can have so many
-- bytes, or moves into clusters for them, or lies in clusters, in one part, and gets no longer, or ends in its last cluster still, it is
-- done, unless there is no room for what it asks. Else it is refused so.
use Rattle.std.proofs.Common.{◌≡◌, ◌⊎◌, ◌==◌, ◌&&◌, ◌||◌, ℕ, Bool, true, false, List, not, length, Option, Some, None, Ok, Err}
use Rattle.std.proofs.Common.{inl, inr, refl, sym, ap, subst, ◌∙◌, arith}
use Rattle.std.specs.Prelude.{if◌then◌else◌, is_some, option_and_then}
use Rattle.std.proofs.lemmas.Bool.{and_parts}
use Rattle.volume_def.specs.Table.{cluster_bytes}
use Rattle.volume_def.specs.Values.{first_part}
use Rattle.volume_def.specs.View.{VolumeView}
use Rattle.tree_model.specs.Answers.{bytes_at}
use Rattle.tree_model.specs.Bill.{grows}
use Rattle.tree_model.specs.Cases.{is_bad_stream_name, is_far, shared}
use Rattle.tree_model.specs.Effects.{opens_after, touched}
use Rattle.tree_model.specs.Facts.{TellsFacts, is_whole_table}
use Rattle.tree_model.specs.Paths.{and_then, found_file, resolve}
use Rattle.tree_model.specs.Reading.{read}
use Rattle.tree_model.specs.Refusals.{Facts, outcome, refusal, unless}
use Rattle.tree_model.specs.Staging.{cannot_edit}
use Rattle.tree_model.specs.Ways.{can_leave, ends_in_last, fits_in_record, gets_no_longer, has_no_list, has_placed_bits, in_extent}
use Rattle.tree_model.specs.Step.{due}
use Rattle.tree_model.specs.StreamRoom.{new_clusters, stream_parts, stream_value}
use Rattle.tree_model.specs.Subjects.{Located, Machine, at_found, content_named, is_directory, locate, stream_name, subject_of, with_stream}
use Rattle.tree_model.specs.declared.command.Command.{Command}
use Rattle.tree_model.specs.declared.command.Command.TheVariants as c
use Rattle.tree_model.specs.declared.opens.OpenEntry.{OpenEntry}
use Rattle.tree_model.specs.declared.reply.No.{No}
use Rattle.tree_model.specs.declared.tree.Found.{Found}
use Rattle.made_done.specs.Below.{ResizesStream}
use Rattle.made_done.proofs.Below.{value-room}
use Rattle.edit_def.specs.OneFile.{no_room_alone}
use Rattle.stream_changes.specs.Below.{can_end_there, can_resize, resize_in, resize_wanted, room_to_resize}
use Rattle.tree_ops.specs.Edits.{EditsFound, can_edit_so, stream_edit}
use Rattle.tree_ops.specs.Wanted.{machine_on}
use Rattle.tree_ops.specs.declared.streams.StreamEdit.TheVariants as s
use Rattle.tree_ops.proofs.FileEditBy.{IsFileEditBy, StagesFile}
use Rattle.tree_ops.proofs.StreamBy.{FindsStream, edited-file, edited-so, edited-stream, stream-found, stream-refused, stream_of_found}
use Rattle.tree_ops.proofs.StreamFound.{bytes-so}
use Rattle.tree_ops.proofs.Judged.{asked-file, either-placed, if_asked, judge, judged, last-asked, moved, or-either, same-file}
use Rattle.tree_ops.proofs.Judged.{three-ways, turned, with_at}
use Rattle.tree_ops.proofs.RoomAsked.{asked-if, extent-there, located-counted, value-there}

-- It is not built unless it is done in one of both ways.
parted : (cannot value alone fits extent one placed short leaves : Bool)
    → (cannot || not (((value && alone) && fits) || (((extent && (one && (alone && placed))) && short)
    || ((value && alone) && (not ((value && alone) && fits) && (leaves && placed))))))
    ≡ not ((((not cannot && value) && alone) && fits) || ((((not cannot && (extent && (one && alone))) && short)
    || (((not cannot && value) && alone) && (not (((not cannot && value) && alone) && fits) && leaves))) && placed))
parted true value alone fits extent one placed short leaves = refl
parted false value alone fits extent one placed short leaves =
    ap (λ b. not (((value && alone) && fits) || b))
    (ap (λ b. b || ((value && alone) && (not ((value && alone) && fits) && (leaves && placed)))) (turned extent one alone placed short)
    ∙ ap (λ b. (((extent && (one && alone)) && short) && placed) || b)
    (moved (value && alone) (not ((value && alone) && fits)) leaves placed)
    ∙ either-placed ((extent && (one && alone)) && short) ((value && alone) && (not ((value && alone) && fits) && leaves)) placed)

built-so : (cannot value alone fits : Bool) → (((not cannot && value) && alone) && fits) ≡ true → ((value && alone) && fits) ≡ true
built-so true value alone fits e = cc
built-so false value alone fits e = e

-- in clusters it lies there, or is a value that moves
lies-or_moves : (cannot value alone fits extent one placed short leaves : Bool)
    → ((((not cannot && (extent && (one && alone))) && short)
    || (((not cannot && value) && alone) && (not (((not cannot && value) && alone) && fits) && leaves))) && placed) ≡ true
    → (extent ≡ true) ⊎ (value ≡ true)
lies-or_moves cannot value alone fits true one placed short leaves is = inl refl
lies-or_moves cannot true alone fits false one placed short leaves is = inr refl
lies-or_moves true false alone fits false one placed short leaves is = cc
lies-or_moves false false alone fits false one placed short leaves is = cc

module _ (facts : Facts) (view : VolumeView) (opens : List OpenEntry) (now session : ℕ) (path : List (List ℕ)) (stream : Option (List ℕ))
    (size : ℕ) (tells : TellsFacts view facts) where
  abbrev m : Machine
  m = machine_on view opens now

  abbrev command : Command
  command = c.Truncate path stream size

  abbrev name : List ℕ
  name = stream_name stream

  abbrev at : Found → Located
  at found = stream_of_found view name found

  abbrev cannot : Found → Bool
  cannot found = cannot_edit (is_whole_table view) (read view) (found_file found)

  abbrev can : Found → Bool
  can found = can_resize view name size (found_file found)

  abbrev asked : Found → Option No
  asked found = room_to_resize view name size (found_file found)

  abbrev dir : Found → Bool
  dir found = (length name == 0) && is_directory (at found).node

  -- whether it is a value, of a file without a list, and can be as long
  abbrev value : Found → Bool
  value found = is_some (stream_value (stream_parts view (read view) (at found)))

  abbrev alone : Found → Bool
  alone found = has_no_list view (found_file found)

  abbrev fits : Found → Bool
  fits found =
      gets_no_longer size (at found).content || fits_in_record view (found_file found) (stream_parts view (read view) (at found)) size

  -- .. or lies in clusters, in one part, and gets no longer, or ends in its last cluster still, or moves there
  abbrev cut : Found → Bool
  cut found = can_end_there view name size (found_file found) && has_placed_bits view

  abbrev extent : Found → Bool
  extent found = in_extent (first_part (stream_parts view (read view) (at found)))

  abbrev one : Found → Bool
  one found = length (stream_parts view (read view) (at found)) == 1

  abbrev short : Found → Bool
  short found =
      gets_no_longer size (at found).content
      || ends_in_last (cluster_bytes view.layout) (stream_parts view (read view) (at found)) size

  abbrev leaves : Found → Bool
  leaves found = can_leave view (found_file found) (stream_parts view (read view) (at found)) size
      (new_clusters (cluster_bytes view.layout) (stream_parts view (read view) (at found)) 0 0)

  -- the room that is asked for, of a stream that gets longer
  abbrev asked_of : Found → Option No
  asked_of found = option_and_then (no_room_alone view (found_file found))
      (if grows size (at found).content then Some (new_clusters (cluster_bytes view.layout) (stream_parts view (read view) (at found)) 0 0)
      else None)

  asked-so : (found : Found) → asked_of found ≡ asked found
  asked-so found =
      asked-if (no_room_alone view (found_file found)) (grows size (at found).content)
      (new_clusters (cluster_bytes view.layout) (stream_parts view (read view) (at found)) 0 0)

  -- where the stream is there, this is asked
  asked-there : (found : Found) → is_some (content_named (read view) (at found).stream (at found).node) ≡ true
      → facts.no_room m command (at found) ≡ asked found
  asked-there found there =
      tells.no_room m command (at found)
      ∙ value-room view (read view) command (at found) refl refl (located-counted view (read view) (at found) refl there) there
      ∙ asked-so found

  extent-room : (found : Found) → cut found ≡ true → facts.no_room m command (at found) ≡ asked found
  extent-room found is =
      asked-there found (elim (lies-or_moves (cannot found) (value found) (alone found) (fits found) (extent found) (one found)
      (has_placed_bits view) (short found) (leaves found) is) [
        | inl lies ↦ extent-there view (read view) (at found) lies
        | inr moves ↦ value-there view (read view) (at found) moves
      ])

  value-asks : (found : Found) → can found ≡ true → facts.no_room m command (at found) ≡ asked found
  value-asks found is =
      let built = built-so (cannot found) (value found) (alone found) (fits found) is in
      let both = (and_parts (value found && alone found) (fits found) built).0 in
      asked-there found (value-there view (read view) (at found) (and_parts (value found) (alone found) both).0)

  room : (found : Found) → (can found || cut found) ≡ true → facts.no_room m command (at found) ≡ asked found
  room found is = or-either (can found) (cut found) (value-asks found) (extent-room found) is

  -- the refusal that is due
  refusal-is : (found : Found) → refusal facts m session command (subject_of command) (at found)
      ≡ judge (at found).content (is_bad_stream_name name) (dir found) (is_far size) (shared m command (at found))
      (not (can found || cut found))
      (facts.no_room m command (at found))
  refusal-is found =
      let w = tells.whole_table in
      let o = tells.built_for m command (at found) in
      let both : (cannot_edit facts.whole_table (read view) (found_file found) || not (facts.built_for m command (at found)))
      ≡ not (can found || cut found) =
      ap (λ b. cannot_edit b (read view) (found_file found) || not (facts.built_for m command (at found))) w
      ∙ ap (λ b. cannot found || not b) (o ∙ three-ways view (read view) command (at found) refl)
      ∙ parted (cannot found) (value found) (alone found) (fits found) (extent found) (one found)
      (has_placed_bits view) (short found) (leaves found) in
      ap (λ b. judge (at found).content (is_bad_stream_name name) (dir found) (is_far size) (shared m command (at found)) b
      (facts.no_room m command (at found))) both

  outcome-is : (found : Found) → resolve (read view) path ≡ Ok found
      → outcome facts m session command ≡ with_at (at found) (resize_in view opens name size (found_file found))
  unfolding outcome locate
  outcome-is found e =
      ap (λ r. and_then (and_then (and_then r (λ f. Ok (at_found (read view) f))) (λ x. Ok (with_stream (read view) name x)))
      (λ x. unless (refusal facts m session command (subject_of command) x) x)) e
      ∙ ap (λ o. unless o (at found)) (refusal-is found)
      ∙ judged (at found) (at found).content (is_bad_stream_name name) (dir found) (is_far size) (shared m command (at found))
      (not (can found || cut found)) (facts.no_room m command (at found))
      (if_asked (can found || cut found) (asked found) (found_file found))
      (last-asked (at found) (found_file found) (can found || cut found) (facts.no_room m command (at found)) (asked found) (room found))

  path-refused : (why : No) → resolve (read view) path ≡ Err why → outcome facts m session command ≡ Err why
  unfolding outcome locate
  path-refused why e = rw e refl

  same : (found : Found) (file : ℕ) → resize_in view opens name size (found_file found) ≡ Ok file → found_file found ≡ file
  same found file is =
      same-file (at found).content (is_bad_stream_name name) (dir found) (is_far size) (shared m command (at found))
      (if_asked (can found || cut found) (asked found) (found_file found)) (found_file found) file
      (asked-file (can found || cut found) (asked found) (found_file found) file) is

  pub resize-found : (file : ℕ) → resize_wanted view opens path name size ≡ Ok file → FindsStream facts view m session command name file
  resize-found file is =
      stream-found facts view opens now session command path name (λ file. resize_in view opens name size file) same outcome-is path-refused
      file is

  pub resize-refused : (refused : No) → resize_wanted view opens path name size ≡ Err refused → due facts m session command ≡ Err refused
  resize-refused refused is =
      stream-refused facts view opens now session command path name
      (λ file. resize_in view opens name size file) same outcome-is path-refused
      refused is

-- WHAT HAS ANOTHER LENGTH is what the command stages, by the stream that was found.
resize-staged : (facts : Facts) (view new : VolumeView) (opens : List OpenEntry) (now session : ℕ) (path : List (List ℕ))
    (stream : Option (List ℕ)) (size file : ℕ)
    → (p : EditsFound (s.Resize size) view new file (stream_name stream) now)
    → (x : FindsStream facts view (machine_on view opens now) session (c.Truncate path stream size) (stream_name stream) file)
    → StagesFile view opens now (c.Truncate path stream size) x.leads.at file new
resize-staged facts view new opens now session path stream size file p x =
    let asked = stream_name stream in
    let what = s.Resize size in
    let held = bytes-so view p.found asked (λ f. can_edit_so what view asked p.found.way f) p.can file p.file_is x.leads.at x.content_is in
    edited-file what view new file asked now p opens (c.Truncate path stream size) x.leads.at
    (λ image written. edited-stream what view new file asked now p (λ name. ResizesStream view new file name size (bytes_at x.leads.at)
    (touched now p.can.settable.can.node).times p.can.settable.can.node.flags) x.leads.at opens image written x.stream_is x.node_is
    (subst (λ bytes. ResizesStream view new file p.can.stream.is.part.name size bytes (touched now p.can.settable.can.node).times
    p.can.settable.can.node.flags) (sym held) (edited-so what view new file asked now p)))

-- IT IS THAT OF THE COMMAND
pub truncate-by : (opens : List OpenEntry) (now session : ℕ) (path : List (List ℕ)) (stream : Option (List ℕ)) (size : ℕ)
    (view : VolumeView)
    → IsFileEditBy view opens now session (c.Truncate path stream size) (stream_edit (s.Resize size) opens path (stream_name stream) now)
unfolding opens_after
truncate-by opens now session path stream size view = record {
  edits = refl;
  is = refl;
  found = λ told facts tells file is. (resize-found facts view opens now session path stream size tells file is).leads;
  refused = λ told facts tells why is. resize-refused facts view opens now session path stream size tells why is;
  stages = λ told facts tells file is new p.
      resize-staged facts view new opens now session path stream size file p
      (resize-found facts view opens now session path stream size tells file is);
  opens_stay = λ at. refl;
  moment_stays = λ at. refl;
  few = λ new file. omega arith;
}

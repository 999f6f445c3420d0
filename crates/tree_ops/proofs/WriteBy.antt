-- WHAT IS DUE FOR `write`: where its bytes go over bytes of the stream that its path leads to, or that is a value which can be as long as
-- they need, it is done, unless there is no room for what it asks, and else refused so.
use Rattle.std.proofs.Common.{◌≡◌, ◌⊎◌, ◌==◌, ◌&&◌, ◌||◌, ◌+◌, ℕ, Bool, true, false, List, not, length, Option, None, Ok, Err}
use Rattle.std.proofs.Common.{inl, inr, refl, sym, ap, subst, ◌∙◌, arith, if◌then◌else◌}
use Rattle.std.specs.Borrow.{Bor}
use Rattle.std.specs.Prelude.{is_some, nat_le}
use Rattle.std.proofs.lemmas.Bool.{and_parts, not-true}
use Rattle.volume_def.specs.Table.{cluster_bytes}
use Rattle.volume_def.specs.Files.{Part}
use Rattle.volume_def.specs.Values.{first_part}
use Rattle.volume_def.specs.View.{VolumeView}
use Rattle.tree_model.specs.Answers.{bytes_at}
use Rattle.tree_model.specs.Cases.{is_bad_stream_name, is_wide, shared}
use Rattle.tree_model.specs.Effects.{opens_after, touched}
use Rattle.tree_model.specs.Facts.{TellsFacts, is_whole_table}
use Rattle.tree_model.specs.Paths.{and_then, found_file, resolve}
use Rattle.tree_model.specs.Reading.{read}
use Rattle.tree_model.specs.Refusals.{Facts, outcome, refusal, unless}
use Rattle.tree_model.specs.Staging.{cannot_edit}
use Rattle.tree_model.specs.Ways.{can_leave, can_reach, fits_in_record, gets_no_longer, has_free_run}
use Rattle.tree_model.specs.Ways.{has_no_list, has_placed_bits, in_extent}
use Rattle.tree_model.specs.Step.{due}
use Rattle.tree_model.specs.StreamRoom.{goes_over, is_in_place, new_clusters, stream_parts, stream_value, stream_value_len}
use Rattle.tree_model.specs.Subjects.{Located, Machine, at_found, content_named, is_directory, locate, stream_name, subject_of, with_stream}
use Rattle.tree_model.specs.Tree.{node_of}
use Rattle.tree_model.specs.declared.command.Command.{Command}
use Rattle.tree_model.specs.declared.command.Command.TheVariants as c
use Rattle.tree_model.specs.declared.opens.OpenEntry.{OpenEntry}
use Rattle.tree_model.specs.declared.reply.No.{No}
use Rattle.tree_model.specs.declared.tree.Found.{Found}
use Rattle.made_done.specs.Below.{PutsBytes}
use Rattle.made_done.specs.Written.{PutsInStream}
use Rattle.made_done.proofs.Below.{has-room, value-room}
use Rattle.stream_changes.specs.Below.{Way, can_go_behind, can_reach_there, can_resize, can_write, can_write_over, named_in, room_to_reach}
use Rattle.stream_changes.specs.Below.{room_to_write, write_in, write_wanted}
use Rattle.stream_changes.specs.Below as way
use Rattle.stream_changes.specs.Streams.{WritesSo}
use Rattle.edit_def.specs.OneFile.{no_room_alone}
use Rattle.tree_read.specs.Nodes.{number_of}
use Rattle.tree_ops.specs.Edits.{EditsFound, can_edit_so, stream_edit}
use Rattle.tree_ops.specs.Wanted.{machine_on}
use Rattle.tree_ops.specs.declared.streams.StreamEdit.TheVariants as s
use Rattle.tree_ops.proofs.EditBy.{state_with}
use Rattle.tree_ops.proofs.FileEditBy.{IsFileEditBy}
use Rattle.tree_ops.proofs.Judged.{can-of, either-placed, if_written_by, judge, judged, last-written, moved, same-file, three-ways}
use Rattle.tree_ops.proofs.Judged.{turned, with_at, written-file}
use Rattle.tree_ops.proofs.RoomAsked.{asked-unless, extent-there, located-counted, not-within, parts-at, value-there}
use Rattle.tree_ops.proofs.StreamBy.{FindsStream, edited-file, edited-so, edited-stream, stream-found, stream-refused, stream_of_found}
use Rattle.tree_ops.proofs.StreamFound.{bytes-so, spelt-so, tellable-so, there-so}

-- It is not built unless it is done in one of the three ways.
pub parted : (cannot over value alone fits extent one placed reaches begins leaves : Bool)
    → (cannot || not (over || ((not over && ((value && alone) && fits))
    || (not over && (((extent && (one && (alone && placed))) && reaches)
    || (begins && ((value && alone) && (not ((value && alone) && fits) && (leaves && placed)))))))))
    ≡ not ((not cannot && over) || ((((not cannot && value) && alone) && fits)
    || ((((not cannot && (extent && (one && alone))) && reaches)
    || (begins && (((not cannot && value) && alone) && (not (((not cannot && value) && alone) && fits) && leaves)))) && placed)))
parted true over value alone fits extent one placed reaches true leaves = refl
parted true over value alone fits extent one placed reaches false leaves = refl
parted false true value alone fits extent one placed reaches begins leaves = refl
parted false false value alone fits extent one placed reaches begins leaves =
    ap (λ b. not (((value && alone) && fits) || b))
    (ap (λ b. b || (begins && ((value && alone) && (not ((value && alone) && fits) && (leaves && placed)))))
    (turned extent one alone placed reaches)
    ∙ ap (λ b. (((extent && (one && alone)) && reaches) && placed) || b)
    (begins-moved begins (value && alone) (not ((value && alone) && fits)) leaves placed)
    ∙ either-placed ((extent && (one && alone)) && reaches)
    (begins && ((value && alone) && (not ((value && alone) && fits) && leaves))) placed)
  where
    begins-moved : (begins value other leaves placed : Bool)
        → (begins && (value && (other && (leaves && placed)))) ≡ ((begins && (value && (other && leaves))) && placed)
    begins-moved false value other leaves placed = refl
    begins-moved true value other leaves placed = moved value other leaves placed

pub record-so : (cannot over value alone fits : Bool) → (not cannot && over) ≡ false → (((not cannot && value) && alone) && fits) ≡ true
    → (not over && ((value && alone) && fits)) ≡ true
record-so true over value alone fits other is = cc
record-so false true value alone fits other is = cc
record-so false false value alone fits other is = is

-- a stream into which bytes go in clusters lies there, or is a value
pub lies-or_moves : (cannot value alone fits extent one placed reaches begins leaves : Bool)
    → ((((not cannot && (extent && (one && alone))) && reaches)
    || (begins && (((not cannot && value) && alone) && (not (((not cannot && value) && alone) && fits) && leaves)))) && placed) ≡ true
    → (extent ≡ true) ⊎ (value ≡ true)
lies-or_moves cannot value alone fits true one placed reaches begins leaves is = inl refl
lies-or_moves cannot true alone fits false one placed reaches begins leaves is = inr refl
lies-or_moves true false alone fits false one placed reaches true leaves is = cc
lies-or_moves true false alone fits false one placed reaches false leaves is = cc
lies-or_moves false false alone fits false one placed reaches true leaves is = cc
lies-or_moves false false alone fits false one placed reaches false leaves is = cc

-- what can be edited, and is not gone over, has other bytes there
none-over : (cannot over value alone fits : Bool) → (not (not cannot && over) && (((not cannot && value) && alone) && fits)) ≡ true
    → over ≡ false
none-over true over value alone fits e = cc
none-over false true value alone fits e = cc
none-over false false value alone fits e = refl

none-over_there : (cannot over extent reaches : Bool) → (not (not cannot && over) && ((not cannot && extent) && reaches)) ≡ true
    → over ≡ false
none-over_there true over extent reaches e = cc
none-over_there false true extent reaches e = cc
none-over_there false false extent reaches e = refl

none-over_moving : (cannot over begins value alone rest last : Bool)
    → (not (not cannot && over) && ((begins && (((not cannot && value) && alone) && rest)) && last)) ≡ true → over ≡ false
none-over_moving cannot false begins value alone rest last e = refl
none-over_moving true true true value alone rest last e = cc
none-over_moving true true false value alone rest last e = cc
none-over_moving false true begins value alone rest last e = cc

module _ (facts : Facts) (view : VolumeView) (opens : List OpenEntry) (now session : ℕ) (path : List (List ℕ)) (stream : Option (List ℕ))
    (from : ℕ) (bytes : List ℕ) (tells : TellsFacts view facts) where
  abbrev m : Machine
  m = machine_on view opens now

  abbrev command : Command
  command = c.Write path stream from bytes

  abbrev name : List ℕ
  name = stream_name stream

  abbrev len : ℕ
  len = length bytes

  abbrev at : Found → Located
  at found = stream_of_found view name found

  abbrev cannot : Found → Bool
  cannot found = cannot_edit (is_whole_table view) (read view) (found_file found)

  abbrev dir : Found → Bool
  dir found = (length name == 0) && is_directory (at found).node

  -- whether the bytes go over bytes; or else it is a value, of a file without a list, and can be as long
  abbrev goes : Found → Bool
  goes found = goes_over (cluster_bytes view.layout) (stream_parts view (read view) (at found)) from len

  abbrev value : Found → Bool
  value found = is_some (stream_value (stream_parts view (read view) (at found)))

  abbrev alone : Found → Bool
  alone found = has_no_list view (found_file found)

  abbrev fits : Found → Bool
  fits found =
      gets_no_longer (from + len) (at found).content
      || fits_in_record view (found_file found) (stream_parts view (read view) (at found)) (from + len)

  -- .. or lies in clusters, in one part, and can take what they need
  abbrev extent : Found → Bool
  extent found = in_extent (first_part (stream_parts view (read view) (at found)))

  abbrev one : Found → Bool
  one found = length (stream_parts view (read view) (at found)) == 1

  abbrev reaches : Found → Bool
  reaches found = can_reach view (found_file found) (stream_parts view (read view) (at found)) from len

  -- .. or is a value that can leave its record for them
  abbrev begins : Found → Bool
  begins found = nat_le from (stream_value_len (stream_parts view (read view) (at found)))

  abbrev leaves : Found → Bool
  leaves found = can_leave view (found_file found) (stream_parts view (read view) (at found)) (from + len)
      (new_clusters (cluster_bytes view.layout) (stream_parts view (read view) (at found)) from len)

  abbrev over : Found → Bool
  over found = can_write_over view name from len (found_file found)

  abbrev can : Found → Bool
  can found = can_resize view name (from + len) (found_file found)

  abbrev reach : Found → Bool
  reach found = can_reach_there view name from len (found_file found) && has_placed_bits view

  abbrev asked : Found → Option No
  asked found = room_to_write view name from len (found_file found)

  abbrev behind : Found → Option No
  behind found = room_to_reach view name from len (found_file found)

  no-room : (found : Found) → over found ≡ true → facts.no_room m command (at found) ≡ None
  no-room found is =
      tells.no_room m command (at found) ∙ has-room view (read view) command (at found) refl refl (can-of (cannot found) (goes found) is)

  -- the room that is asked for, where the bytes do not end within the stream
  abbrev within : Found → Bool
  within found = is_in_place (cluster_bytes view.layout) (stream_parts view (read view) (at found)) from len

  abbrev unless_within : Found → Bool → Option No
  unless_within found inside = if inside then None
      else no_room_alone view (found_file found)
      (new_clusters (cluster_bytes view.layout) (stream_parts view (read view) (at found)) from len)

  asked-of : (found : Found) → is_some (at found).content ≡ true → facts.no_room m command (at found) ≡ unless_within found (within found)
  asked-of found there =
      tells.no_room m command (at found)
      ∙ value-room view (read view) command (at found) refl refl (located-counted view (read view) (at found) refl there) there
      ∙ asked-unless (no_room_alone view (found_file found)) (within found)
      (new_clusters (cluster_bytes view.layout) (stream_parts view (read view) (at found)) from len)

  room : (found : Found) → over found ≡ false → can found ≡ true → facts.no_room m command (at found) ≡ asked found
  room found other is =
      let built = record-so (cannot found) (goes found) (value found) (alone found) (fits found) other is in
      let parts = and_parts (not (goes found)) ((value found && alone found) && fits found) built in
      let both = (and_parts (value found && alone found) (fits found) parts.1).0 in
      let its = (and_parts (value found) (alone found) both).0 in
      asked-of found (value-there view (read view) (at found) its)
      ∙ ap (unless_within found) (not-within (cluster_bytes view.layout) (stream_parts view (read view) (at found)) from len its
      (not-true (goes found) parts.0))

  behind-room : (found : Found) → over found ≡ false → reach found ≡ true → facts.no_room m command (at found) ≡ behind found
  behind-room found other is =
      asked-of found (elim (lies-or_moves (cannot found) (value found) (alone found) (fits found) (extent found) (one found)
      (has_placed_bits view) (reaches found) (begins found) (leaves found) is) [
        | inl lies ↦ extent-there view (read view) (at found) lies
        | inr moves ↦ value-there view (read view) (at found) moves
      ])

  -- the refusal that is due
  refusal-is : (found : Found) → refusal facts m session command (subject_of command) (at found)
      ≡ judge (at found).content (is_bad_stream_name name) (dir found) (is_wide from len) (shared m command (at found))
      (not (over found || (can found || reach found))) (facts.no_room m command (at found))
  refusal-is found =
      let w = tells.whole_table in
      let o = tells.built_for m command (at found) in
      let both : (cannot_edit facts.whole_table (read view) (found_file found) || not (facts.built_for m command (at found)))
      ≡ not (over found || (can found || reach found)) =
      ap (λ b. cannot_edit b (read view) (found_file found) || not (facts.built_for m command (at found))) w
      ∙ ap (λ b. cannot found || not b) (o ∙ three-ways view (read view) command (at found) refl)
      ∙ parted (cannot found) (goes found) (value found) (alone found) (fits found)
      (extent found) (one found) (has_placed_bits view) (reaches found) (begins found) (leaves found) in
      ap (λ b. judge (at found).content (is_bad_stream_name name) (dir found) (is_wide from len) (shared m command (at found)) b
      (facts.no_room m command (at found))) both

  outcome-is : (found : Found) → resolve (read view) path ≡ Ok found
      → outcome facts m session command ≡ with_at (at found) (write_in view opens name from len (found_file found))
  unfolding outcome locate
  outcome-is found e =
      ap (λ r. and_then (and_then (and_then r (λ f. Ok (at_found (read view) f))) (λ x. Ok (with_stream (read view) name x)))
      (λ x. unless (refusal facts m session command (subject_of command) x) x)) e
      ∙ ap (λ o. unless o (at found)) (refusal-is found)
      ∙ judged (at found) (at found).content (is_bad_stream_name name) (dir found) (is_wide from len) (shared m command (at found))
      (not (over found || (can found || reach found))) (facts.no_room m command (at found))
      (if_written_by (over found) (can found) (reach found) (asked found) (behind found) (found_file found))
      (last-written (at found) (found_file found) (over found) (can found) (reach found) (facts.no_room m command (at found)) (asked found)
      (behind found) (no-room found) (room found) (behind-room found))

  path-refused : (why : No) → resolve (read view) path ≡ Err why → outcome facts m session command ≡ Err why
  unfolding outcome locate
  path-refused why e = rw e refl

  same : (found : Found) (file : ℕ) → write_in view opens name from len (found_file found) ≡ Ok file → found_file found ≡ file
  same found file is =
      same-file (at found).content (is_bad_stream_name name) (dir found) (is_wide from len) (shared m command (at found))
      (if_written_by (over found) (can found) (reach found) (asked found) (behind found) (found_file found)) (found_file found) file
      (written-file (over found) (can found) (reach found) (asked found) (behind found) (found_file found) file) is

  pub write-found : (file : ℕ) → write_wanted view opens path name from len ≡ Ok file → FindsStream facts view m session command name file
  write-found file is =
      stream-found facts view opens now session command path name (λ file. write_in view opens name from len file) same outcome-is
      path-refused file is

  pub write-refused : (refused : No) → write_wanted view opens path name from len ≡ Err refused
      → due facts m session command ≡ Err refused
  write-refused refused is =
      stream-refused facts view opens now session command path name (λ file. write_in view opens name from len file) same outcome-is
      path-refused refused is

-- WHAT WAS WRITTEN is what a write of these bytes stages, by the stream that was found: over bytes in place, or into the value.
module _ (view new : VolumeView) (file : ℕ) (asked : List ℕ) (from : ℕ) (bytes : Bor (List ℕ)) (now : ℕ)
    (p : EditsFound (s.Write from bytes) view new file asked now) (at : Located) (at_file : at.file ≡ file) (at_stream : at.stream ≡ asked)
    (at_node : at.node ≡ node_of (read view) file) (at_content : at.content ≡ content_named (read view) asked (node_of (read view) file))
  where
    abbrev can_so : ℕ → Bool
    can_so f = can_edit_so (s.Write from bytes) view asked p.found.way f

    abbrev parts : List Part
    parts = stream_parts view (read view) at

    abbrev over_by : List Part → Bool
    over_by ps = goes_over (cluster_bytes view.layout) ps from (length bytes.now)

    abbrev number : ℕ
    number = number_of p.found.held

    abbrev cannot_so : Bool
    cannot_so = cannot_edit (is_whole_table view) (read view) number

    abbrev there : List Part
    there = stream_parts view (read view) (named_in (read view) asked number)

    -- the clusters that come for its bytes where it is a value
    abbrev new_count : ℕ
    new_count = new_clusters (cluster_bytes view.layout) there from (length bytes.now)

    parts-same : parts ≡ there
    parts-same = parts-at view asked number at (at_file ∙ sym p.file_is) at_stream (at_node ∙ ap (node_of (read view)) (sym p.file_is))

    abbrev WritesBy : Way → Type 0
    WritesBy w = WritesSo w from bytes.now view new file p.can.stream.is.part.name p.can.stream.bytes
        (touched now p.can.settable.can.node).times p.can.settable.can.node.flags

    pub puts-in : (opens : List OpenEntry) (image : List ℕ) (written : ℕ)
        → PutsInStream (over_by parts) (state_with image view opens now written) at file p.can.settable.can.node from bytes.now new
    puts-in opens image done = by p.found.way refl p.can.over (edited-so (s.Write from bytes) view new file asked now p)
      where
        in_place : (b : Bool) → b ≡ true → WritesBy way.InPlace
            → PutsInStream b (state_with image view opens now done) at file p.can.settable.can.node from bytes.now new
        in_place true e writes = record {
          name = p.can.stream.is.part.name;
          spelt_so = spelt-so view p.found asked can_so p.can file p.file_is at at_stream at_node;
          there = there-so view p.found asked can_so p.can file p.file_is;
          tellable = tellable-so view p.found asked can_so p.can file p.file_is;
          writes = writes;
        }
        in_place false e writes = cc

        other_bytes : (b : Bool) → b ≡ false → PutsBytes view new file p.can.stream.is.part.name from bytes.now p.can.stream.bytes
            (touched now p.can.settable.can.node).times p.can.settable.can.node.flags
            → PutsInStream b (state_with image view opens now done) at file p.can.settable.can.node from bytes.now new
        other_bytes true e puts = cc
        other_bytes false e puts =
            edited-stream (s.Write from bytes) view new file asked now p (λ name. PutsBytes view new file name from bytes.now (bytes_at at)
            (touched now p.can.settable.can.node).times p.can.settable.can.node.flags) at opens image done at_stream at_node
            (subst (λ held. PutsBytes view new file p.can.stream.is.part.name from bytes.now held
            (touched now p.can.settable.can.node).times p.can.settable.can.node.flags)
            (sym (bytes-so view p.found asked can_so p.can file p.file_is at at_content)) puts)

        by : (w : Way) → p.found.way ≡ w → can_write view asked from (length bytes.now) w number ≡ true → WritesBy w
            → PutsInStream (over_by parts) (state_with image view opens now done) at file p.can.settable.can.node from bytes.now new
        by way.InPlace e can writes = in_place (over_by parts) (ap over_by parts-same ∙ can-of cannot_so (over_by there) can) writes
        by way.InRecord e can puts =
            other_bytes (over_by parts)
            (ap over_by parts-same ∙ none-over cannot_so (over_by there) (is_some (stream_value there)) (has_no_list view number)
            (gets_no_longer (from + length bytes.now) (content_named (read view) asked (node_of (read view) number))
            || fits_in_record view number there (from + length bytes.now)) can) puts
        by way.InClusters e can puts =
            other_bytes (over_by parts)
            (ap over_by parts-same ∙ none-over_there cannot_so (over_by there)
            (in_extent (first_part there) && ((length there == 1) && has_no_list view number))
            (has_placed_bits view && can_go_behind view number there from (length bytes.now)) can) puts
        by way.IntoClusters e can puts =
            other_bytes (over_by parts)
            (ap over_by parts-same ∙ none-over_moving cannot_so (over_by there) (nat_le from (stream_value_len there))
            (is_some (stream_value there)) (has_no_list view number)
            (not (can_resize view asked (from + length bytes.now) number)
            && can_leave view number there (from + length bytes.now) new_count)
            (has_placed_bits view && has_free_run view new_count) can) puts

-- IT IS THAT OF THE COMMAND
pub write-by : (opens : List OpenEntry) (now session : ℕ) (path : List (List ℕ)) (stream : Option (List ℕ)) (from : ℕ)
    (bytes : Bor (List ℕ)) (view : VolumeView)
    → IsFileEditBy view opens now session (c.Write path stream from bytes.now)
    (stream_edit (s.Write from bytes) opens path (stream_name stream) now)
unfolding opens_after
write-by opens now session path stream from bytes view = record {
  edits = refl;
  is = refl;
  found = λ told facts tells file is. (write-found facts view opens now session path stream from bytes.now tells file is).leads;
  refused = λ told facts tells why is. write-refused facts view opens now session path stream from bytes.now tells why is;
  stages = λ told facts tells file is new p.
      let x = write-found facts view opens now session path stream from bytes.now tells file is in
      edited-file (s.Write from bytes) view new file (stream_name stream) now p opens (c.Write path stream from bytes.now) x.leads.at
      (puts-in view new file (stream_name stream) from bytes now p x.leads.at x.leads.file_is x.stream_is x.node_is x.content_is opens);
  opens_stay = λ at. refl;
  moment_stays = λ at. refl;
  few = λ new file. omega arith;
}

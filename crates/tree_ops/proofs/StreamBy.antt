-- AN EDIT OF A STREAM by its path: what is due where the path leads to a file is decided by that file, and what was found and edited is
-- what the command stages.
use Rattle.std.proofs.Common.{◌≡◌, ℕ, Bool, List, Result, Ok, Err, ap, refl, subst, ◌∙◌}
use Rattle.std.specs.Prelude.{slice_set}
use Rattle.volume_def.specs.View.{VolumeView}
use Rattle.tree_model.specs.Effects.{touched}
use Rattle.tree_model.specs.Paths.{and_then, found_file, resolve}
use Rattle.tree_model.specs.Reading.{read}
use Rattle.tree_model.specs.Refusals.{Facts, outcome}
use Rattle.tree_model.specs.Step.{answered, due}
use Rattle.tree_model.specs.Subjects.{Located, Machine, at_found, content_named, with_stream}
use Rattle.tree_model.specs.Tree.{node_of}
use Rattle.tree_model.specs.declared.command.Command.{Command}
use Rattle.tree_model.specs.declared.opens.OpenEntry.{OpenEntry}
use Rattle.tree_model.specs.declared.reply.No.{No}
use Rattle.tree_model.specs.declared.tree.Found.{Found}
use Rattle.made_done.specs.Written.{EditsStream, Stages}
use Rattle.tree_ops.specs.Edits.{EditsFound, EditsSo, can_edit_so}
use Rattle.tree_ops.specs.Wanted.{machine_on}
use Rattle.tree_ops.specs.declared.streams.StreamEdit.{StreamEdit}
use Rattle.tree_ops.proofs.EditBy.{state_with}
use Rattle.tree_ops.proofs.FileEditBy.{LeadsToFile, StagesFile}
use Rattle.tree_ops.proofs.StreamFound.{can-so, high-so, spelt-so, tellable-so, there-so}
use Rattle.tree_ops.proofs.Judged.{with_at}

-- THE FILE was found, and its stream is that of this name.
pub record FindsStream (facts : Facts) (view : VolumeView) (m : Machine) (session : ℕ) (command : Command) (name : List ℕ) (file : ℕ)
    : Type 0 where
  pub leads : LeadsToFile facts m session command file
  pub stream_is : leads.at.stream ≡ name
  pub node_is : leads.at.node ≡ node_of (read view) file
  pub content_is : leads.at.content ≡ content_named (read view) name (node_of (read view) file)

-- the stream of a file to which a path leads
abbrev pub stream_of_found : VolumeView → List ℕ → Found → Located
stream_of_found view name found = with_stream (read view) name (at_found (read view) found)

module _ (facts : Facts) (view : VolumeView) (opens : List OpenEntry) (now session : ℕ) (command : Command) (path : List (List ℕ))
    (name : List ℕ) (decided : ℕ → Result ℕ No)
    (same : (found : Found) (file : ℕ) → decided (found_file found) ≡ Ok file → found_file found ≡ file)
    (reached : (found : Found) → resolve (read view) path ≡ Ok found → outcome facts (machine_on view opens now) session command
    ≡ with_at (stream_of_found view name found) (decided (found_file found)))
    (unreached : (why : No) → resolve (read view) path ≡ Err why → outcome facts (machine_on view opens now) session command ≡ Err why)
  where
    abbrev m : Machine
    m = machine_on view opens now

    pub stream-found : (file : ℕ) → and_then (resolve (read view) path) (λ found. decided (found_file found)) ≡ Ok file
        → FindsStream facts view m session command name file
    stream-found file is = by (resolve (read view) path) refl is
      where
        by : (r : Result Found No) → resolve (read view) path ≡ r → and_then r (λ found. decided (found_file found)) ≡ Ok file
            → FindsStream facts view m session command name file
        by (Err why) e is = cc
        by (Ok found) e is = record {
          leads = record {
            at = stream_of_found view name found;
            is = reached found e ∙ ap (with_at (stream_of_found view name found)) is;
            file_is = same found file is;
          };
          stream_is = refl;
          node_is = ap (node_of (read view)) (same found file is);
          content_is = ap (λ f. content_named (read view) name (node_of (read view) f)) (same found file is);
        }

    pub stream-refused : (refused : No) → and_then (resolve (read view) path) (λ found. decided (found_file found)) ≡ Err refused
        → due facts m session command ≡ Err refused
    unfolding due
    stream-refused refused is = ap (answered facts m session command) (by (resolve (read view) path) refl is)
      where
        by : (r : Result Found No) → resolve (read view) path ≡ r → and_then r (λ found. decided (found_file found)) ≡ Err refused
            → outcome facts m session command ≡ Err refused
        by (Err why) e is = let same : why ≡ refused = cc in unreached why e ∙ ap Err same
        by (Ok found) e is = reached found e ∙ ap (with_at (stream_of_found view name found)) is

-- WHAT WAS EDITED, of a file that can be edited.
module _ (what : StreamEdit) (view new : VolumeView) (file : ℕ) (asked : List ℕ) (now : ℕ)
    (p : EditsFound what view new file asked now) where
  abbrev can_so : ℕ → Bool
  can_so f = can_edit_so what view asked p.found.way f

  -- the times are the file's, but those of the edit, and so are the flags
  pub edited-so : EditsSo what p.found.way view new file p.can.stream.is.part.name p.can.stream.bytes
      (touched now p.can.settable.can.node).times
      p.can.settable.can.node.flags
  edited-so =
      subst (λ flags. EditsSo what p.found.way view new file p.can.stream.is.part.name p.can.stream.bytes
      (touched now p.can.settable.can.node).times flags)
      p.can.flags
      (subst (λ times. EditsSo what p.found.way view new file p.can.stream.is.part.name p.can.stream.bytes
      (slice_set (slice_set times 1 now) 2 now) p.found.flags) p.can.settable.times p.edits)

  pub edited-file : (opens : List OpenEntry) (command : Command) (at : Located)
      → ((image : List ℕ) (written : ℕ) → Stages (state_with image view opens now written) command at file p.can.settable.can.node new)
      → StagesFile view opens now command at file new
  edited-file opens command at stages = record {
    node = p.can.settable.can.node;
    can = can-so view p.found asked can_so p.can file p.file_is;
    high = high-so view p.found asked can_so p.can file p.file_is;
    stages = stages;
  }

  -- the stream was edited so, by the name that it has
  pub edited-stream : (Edits : List ℕ → Type 0) (at : Located) (opens : List OpenEntry) (image : List ℕ) (written : ℕ) → at.stream ≡ asked
      → at.node ≡ node_of (read view) file → Edits p.can.stream.is.part.name
      → EditsStream (state_with image view opens now written) at file Edits
  edited-stream Edits at opens image written stream node edits = record {
    name = p.can.stream.is.part.name;
    spelt_so = spelt-so view p.found asked can_so p.can file p.file_is at stream node;
    there = there-so view p.found asked can_so p.can file p.file_is;
    tellable = tellable-so view p.found asked can_so p.can file p.file_is;
    edits = edits;
  }

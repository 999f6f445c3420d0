-- What is due for each command that shows something is what the command wants of its tree, its path and the opens.
use Rattle.std.proofs.Common.{◌≡◌, ℕ, List, true, Option, Result, Ok, Err, refl, ◌∙◌}
use Rattle.tree_model.specs.Answers.{answer_of}
use Rattle.tree_model.specs.Paths.{and_then, found_file, resolve}
use Rattle.tree_model.specs.Shown.{cat_of, file_at, links_of, looked, ls_of, read_of, reparse_of}
use Rattle.tree_model.specs.Reading.{read}
use Rattle.tree_model.specs.Refusals.{Facts, is_reading, outcome}
use Rattle.tree_model.specs.Step.{due}
use Rattle.tree_model.specs.Subjects.{locate, stream_name}
use Rattle.tree_model.specs.Tree.{Tree, node_of}
use Rattle.tree_model.specs.declared.command.Command.{Command}
use Rattle.tree_model.specs.declared.command.Command.TheVariants as c
use Rattle.tree_model.specs.declared.reply.Answer.{Answer}
use Rattle.tree_model.specs.declared.reply.No.{No}
use Rattle.tree_model.specs.declared.opens.OpenEntry.{OpenEntry}
use Rattle.tree_model.specs.declared.tree.Found.{Found}
use Rattle.tree_model.specs.declared.tree.Node.{Node}
use Rattle.tree_model.proofs.LookLaws as look
use Rattle.tree_model.proofs.LookLaws.{find-never}
use Rattle.volume_def.specs.View.{VolumeView}
use Rattle.tree_read.specs.Shown.{attr_shown, cat_shown, df_shown, links_shown, ls_shown, objid_shown, of_path, read_shown}
use Rattle.tree_read.specs.Shown.{reparse_shown, sec_shown, shown_by, stat_shown, streams_shown}
use Rattle.tree_read.specs.declared.shown.Shown.{Shown}
use Rattle.tree_read.specs.declared.shown.Shown.TheVariants as s
use Rattle.tree_ops.specs.Wanted.{machine_on, shown_command}

-- the file that a path leads to, and what follows
of_file : (tree : Tree) (path : List (List ℕ)) (shown : (ℕ × Option Node) → Result Answer No)
    → and_then (file_at tree path) shown ≡ and_then (resolve tree path) (λ found. shown (found_file found, node_of tree (found_file found)))
of_file tree path shown = by (resolve tree path)
  where
    by : (r : Result Found No)
        → and_then (and_then r (λ found. Ok (found_file found, node_of tree (found_file found)))) shown
        ≡ and_then r (λ found. shown (found_file found, node_of tree (found_file found)))
    by (Err refused) = refl
    by (Ok found) = refl

module _ (facts : Facts) (opens : List OpenEntry) (moment session : ℕ) (view : VolumeView) (path : List (List ℕ)) where
  abbrev is_wanted : Command → Result Answer No → Type 0
  is_wanted command other = due facts (machine_on view opens moment) session command ≡ other

  ls-wanted : is_wanted (c.Ls path) (of_path (read view) path (ls_shown (read view)))
  ls-wanted = look.ls-due facts (read view) opens moment session path ∙ of_file (read view) path (ls_of (read view))

  stat-wanted : is_wanted (c.Stat path) (of_path (read view) path (stat_shown (read view)))
  stat-wanted = look.stat-due facts (read view) opens moment session path ∙ of_file (read view) path (looked (read view) (c.Stat path))

  links-wanted : is_wanted (c.Links path) (of_path (read view) path (links_shown (read view)))
  links-wanted = look.links-due facts (read view) opens moment session path ∙ of_file (read view) path (links_of (read view))

  cat-wanted : (stream : Option (List ℕ))
      → is_wanted (c.Cat path stream) (of_path (read view) path (cat_shown (read view) opens (stream_name stream)))
  cat-wanted stream =
      look.cat-due facts (read view) opens moment session path stream
      ∙ of_file (read view) path (cat_of (read view) opens (stream_name stream))

  read-wanted : (stream : Option (List ℕ)) (from len : ℕ)
      → is_wanted (c.Read path stream from len) (of_path (read view) path (read_shown (read view) opens (stream_name stream) from len))
  read-wanted stream from len =
      look.read-due facts (read view) opens moment session path stream from len
      ∙ of_file (read view) path (read_of (read view) opens (stream_name stream) from len)

  streams-wanted : is_wanted (c.Streams path) (of_path (read view) path (streams_shown (read view)))
  streams-wanted =
      look.streams-due facts (read view) opens moment session path ∙ of_file (read view) path (looked (read view) (c.Streams path))

  attr-wanted : is_wanted (c.Attr path) (of_path (read view) path (attr_shown (read view)))
  attr-wanted = look.attr-due facts (read view) opens moment session path ∙ of_file (read view) path (looked (read view) (c.Attr path))

  sec-wanted : is_wanted (c.Sec path) (of_path (read view) path (sec_shown (read view)))
  sec-wanted = look.sec-due facts (read view) opens moment session path ∙ of_file (read view) path (looked (read view) (c.Sec path))

  reparse-wanted : is_wanted (c.Reparse path) (of_path (read view) path (reparse_shown (read view)))
  reparse-wanted = look.reparse-due facts (read view) opens moment session path ∙ of_file (read view) path reparse_of

  objid-wanted : is_wanted (c.Objid path) (of_path (read view) path (objid_shown (read view)))
  objid-wanted = look.objid-due facts (read view) opens moment session path ∙ of_file (read view) path (looked (read view) (c.Objid path))

  -- what is shown, by what shows it
  pub shown-wanted : (what : Shown) → is_wanted (shown_command path what) (of_path (read view) path (shown_by what (read view) opens))
  shown-wanted s.Ls = ls-wanted
  shown-wanted s.Stat = stat-wanted
  shown-wanted s.Links = links-wanted
  shown-wanted (s.Cat stream) = cat-wanted stream.now
  shown-wanted (s.Read stream from len) = read-wanted stream.now from len
  shown-wanted s.Streams = streams-wanted
  shown-wanted s.Attr = attr-wanted
  shown-wanted s.Sec = sec-wanted
  shown-wanted s.Reparse = reparse-wanted
  shown-wanted s.Objid = objid-wanted

pub shown-reads : (path : List (List ℕ)) (what : Shown) → is_reading (shown_command path what) ≡ true
shown-reads path s.Ls = refl
shown-reads path s.Stat = refl
shown-reads path s.Links = refl
shown-reads path (s.Cat stream) = refl
shown-reads path (s.Read stream from len) = refl
shown-reads path s.Streams = refl
shown-reads path s.Attr = refl
shown-reads path s.Sec = refl
shown-reads path s.Reparse = refl
shown-reads path s.Objid = refl

pub df-wanted : (facts : Facts) (opens : List OpenEntry) (moment session : ℕ) (view : VolumeView)
    → due facts (machine_on view opens moment) session c.Df ≡ df_shown facts
unfolding due outcome locate answer_of
df-wanted facts opens moment session view = let n = find-never opens 0 in rw n refl

-- What a session's command asks for, of a machine that stands on a volume's reading, and what comes of it.
use Rattle.std.specs.Prelude.{◌≡◌, ℕ, ◌==◌, ◌&&◌, IsTrue, nat_le, List, Option, Some, None, Result, Ok, Err, count_by}
use Rattle.std.specs.Prelude.{find, is_some, if◌then◌else◌}
use Rattle.std.specs.Option.{option_map_or}
use Rattle.volume_def.specs.View.{VolumeView}
use Rattle.tree_model.specs.Cases.{AsksFor, conflicts}
use Rattle.list_laws.specs.Ordered.{put_in_order}
use Rattle.share_table.specs.Adding.{MayAdd, opened}
use Rattle.tree_model.specs.Opens.{contains, free_handle, is_handle, open_above, to_read}
use Rattle.tree_model.specs.Paths.{and_then}
use Rattle.tree_model.specs.Reading.{read}
use Rattle.tree_model.specs.Refusals.{Facts}
use Rattle.tree_model.specs.Step.{Step}
use Rattle.tree_model.specs.Subjects.{Machine, stream_name}
use Rattle.tree_model.specs.Tree.{Tree}
use Rattle.tree_model.specs.declared.command.Command.{Command}
use Rattle.tree_model.specs.declared.command.Command.TheVariants as c
use Rattle.tree_model.specs.declared.opens.Access.{Access}
use Rattle.tree_model.specs.declared.opens.OpenEntry.{OpenEntry}
use Rattle.tree_model.specs.declared.reply.Answer.{Answer}
use Rattle.tree_model.specs.declared.reply.Answer.TheVariants as a
use Rattle.tree_model.specs.declared.reply.No.{No}
use Rattle.tree_model.specs.declared.reply.No.TheVariants as no
use Rattle.tree_model.specs.declared.reply.Reply.TheVariants as reply
use Rattle.tree_read.specs.Shown.{hread_shown, plain_file}
use Rattle.tree_read.specs.declared.shown.Shown.{Shown}
use Rattle.tree_read.specs.declared.shown.Shown.TheVariants as s
use Rattle.tree_read.specs.declared.stop.Stop.{Stop}
use Rattle.tree_read.specs.declared.stop.Stop.TheVariants as stop
use Rattle.tree_ops.specs.declared.built.Opening.{Opening}
use Rattle.tree_ops.specs.declared.built.Built.{Built}
use Rattle.tree_ops.specs.declared.built.Built.TheVariants as b

-- the machine that has this volume's tree, with these opens, at some moment
abbrev pub machine_on : VolumeView → List OpenEntry → ℕ → Machine
machine_on view opens moment = record { tree = read view; opens = opens; now = moment }

-- the command that is done so
abbrev pub shown_command : List (List ℕ) → Shown → Command
shown_command path s.Ls = c.Ls path
shown_command path s.Stat = c.Stat path
shown_command path s.Links = c.Links path
shown_command path (s.Cat stream) = c.Cat path stream.now
shown_command path (s.Read stream at len) = c.Read path stream.now at len
shown_command path s.Streams = c.Streams path
shown_command path s.Attr = c.Attr path
shown_command path s.Sec = c.Sec path
shown_command path s.Reparse = c.Reparse path
shown_command path s.Objid = c.Objid path

abbrev pub command_by : Built → Command
command_by b.Df = c.Df
command_by (b.Shown path what) = shown_command path.now what
command_by (b.Time now) = c.Time now
command_by (b.Open opening) = c.Open opening.path.now opening.stream.now opening.access opening.share
command_by (b.Hread handle at len) = c.Hread handle at len
command_by (b.Close handle) = c.Close handle
command_by (b.Sd id) = c.Sd id

-- open: a stream that may be opened, by a session that has a handle left, of a file of which no open conflicts
abbrev pub shared_with : Option OpenEntry → ℕ → Result Answer No
shared_with other handle = option_map_or (λ (entry : OpenEntry). Err (no.Shared entry.session entry.handle)) other (Ok (a.Handle handle))

abbrev pub open_of : List OpenEntry → ℕ → Access → Access → ℕ → Result Answer No
open_of opens session access share file =
    if nat_le 64 (count_by (λ (entry : OpenEntry). entry.session == session) opens) then Err no.TooManyHandles
    else shared_with (find (conflicts (AsksFor access share) file) opens) (free_handle opens session)

abbrev pub open_wanted : Tree → List OpenEntry → ℕ → List (List ℕ) → List ℕ → Access → Access → Result Answer No
open_wanted tree opens session path name access share = and_then (plain_file tree path name) (open_of opens session access share)

-- what is opened: an open of the file that the path leads to, with the next handle of the session, and its place among the others
pub record IsOpened (view : VolumeView) (opens : List OpenEntry) (session : ℕ) (opening : Opening) (next : List OpenEntry) : Type 0 where
  pub file : ℕ
  pub found : IsTrue view.told → plain_file (read view) opening.path.now (stream_name opening.stream.now) ≡ Ok file
  pub may : MayAdd opens session file opening.access opening.share
  pub added : next ≡ put_in_order open_above
      (opened opens session file (stream_name opening.stream.now) opening.access opening.share) opens

-- hread: through a handle of the session that may read
abbrev pub hread_wanted : Tree → List OpenEntry → ℕ → ℕ → ℕ → ℕ → Result Answer No
hread_wanted tree opens session handle from len =
    option_map_or (λ (entry : OpenEntry). hread_shown tree entry.stream from len entry.file)
    (find (λ (entry : OpenEntry). is_handle session handle entry && contains entry.access to_read) opens) (Err no.NoHandle)

-- close: a handle of the session
abbrev pub close_wanted : List OpenEntry → ℕ → ℕ → Result Answer No
close_wanted opens session handle = if is_some (find (is_handle session handle) opens) then Ok a.Done else Err no.NoHandle

-- sd: what a volume tells of an id
abbrev pub sd_wanted : Option (List ℕ) → Result Answer No
sd_wanted None = Err no.NoSecurity
sd_wanted (Some bytes) = Ok (a.Sd bytes)

-- why a command stops, where it is refused
abbrev pub as_stop : {A : Type 0} → Result A No → Result A Stop
as_stop (Ok x) = Ok x
as_stop (Err refused) = Err (stop.No refused)

-- THE COMMAND IS DONE, or refused: a step of the machine leads from one state to the other. Of a disk that failed nothing is said.
abbrev pub Does : Facts → Machine → ℕ → Command → Result Answer Stop → Machine → Type 0
Does facts m session command (Ok answer) next = Step facts m session command (reply.Ok answer) next
Does facts m session command (Err (stop.No refused)) next = Step facts m session command (reply.No refused) next
Does facts m session command (Err stop.Device) next = Unit {0}

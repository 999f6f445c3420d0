-- AN EDIT OF A STREAM by its path is that of its command.
use Rattle.std.proofs.Common.{◌≡◌, ℕ, List, Option, subst}
use Rattle.volume_def.specs.View.{VolumeView}
use Rattle.tree_model.specs.Subjects.{stream_name}
use Rattle.tree_model.specs.declared.opens.OpenEntry.{OpenEntry}
use Rattle.made_done.specs.Written.{SetsShown}
use Rattle.tree_ops.specs.Edits.{stream_command, stream_edit}
use Rattle.tree_ops.specs.declared.streams.StreamEdit.{StreamEdit}
use Rattle.tree_ops.specs.declared.streams.StreamEdit.TheVariants as s
use Rattle.tree_ops.proofs.FileEditBy.{IsFileEditBy}
use Rattle.tree_ops.proofs.PunchBy.{punch-by}
use Rattle.tree_ops.proofs.RmstreamBy.{rmstream-by}
use Rattle.tree_ops.proofs.TruncateBy.{truncate-by}
use Rattle.tree_ops.proofs.WriteBy.{write-by}

module _ (opens : List OpenEntry) (now session : ℕ) (path : List (List ℕ)) (stream : Option (List ℕ)) (view : VolumeView) where
  by-name : (what : StreamEdit)
      → IsFileEditBy view opens now session (stream_command what path stream) (stream_edit what opens path (stream_name stream) now)
  by-name (s.Write from bytes) = write-by opens now session path stream from bytes view
  by-name (s.Punch from len) = punch-by opens now session path stream from len view
  by-name (s.Resize size) = truncate-by opens now session path stream size view
  by-name s.Remove = rmstream-by opens now session path (stream_name stream) view

pub stream-by : (what : StreamEdit) (opens : List OpenEntry) (now session : ℕ) (path : List (List ℕ)) (stream : Option (List ℕ))
    (name : List ℕ) → stream_name stream ≡ name → (view : VolumeView)
    → IsFileEditBy view opens now session (stream_command what path stream) (stream_edit what opens path name now)
stream-by what opens now session path stream name named view =
    subst (λ n. IsFileEditBy view opens now session (stream_command what path stream) (stream_edit what opens path n now)) named
    (by-name opens now session path stream view what)

-- and sets no flags, and no id
pub sets-none : (what : StreamEdit) (path : List (List ℕ)) (stream : Option (List ℕ)) → SetsShown (stream_command what path stream)
sets-none (s.Write from bytes) path stream = tt
sets-none (s.Punch from len) path stream = tt
sets-none (s.Resize size) path stream = tt
sets-none s.Remove path stream = tt

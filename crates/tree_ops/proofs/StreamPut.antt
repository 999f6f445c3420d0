-- AN EDIT OF A STREAM is what the call does that makes it, with the stream that was found.
use Rattle.std.proofs.Common.{◌≡◌, ℕ, List, length, sym, subst}
use Rattle.std.specs.Prelude.{IsTrue}
use Rattle.volume_def.specs.View.{VolumeView}
use Rattle.made_done.specs.Below.{PunchesValue}
use Rattle.tree_read.specs.Nodes.{number_of}
use Rattle.stream_changes.specs.Below.{CanPunch, IsWritable, Writable}
use Rattle.stream_changes.specs.Streams.{WritesSo}
use Rattle.stream_changes.proofs.Below.{punchable-can}
use Rattle.tree_ops.specs.Edits.{EditsSo, IsFoundFor}
use Rattle.tree_ops.specs.declared.streams.StreamEdit.{StreamEdit}
use Rattle.tree_ops.specs.declared.streams.StreamEdit.TheVariants as s

module _ (v new : VolumeView) (found : Writable) (number : ℕ) (is : number ≡ number_of found.held) where
  -- where it is told, the stream of some name can be edited so
  abbrev pub CanEditSo : StreamEdit → Type 0
  CanEditSo what = IsTrue v.told → (name : List ℕ) × IsFoundFor what v found name

  pub punch-can : (from len : ℕ) → CanEditSo (s.Punch from len) → IsTrue v.told → CanPunch v found.stream number
  punch-can from len can told = let w = can told in subst (λ k. CanPunch v found.stream k) (sym is) (punchable-can v found w.0 w.1)

  module _ (times : List ℕ) where
    -- .. and was
    abbrev pub WasEditedSo : StreamEdit → Type 0
    WasEditedSo what = IsTrue v.told → (name : List ℕ) → (can : IsFoundFor what v found name)
        → EditsSo what found.way v new (number_of found.held) can.stream.is.part.name can.stream.bytes times found.flags

    pub punch-edits : (from len : ℕ) → (IsTrue v.told → (can : CanPunch v found.stream number)
        → PunchesValue v new number can.name from len times found.flags) → WasEditedSo (s.Punch from len)
    unfolding punchable-can
    punch-edits from len does told name can =
        subst (λ k. (can : CanPunch v found.stream k) → PunchesValue v new k can.name from len times found.flags) is (does told)
        (punchable-can v found name can)

-- A WRITE of these bytes
module _ (v new : VolumeView) (found : Writable) (from : ℕ) (bytes : List ℕ) where
  abbrev pub CanWrite : Type 0
  CanWrite = IsTrue v.told → (name : List ℕ) × IsWritable v found name from (length bytes)

  abbrev pub WasWritten : List ℕ → Type 0
  WasWritten times = IsTrue v.told → (name : List ℕ) → (can : IsWritable v found name from (length bytes))
      → WritesSo found.way from bytes v new (number_of found.held) can.stream.is.part.name can.stream.bytes times found.flags

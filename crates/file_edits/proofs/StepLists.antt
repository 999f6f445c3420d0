-- WHAT STEPS LEAVE OF LISTS: their clusters.
use Rattle.std.proofs.Common.{ℕ, Bool}
use Rattle.volume_def.specs.Files.{parts, records_of}
use Rattle.volume_def.specs.KeptList.{KeepsList}
use Rattle.volume_def.specs.View.{VolumeView}
use Rattle.edit_def.specs.Kept.{Key}
use Rattle.edit_def.specs.Marks.{Marks}
use Rattle.record_edits.specs.Pending.{IsPending}
use Rattle.record_edits.specs.RecordEdit.{EditsPart}
use Rattle.record_edits.proofs.BlockEdits.{lists-stay}
use Rattle.record_edits.proofs.PendingStates.{owners-pending}
use Rattle.file_edits.specs.Steps.{FreesExtension, MovesAttribute, TakesExtension}
use Rattle.file_edits.proofs.Frame.{lists-kept}
use Rattle.file_edits.proofs.MoveSteps as moved
use Rattle.file_edits.proofs.RecordGone as freed
use Rattle.file_edits.proofs.RecordSteps as taken

pub lists-edited : (key : Key) (lags : Key → Bool) (old new : VolumeView) (before after : Marks) → EditsPart key old new before after
    → IsPending key.file lags old before → (g : ℕ) → KeepsList old new (parts (records_of old) g)
lists-edited key lags old new before after e was = lists-stay old new e.block.replaces.clusters
    (owners-pending key.file lags old before was) was.table.some was.table.unnamed

pub lists-moved : (f : ℕ) (lags : Key → Bool) (old new : VolumeView) (marks : Marks) → MovesAttribute f old new
    → IsPending f lags old marks → (g : ℕ) → KeepsList old new (parts (records_of old) g)
lists-moved f lags old new marks t = lists-kept f lags old new marks marks (moved.system f old new t) (moved.outside f old new t)

pub lists-taken : (f : ℕ) (lags : Key → Bool) (old new : VolumeView) (before after : Marks) → TakesExtension f old new before after
    → IsPending f lags old before → (g : ℕ) → KeepsList old new (parts (records_of old) g)
lists-taken f lags old new before after t = lists-kept f lags old new before after (taken.system f old new before after t)
    t.replaces.clusters

pub lists-freed : (f : ℕ) (lags : Key → Bool) (old new : VolumeView) (before after : Marks) → FreesExtension f old new before after
    → IsPending f lags old before → (g : ℕ) → KeepsList old new (parts (records_of old) g)
lists-freed f lags old new before after t = lists-kept f lags old new before after (freed.system f old new before after t)
    t.replaces.clusters

-- WHAT WAS WRITTEN is what was staged, but for the mark and the log.
use Rattle.std.proofs.Common.{◌≡◌, ℕ, Bool, List, [], length, inl, inr, ap, arith}
use Rattle.std.proofs.lemmas.Bool.{cases_Bool}
use Rattle.volume_def.specs.Sound.{IsSound}
use Rattle.volume_def.specs.View.{VolumeView}
use Rattle.tree_model.specs.Facts.{IsVolumeOf}
use Rattle.mark_write.specs.Logs.{IsOutside}
use Rattle.mark_write.specs.declared.flag.Flag.{Flag}
use Rattle.mark_write.specs.declared.log.Span.{Span}
use Rattle.first_mark.proofs.Below.{outside-log}
use Rattle.volume_mark.specs.SameVolume.{AgreesButMark, IsOfLog}
use Rattle.volume_mark.proofs.AgreeLaws.{agrees-written}
use Rattle.value_owed.specs.Unnamed.{LiesApart}
use Rattle.value_owed.proofs.CallsOwed.{apart-of}
use Rattle.edit_written.specs.Finished.{IsFinished, IsPlaceOf}
use Rattle.edit_written.specs.LeavesAlone.{LeavesAlone}
use Rattle.edit_written.proofs.LogSpansStay.{spans-stay}

-- no sector lies in one of no spans
pub none-within : (spans : List Span) → spans ≡ [] → (n : ℕ) → IsOutside spans n
none-within spans none n i among within = let long = ap length none in omega (arith, among, long)

-- a sector that is none of the log's is in no span
spans-outside : (old new : VolumeView) (before : List ℕ) (flag : Flag) (marked : Bool) (spans : List Span) → LiesApart new
    → LeavesAlone old new → IsPlaceOf old before flag marked spans → (n : ℕ) → ¬ (IsOfLog new n) → IsOutside spans n
spans-outside old new before flag marked spans apart alone place = elim (cases_Bool marked) [
  | inl was ↦ λ n out. none-within spans (place.none was) n
  | inr fresh ↦ outside-log new spans apart.some (spans-stay old new alone spans (place.spans_are fresh))
]

pub agrees : (old new : VolumeView) (before staged written : List ℕ) (flag : Flag) (marked : Bool) (spans : List Span)
    → LeavesAlone old new → IsVolumeOf staged new → IsSound new → IsPlaceOf old before flag marked spans
    → IsFinished flag marked spans staged written → AgreesButMark new flag staged written
agrees old new before staged written flag marked spans alone after settled place f =
    agrees-written new flag spans staged written f.long
    (spans-outside old new before flag marked spans (apart-of staged new after settled) alone place) f.same f.set f.copied

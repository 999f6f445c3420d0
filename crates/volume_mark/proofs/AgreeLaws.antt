-- What was written is what was staged, but for the mark and the log.
use Rattle.std.proofs.Common.{◌≡◌, ℕ, List, length, Some, sym, ◌∙◌}
use Rattle.vol_disk.specs.Contents.{sector_in}
use Rattle.volume_def.specs.View.{VolumeView}
use Rattle.mark_write.specs.declared.flag.Flag.{Flag}
use Rattle.mark_write.specs.Flags.{IsCopySet, IsSet, cleared_sector}
use Rattle.volume_mark.specs.SameVolume.{AgreesButMark, IsOfLog}
use Rattle.mark_write.specs.declared.log.Span.{Span}
use Rattle.mark_write.specs.Logs.{IsOutside}

-- where the spans are of the log
pub agrees-written : (view : VolumeView) (flag : Flag) (spans : List Span) (staged written : List ℕ) → length written ≡ length staged
    → ((n : ℕ) → ¬ (IsOfLog view n) → IsOutside spans n)
    → ((n : ℕ) → IsOutside spans n → cleared_sector flag (sector_in (Some written)) n ≡ cleared_sector flag (sector_in (Some staged)) n)
    → IsSet flag (sector_in (Some written)) → IsCopySet flag (sector_in (Some written)) → AgreesButMark view flag staged written
agrees-written view flag spans staged written long of_log same set copied = record {
  long = long;
  sectors = λ n out. same n (of_log n out);
  alike = set ∙ sym copied;
}

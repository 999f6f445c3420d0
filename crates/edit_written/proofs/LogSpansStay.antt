-- THE SPANS OF THE LOG are those of the volume before, where the log is left alone.
use Rattle.std.proofs.Common.{◌+◌, ◌/◌, List, sym, subst}
use Rattle.volume_def.specs.Table.{TableLayout}
use Rattle.volume_def.specs.Values.{spot_at}
use Rattle.volume_def.specs.View.{VolumeView}
use Rattle.session_def.specs.Cost.{log_parts}
use Rattle.mark_write.specs.declared.log.Span.{Span}
use Rattle.first_mark.specs.Below.{AreLogSpans, AreSpansOf, log_sectors}
use Rattle.edit_written.specs.LeavesAlone.{LeavesAlone}

pub spans-stay : (old new : VolumeView) → LeavesAlone old new → (spans : List Span) → AreLogSpans old spans → AreLogSpans new spans
spans-stay old new alone spans are =
    subst (λ (l : TableLayout). AreSpansOf l (spot_at (log_parts new)) (log_sectors new) spans) (sym alone.layout)
    (subst (λ xs. AreSpansOf old.layout (spot_at xs) (log_sectors new) spans) (sym alone.log)
    (subst (λ bytes. AreSpansOf old.layout (spot_at (log_parts old)) ((bytes + 511) / 512) spans) (sym alone.emptied) are))

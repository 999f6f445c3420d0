use Rattle.std.proofs.Common.{take}
use Rattle.volume_def.specs.Files.{Records}
use Rattle.record_notes.specs.Heads.{EndsAtCount, HeadsNote}
use Rattle.list_laws.specs.Least.{IsLeastFailing}
use Rattle.record_notes.proofs.AloneLaws.{MeetsAmong}
use Rattle.record_notes.proofs.spread.SpreadFiles.first_spread_file.Given as goal

abbrev pub invariant-loop-extension : goal.invariant-loop-extension
invariant-loop-extension l =
    (records : Records) → EndsAtCount records → HeadsNote records records.count l.heads
    → IsLeastFailing (MeetsAmong records (take l.extension-index l.extension-items)) l.first

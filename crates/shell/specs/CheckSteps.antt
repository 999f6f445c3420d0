-- What is said of a disk that is taken into use, or is not.
use Rattle.std.specs.Prelude.{◌≡◌, Result, Ok, Err, MatchResult}
use Rattle.mft_table.specs.declared.mounted.Mounted.{Mounted}
use Rattle.mft_table.specs.declared.mount.MountNo.{MountNo}
use Rattle.mft_table.specs.declared.mount.MountNo.TheVariants as no
use Rattle.shell.specs.declared.answer.Answer.{Answer}
use Rattle.shell.specs.declared.answer.Answer.TheVariants.{Dirty, Refused}
use Rattle.shell.specs.declared.stop.Stop.{Stop}
use Rattle.shell.specs.declared.stop.Stop.TheVariants.{Device, Memory}
use Rattle.shell.specs.Answers.{report_of}
use Rattle.shell.specs.Report.{says}
use Rattle.shell.specs.Text.{sound_text}

abbrev pub SaysNoMount : MountNo → Result Answer Stop → Type 0
SaysNoMount (no.Refused k n) result = result ≡ Ok (Refused (record { clause = k; number = n }))
SaysNoMount no.Dirty result = result ≡ Ok Dirty
SaysNoMount no.Device result = result ≡ Err Device
SaysNoMount no.Memory result = result ≡ Err Memory

abbrev pub SaysMount : Result Mounted MountNo → Result Answer Stop → Type 0
SaysMount (Ok mounted) result = MatchResult result (λ answer. report_of answer ≡ says sound_text) (λ _. ⊥)
SaysMount (Err error) result = SaysNoMount error result

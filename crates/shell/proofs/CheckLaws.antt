-- What check says, from what the mount check answered.
use Rattle.std.proofs.Common.{◌≡◌, ℕ, List, Option, Some, Result, Ok, Err, refl, sym, subst}
use Rattle.std.specs.Prelude.{IfErr, IfOk, MatchResult}
use Rattle.volume_def.specs.VersionClause.{IsClean}
use Rattle.mft_table.specs.declared.mounted.Mounted.{Mounted}
use Rattle.mft_table.specs.declared.mount.MountNo.{MountNo}
use Rattle.mft_table.specs.declared.mount.MountNo.TheVariants as no
use Rattle.mft_table.specs.HeldTables.{HoldsTables, volume_in}
use Rattle.mft_table.specs.MountNos.{CountsMount}
use Rattle.mount_check.specs.Refusals.{IsMountNo}
use Rattle.shell.specs.declared.answer.Answer.{Answer}
use Rattle.shell.specs.declared.stop.Stop.{Stop}
use Rattle.shell.specs.Answers.{report_of}
use Rattle.shell.specs.Check.{CheckReports}
use Rattle.shell.specs.CheckSteps.{SaysMount, SaysNoMount}
use Rattle.shell.specs.Report.{Report}
use Rattle.shell.specs.Stops.{CountsNo}
use Rattle.shell.proofs.Checks.{tables-accepted}

said-no : (now : Option (List ℕ)) (error : MountNo) (result : Result Answer Stop) → IsMountNo now error → SaysNoMount error result
    → IfOk result (λ answer. (image : List ℕ) → now ≡ Some image → CheckReports image (report_of answer))
said-no now (no.Refused k n) result fails said = rw said (λ image told. fails image told)
said-no now no.Dirty result fails said = rw said (λ image told. fails image told)
said-no now no.Device result fails said = rw said tt
said-no now no.Memory result fails said = rw said tt

-- what is said of the answer is what is said of the image
pub mount-said : (now : Option (List ℕ)) (mounted : Result Mounted MountNo) (result : Result Answer Stop)
    → IfOk mounted (λ m. (image : List ℕ) → now ≡ Some image → HoldsTables 15 image m × IsClean (volume_in image m))
    → IfErr mounted (IsMountNo now) → SaysMount mounted result
    → IfOk result (λ answer. (image : List ℕ) → now ≡ Some image → CheckReports image (report_of answer))
mount-said now (Ok mounted) (Ok answer) holds fails said = λ image told.
    let held = holds image told in
    subst (λ (r : Report). CheckReports image r) (sym said) (tables-accepted image mounted held.0 held.1, refl)
mount-said now (Ok mounted) (Err stop) holds fails said = absurd said
mount-said now (Err error) result holds fails said = said-no now error result fails said

counted-no : (before after : ℕ) (error : MountNo) (result : Result Answer Stop) → CountsMount before after error
    → SaysNoMount error result → MatchResult result (λ _. after ≡ before) (CountsNo before after)
counted-no before after (no.Refused k n) result counts said = rw said counts
counted-no before after no.Dirty result counts said = rw said counts
counted-no before after no.Device result counts said = rw said counts
counted-no before after no.Memory result counts said = rw said counts

-- and the count of faults that it tells is the disk's
pub mount-counted : (before after : ℕ) (mounted : Result Mounted MountNo) (result : Result Answer Stop)
    → MatchResult mounted (λ _. after ≡ before) (CountsMount before after) → SaysMount mounted result
    → MatchResult result (λ _. after ≡ before) (CountsNo before after)
mount-counted before after (Ok mounted) (Ok answer) counts said = counts
mount-counted before after (Ok mounted) (Err stop) counts said = absurd said
mount-counted before after (Err error) result counts said = counted-no before after error result counts said

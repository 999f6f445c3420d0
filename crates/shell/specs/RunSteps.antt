-- What is printed of a disk that is not taken into use.
use Rattle.std.specs.Prelude.{◌≡◌, ℕ, List, Option}
use Rattle.mft_table.specs.declared.mount.MountNo.{MountNo}
use Rattle.mft_table.specs.declared.mount.MountNo.TheVariants as no
use Rattle.shell.specs.declared.ending.Ending.{Ending}
use Rattle.shell.specs.declared.ending.Ending.TheVariants as ending
use Rattle.shell.specs.Printing.{EndsPrinting}
use Rattle.shell.specs.Text.{dirty_text, refusal_text}

-- Nothing was printed.
pub record Leaves (wanted given : Ending) (got got' : Option (List ℕ)) (faults faults' : ℕ) : Type 0 where
  pub ends : given ≡ wanted
  pub untouched : got' ≡ got
  pub quiet : faults' ≡ faults

-- The line that says why was printed, or nothing where the disk failed or memory ran out.
abbrev pub Refuses : MountNo → Ending → Option (List ℕ) → Option (List ℕ) → ℕ → ℕ → Type 0
Refuses (no.Refused k n) given got got' faults faults' =
    EndsPrinting (refusal_text (record { clause = k; number = n })) ending.Refused given got got' faults faults'
Refuses no.Dirty given got got' faults faults' = EndsPrinting dirty_text ending.Refused given got got' faults faults'
Refuses no.Device given got got' faults faults' = Leaves ending.Device given got got' faults faults'
Refuses no.Memory given got got' faults faults' = Leaves ending.Memory given got got' faults faults'

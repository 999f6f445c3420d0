-- Printing a text.
use Rattle.std.specs.Prelude.{◌≡◌, ◌⊎◌, ℕ, Option, List}
use Rattle.vol_disk.specs.Count.{Rose}
use Rattle.vol_disk.specs.Stream.{IsAppended, IsAppendedPart}
use Rattle.shell.specs.declared.ending.Ending.{Ending}
use Rattle.shell.specs.declared.ending.Ending.TheVariants as ending

-- all of the text was printed
pub record PrintsWhole (text : List ℕ) (whole given : Ending) (got got' : Option (List ℕ)) (faults faults' : ℕ) : Type 0 where
  pub ends : given ≡ whole
  pub all : IsAppended got text got'
  pub quiet : faults' ≡ faults

-- the sink failed, and took a part from the front
pub record PrintsPart (text : List ℕ) (given : Ending) (got got' : Option (List ℕ)) (faults faults' : ℕ) : Type 0 where
  pub ends : given ≡ ending.Sink
  pub part : IsAppendedPart got text got'
  pub rose : Rose faults faults'

-- A text was shown, by a run that ends with `whole` where all of it is printed.
abbrev pub EndsPrinting : List ℕ → Ending → Ending → Option (List ℕ) → Option (List ℕ) → ℕ → ℕ → Type 0
EndsPrinting text whole given got got' faults faults' =
    PrintsWhole text whole given got got' faults faults' ⊎ PrintsPart text given got got' faults faults'

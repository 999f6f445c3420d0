-- A run that made a new volume.
use Rattle.std.proofs.Common.{◌≡◌, ℕ, ◌≤◌, List, inl, inr, subst}
use Rattle.std.specs.Prelude.{is_some}
use Rattle.vol_disk.specs.Contents.{sector_in}
use Rattle.vol_disk.specs.Stream.{IsAppended, IsAppendedPart}
use Rattle.volume_format.specs.Options.{Options, plan_of}
use Rattle.volume_format.specs.Plan.{items_end}
use Rattle.volume_format.specs.Written.{sector_at}
use Rattle.shell.specs.declared.ending.Ending.{Ending}
use Rattle.shell.specs.declared.ending.Ending.TheVariants as ending
use Rattle.shell.specs.Format.{FormatEnds, Makes, made_text}
use Rattle.shell.specs.Printing.{EndsPrinting}
use Rattle.shell.specs.World.{World}

-- what is shown of a volume that was made
pub ends-made : (o : Options) (given : Ending) (text : List ℕ) (old new : World) → Makes o old new → text ≡ made_text o
    → EndsPrinting text ending.Done given old.got new.got old.sink_faults new.sink_faults
    → new.disk_faults ≡ old.disk_faults
    → ((sector : ℕ) → sector_at (plan_of o) (items_end (plan_of o)) ≤ sector → sector_in new.now sector ≡ sector_in old.now sector)
    → is_some new.now ≡ is_some old.now → new.fenced ≡ old.fenced → new.sectors ≡ old.sectors → new.fetched ≡ old.fetched
    → new.left ≡ old.left → new.source_faults ≡ old.source_faults → FormatEnds o given old new
ends-made o given text old new makes is (inl printed) quiet others told fenced sectors fetched left source = rw printed.ends (record {
  causes = record { disk = quiet; source = source; sink = printed.quiet };
  answered = (makes, subst (λ (t : List ℕ). IsAppended old.got t new.got) is printed.all);
  others = others;
  told = told;
  fenced = fenced;
  sectors = sectors;
  fetched = fetched;
  left = left;
  source_faults = source;
})
ends-made o given text old new makes is (inr cut) quiet others told fenced sectors fetched left source = rw cut.ends (record {
  causes = (quiet, source, cut.rose);
  answered = inl (makes, subst (λ (t : List ℕ). IsAppendedPart old.got t new.got) is cut.part);
  others = others;
  told = told;
  fenced = fenced;
  sectors = sectors;
  fetched = fetched;
  left = left;
  source_faults = source;
})

-- the options may be told by another value that is the same
pub ends-same : (o p : Options) (given : Ending) (old new : World) → o ≡ p → FormatEnds o given old new → FormatEnds p given old new
ends-same o p given old new same ends = subst (λ (q : Options). FormatEnds q given old new) same ends

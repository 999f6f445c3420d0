-- A word that only reads, answered by the report that it shows.
use Rattle.std.proofs.Common.{◌≡◌, ℕ, List, Some, refl, inl, inr}
use Rattle.shell.specs.declared.ending.Ending.{Ending}
use Rattle.vol_disk.specs.Stream.{IsAppended}
use Rattle.shell.specs.Report.{IsReported, Report, ReportEnds, ending_of, refuses, says, text_of, unclosed}
use Rattle.shell.specs.Printing.{EndsPrinting}
use Rattle.shell.specs.World.{World, OnlyReads, Blames}

-- a report that was printed whole
reported_whole : (IsReport : Report → Type 0) (report : Report) (old new : World) → IsReport report
    → IsAppended old.got (text_of report) new.got → IsReported IsReport (ending_of report) old new
reported_whole IsReport (says text) old new is all = (says text, is, record { ends = refl; text = all })
reported_whole IsReport (refuses refusal) old new is all = (refuses refusal, is, record { ends = refl; text = all })
reported_whole IsReport unclosed old new is all = (unclosed, is, record { ends = refl; text = all })

-- neither ending of a whole report blames a count
blames_none : (report : Report) (old new : World) → new.disk_faults ≡ old.disk_faults
    → new.source_faults ≡ old.source_faults → new.sink_faults ≡ old.sink_faults
    → Blames (ending_of report) old new
blames_none (says text) old new disk source sink = record { disk = disk; source = source; sink = sink }
blames_none (refuses refusal) old new disk source sink = record { disk = disk; source = source; sink = sink }
blames_none unclosed old new disk source sink = record { disk = disk; source = source; sink = sink }

-- what is shown answers the word, where it is the report of the image
pub ends_shown : (Reports : List ℕ → Report → Type 0) (report : Report) (given : Ending) (old new : World)
    → EndsPrinting (text_of report) (ending_of report) given old.got new.got old.sink_faults new.sink_faults
    → OnlyReads old new → new.disk_faults ≡ old.disk_faults
    → ((image : List ℕ) → old.now ≡ Some image → Reports image report)
    → ReportEnds Reports given old new
ends_shown Reports report given old new (inl printed) only quiet is = rw printed.ends (record {
  causes = blames_none report old new quiet only.source_faults printed.quiet;
  only_reads = only;
  reported = reported_whole (λ r. (image : List ℕ) → old.now ≡ Some image → Reports image r) report old new is printed.all;
})
ends_shown Reports report given old new (inr cut) only quiet is = rw cut.ends (record {
  causes = (quiet, only.source_faults, cut.rose);
  only_reads = only;
  reported = (report, is, cut.part);
})

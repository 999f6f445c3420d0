use Rattle.value_edits.proofs.CutCalls as cuts
use Rattle.value_edits.proofs.ExtentCalls as laws
use Rattle.value_edits.proofs.LongerStreams as longer
use Rattle.value_edits.proofs.calls.extent_calls.Goals as goal

pub returns : goal.returns
returns c = record {
  removed = laws.removed-given;
  cut = cuts.cut-given;
  lengthened = longer.lengthened-put;
  written = longer.written-put;
}

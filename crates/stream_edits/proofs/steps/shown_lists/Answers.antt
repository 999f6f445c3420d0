use Rattle.stream_edits.proofs.ShownLists as laws
use Rattle.stream_edits.proofs.steps.shown_lists.Goals as goal

pub returns : goal.returns
returns c = record {
  placed = laws.list-placed;
  written = laws.list-written;
  cut = laws.list-cut;
  raised = laws.list-raised;
  punched = laws.list-punched;
}

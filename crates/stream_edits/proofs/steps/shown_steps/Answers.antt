use Rattle.stream_edits.proofs.ShownPunch.{shows-punched}
use Rattle.stream_edits.proofs.ShownSteps as laws
use Rattle.stream_edits.proofs.steps.shown_steps.Goals as goal

pub returns : goal.returns
returns c = record {
  placed = laws.shows-placed;
  raised = laws.shows-raised;
  patched = laws.shows-patched;
  emptied = laws.shows-emptied;
  punched = shows-punched;
  cut = laws.shows-cut;
}

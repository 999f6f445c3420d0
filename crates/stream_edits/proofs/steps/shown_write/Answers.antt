use Rattle.stream_edits.proofs.ShownWrite as laws
use Rattle.stream_edits.proofs.steps.shown_write.Goals as goal

pub returns : goal.returns
returns c = record { shown = laws.shows-written; gains = laws.gains-written; initialized = laws.initialized-written }

use Rattle.stream_edits.proofs.EditedStreams.{value-held}
use Rattle.stream_edits.proofs.ShownLists.{list-held, list-shown}
use Rattle.stream_edits.proofs.ShownSteps.{value-shown}
use Rattle.stream_edits.proofs.steps.shown_value.Goals as goal

pub returns : goal.returns
returns c = record { bytes = value-shown; shows = list-shown; stream = list-held; value = value-held }

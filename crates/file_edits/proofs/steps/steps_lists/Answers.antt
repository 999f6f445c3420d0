use Rattle.record_edits.proofs.FileEdits.{list-same-then}
use Rattle.file_edits.proofs.StepLists.{lists-edited, lists-freed, lists-moved, lists-taken}
use Rattle.file_edits.proofs.steps.steps_lists.Goals as goal

pub returns : goal.returns
returns c = record {
  same = λ key lags old new before after e was other right. list-same-then key old new before after e lags was other right;
  edited = lists-edited;
  moved = lists-moved;
  taken = lists-taken;
  freed = lists-freed;
}

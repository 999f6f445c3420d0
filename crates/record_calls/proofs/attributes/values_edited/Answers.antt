use Rattle.record_calls.proofs.EditCalls as laws
use Rattle.record_calls.proofs.attributes.values_edited.Goals as goal

pub returns : goal.returns
returns c = record {
  inserted = laws.insert-value;
  removed = laws.remove-value;
  replaced = laws.replace-value;
  resized = laws.resize-value;
  written = laws.write-value;
}

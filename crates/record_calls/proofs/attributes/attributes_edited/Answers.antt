use Rattle.record_calls.proofs.EditCalls as laws
use Rattle.record_calls.proofs.attributes.attributes_edited.Goals as goal

pub returns : goal.returns
returns c = record {
  inserted = laws.insert-edit;
  removed = laws.remove-edit;
  replaced = laws.replace-edit;
  resized = laws.resize-edit;
}

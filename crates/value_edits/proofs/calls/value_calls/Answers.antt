use Rattle.std.proofs.Common.{refl}
use Rattle.value_edits.proofs.ValueCalls as laws
use Rattle.value_edits.proofs.WrittenBytes.{written-put}
use Rattle.value_edits.proofs.calls.value_calls.Goals as goal

pub returns : goal.returns
returns c = record {
  changed = laws.changed-put;
  ends = laws.changed-nowhere;
  resized = λ len held. refl;
  written = written-put;
  removed = laws.removed-put;
}

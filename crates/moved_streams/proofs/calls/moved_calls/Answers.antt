use Rattle.moved_streams.proofs.MovedCalls as laws
use Rattle.moved_streams.proofs.calls.moved_calls.Goals as goal

pub returns : goal.returns
returns c = record {
  written = laws.written-moved;
  few_written = laws.written-few;
  lengthened = laws.lengthened-moved;
  few_lengthened = laws.lengthened-few;
}

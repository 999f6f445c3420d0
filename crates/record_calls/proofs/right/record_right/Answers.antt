use Rattle.record_calls.proofs.RightRecords as laws
use Rattle.record_calls.proofs.right.record_right.Goals as goal

pub returns : goal.returns
returns c = record {
  come = λ old new n i attr e. laws.right-come old new n i attr e;
  gone = λ old new n stored was e. laws.right-go old new n stored was e;
  put = λ old new n stored was now e. laws.right-put old new n stored was now e;
  resized = laws.right-resize;
}

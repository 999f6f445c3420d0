use Rattle.script_run.proofs.RanLaws.{unwritten, written-most}
use Rattle.script_run.proofs.laws.written_laws.Goals as goal

pub returns : goal.returns
returns c = record { unwritten = unwritten; most = written-most }

use Rattle.data_runs.proofs.LeftLaws.{run_left-ends, run_left-past_all, run_left-some, spot_of-behind, spot_of-left}
use Rattle.data_runs.proofs.laws.left_laws.Goals as goal

pub returns-clause-some : goal.returns-clause-some
returns-clause-some c = run_left-some

pub returns-clause-inside : goal.returns-clause-inside
returns-clause-inside c = spot_of-left

pub returns-clause-none : goal.returns-clause-none
returns-clause-none c runs n = (run_left-ends runs n, run_left-past_all runs n)

pub returns-clause-behind : goal.returns-clause-behind
returns-clause-behind c = spot_of-behind

use Rattle.data_runs.proofs.SpotSteps.{spot_of-push_before, spot_of-push_inside, spot_of-push_behind}
use Rattle.data_runs.proofs.laws.appended_spots.Goals as goal

pub returns-clause-before : goal.returns-clause-before
returns-clause-before c = spot_of-push_before

pub returns-clause-inside : goal.returns-clause-inside
returns-clause-inside c = spot_of-push_inside

pub returns-clause-behind : goal.returns-clause-behind
returns-clause-behind c = spot_of-push_behind

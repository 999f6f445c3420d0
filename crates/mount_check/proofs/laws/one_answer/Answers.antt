use Rattle.mount_check.proofs.AnswerLaws.{IsAccepted-clean, IsAccepted-tables, IsAccepted-whole, IsDirty-sound, IsRefused-one}
use Rattle.mount_check.proofs.laws.one_answer.Goals as goal

pub returns-clause-accepted : goal.returns-clause-accepted
returns-clause-accepted c = IsAccepted-tables

pub returns-clause-not_dirty : goal.returns-clause-not_dirty
returns-clause-not_dirty c = IsAccepted-clean

pub returns-clause-not_refused : goal.returns-clause-not_refused
returns-clause-not_refused c = IsAccepted-whole

pub returns-clause-dirty : goal.returns-clause-dirty
returns-clause-dirty c = IsDirty-sound

pub returns-clause-refused : goal.returns-clause-refused
returns-clause-refused c = IsRefused-one

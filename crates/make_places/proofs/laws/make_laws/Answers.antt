use Rattle.make_places.proofs.OutcomeLaws.{make-found, make-refused}
use Rattle.make_places.proofs.laws.make_laws.Goals as goal

pub returns-clause-found : goal.returns-clause-found
returns-clause-found c = λ facts view opens now session path place directory dir tells sound is made.
    make-found facts view opens now session path tells sound directory place dir is made

pub returns-clause-refused : goal.returns-clause-refused
returns-clause-refused c = λ facts view opens now session path why directory tells sound made.
    make-refused facts view opens now session path tells sound directory why made

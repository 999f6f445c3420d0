use Rattle.in_place.proofs.FormSame as forms
use Rattle.in_place.proofs.OwedInPlace as laws
use Rattle.in_place.proofs.owed.attributes_owed.Goals as goal

pub returns : goal.returns
returns c = record {
  made_forms = forms.forms-come;
  lists = λ changed old new w apart f free. laws.order-kept changed old new w apart.owners apart.some f free;
  log_end = λ changed old new w apart free. laws.log_end-kept changed old new w apart.owners apart.some free;
}

use Rattle.in_place.proofs.FormSame as forms
use Rattle.in_place.proofs.KeptInPlace as keeps
use Rattle.in_place.proofs.PlacesSame as places
use Rattle.in_place.proofs.laws.rewritten_attributes.Goals as goal

pub returns : goal.returns
returns c = record {
  forms = forms.forms-kept;
  kept = λ changed old new w apart. keeps.kept changed old new w apart.owners apart.some apart.unnamed;
  places = λ changed old new w apart room. places.in_place changed old new w apart.owners apart.some room;
}

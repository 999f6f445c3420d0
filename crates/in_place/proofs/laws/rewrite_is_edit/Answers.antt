use Rattle.in_place.proofs.EditedInPlace as laws
use Rattle.in_place.proofs.laws.rewrite_is_edit.Goals as goal

pub returns : goal.returns
returns c = record {
  edited = λ changed wants old new marks w apart room right sound.
      laws.edited changed wants old new marks w apart.owners apart.some apart.unnamed room right sound;
  editable = laws.editable-sound;
}

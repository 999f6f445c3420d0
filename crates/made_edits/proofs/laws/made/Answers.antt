use Rattle.root_puts.proofs.FreshNumber.{fresh-number}
use Rattle.made_edits.specs.Wants.{making_wants}
use Rattle.made_edits.proofs.SoundMade as laws
use Rattle.root_puts.specs.Marks.{marks_of}
use Rattle.tree_model.specs.Effects.{new_node}
use Rattle.made_edits.proofs.laws.made.Goals as goal

pub returns : goal.returns
returns c = record {
  made = laws.made;
  fresh = λ facts old new was now dir n node units moment security directory told is.
      fresh-number facts (making_wants directory n) old is.calls.mid (marks_of was) (marks_of now) n directory
      (new_node directory moment security) told is.calls.makes;
}

use Rattle.std.proofs.Common.{refl, ◌∙◌}
use Rattle.tree_read.proofs.GivesLaws.{tells}
use Rattle.tree_read.proofs.links.path_of.Goals as goal

pub returns : goal.returns
returns g c = record {
  found = tells c.in_ok-names.ensures.found refl (λ told is. (is.0, c.reverse.ensures.items ∙ is.1));
}

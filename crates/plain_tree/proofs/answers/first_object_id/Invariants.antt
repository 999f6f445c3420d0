use Rattle.std.proofs.Common.{◌≡◌, drop, find}
use Rattle.tree_model.specs.Answers.{is_unnamed_object_id}
use Rattle.plain_tree.proofs.answers.first_object_id.Given as goal

abbrev pub invariant-attributes : goal.invariant-attributes
invariant-attributes l = find is_unnamed_object_id (drop l.attribute-index l.attributes) ≡ find is_unnamed_object_id l.attributes

use Rattle.std.proofs.Common.{◌≡◌, drop}
use Rattle.std.specs.List.{list_any}
use Rattle.tree_model.specs.Ways.{stands_in_copied}
use Rattle.tree_edit.proofs.settable.any_in_copied.Given as goal

abbrev pub invariant-links : goal.invariant-links
invariant-links l = list_any stands_in_copied (drop l.link-index l.links) ≡ list_any stands_in_copied l.links

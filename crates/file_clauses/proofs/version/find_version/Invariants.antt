use Rattle.std.proofs.Common.{◌<◌, ℕ}
use Rattle.ntfs_def.specs.Attribute.{attribute_place}
use Rattle.attr_view.specs.View.{viewed_block}
use Rattle.volume_def.specs.VersionClause.{IsVersionAt}
use Rattle.file_clauses.proofs.version.find_version.Given as goal

-- those that were passed over tell no version
abbrev pub invariant-loop-i : goal.invariant-loop-i
invariant-loop-i l = (j : ℕ) → j < l.i → ¬ (IsVersionAt (viewed_block l.opened) (attribute_place (viewed_block l.opened) j))

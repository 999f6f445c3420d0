use Rattle.std.proofs.Common.{◌≡◌, [], length}
use Rattle.std.specs.List.{list_any}
use Rattle.ntfs_def.specs.declared.kinds.TheConstants.{REPARSE_POINT}
use Rattle.volume_def.specs.Files.{is_of, part_of}
use Rattle.file_record.specs.Held.{attributes_held}
use Rattle.file_record.specs.Left.{attributes_left}
use Rattle.tree_read.proofs.outline.has_point.Given as goal

-- those that were passed over are no reparse points
abbrev pub invariant-loop-attribute : goal.invariant-loop-attribute
invariant-loop-attribute l =
    list_any (λ attribute. is_of REPARSE_POINT [] (part_of 0 attribute)) (attributes_left l.attributes)
    ≡ list_any (λ attribute. is_of REPARSE_POINT [] (part_of 0 attribute)) (attributes_held l.file)

abbrev pub decreases-loop-attribute : goal.decreases-loop-attribute
decreases-loop-attribute l = length (attributes_left l.attributes)

use Rattle.std.proofs.Common.{◌≡◌, ◌++◌, length}
use Rattle.std.specs.List.{filter_map}
use Rattle.file_record.specs.Held.{attributes_held}
use Rattle.file_record.specs.Left.{attributes_left}
use Rattle.tree_read.specs.FileLinks.{attribute_link}
use Rattle.tree_read.proofs.outline.links_of.Given as goal

-- the names so far, and those of the attributes to come
abbrev pub invariant-loop-attribute : goal.invariant-loop-attribute
invariant-loop-attribute l =
    l.links.items ++ filter_map (attribute_link l.file.number) (attributes_left l.attributes)
    ≡ filter_map (attribute_link l.file.number) (attributes_held l.file)

abbrev pub decreases-loop-attribute : goal.decreases-loop-attribute
decreases-loop-attribute l = length (attributes_left l.attributes)

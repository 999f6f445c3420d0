use Rattle.std.proofs.Common.{◌≡◌, drop}
use Rattle.std.specs.Prelude.{find}
use Rattle.volume_def.specs.Files.{is_of}
use Rattle.file_record.specs.Held.{attributes_held, parts_held}
use Rattle.file_record.specs.Left.{attributes_left}
use Rattle.tree_read.proofs.node.find_part.Given as goal

-- the parts that were passed over are of other types or names
abbrev pub invariant-loop-index : goal.invariant-loop-index
invariant-loop-index l = record {
  left : attributes_left l.attributes ≡ drop l.index (attributes_held l.file);
  found : find (is_of l.kind l.name) (drop l.index (parts_held l.file)) ≡ find (is_of l.kind l.name) (parts_held l.file);
}

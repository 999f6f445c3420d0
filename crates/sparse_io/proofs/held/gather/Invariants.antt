use Rattle.std.proofs.Common.{◌≡◌, ◌++◌, drop}
use Rattle.attr_store.specs.Held.{attributes_held, parts_held}
use Rattle.attr_store.specs.Left.{attributes_left}
use Rattle.sparse_io.specs.Held.{kept_from}
use Rattle.sparse_io.proofs.held.gather.Given as goal

-- what is kept of the parts that were gone over, and what will be of those that are left
abbrev pub invariant-loop-place : goal.invariant-loop-place
invariant-loop-place l = record {
  left : attributes_left l.attributes ≡ drop l.place (attributes_held l.file);
  kept : l.streams.items ++ kept_from l.place (drop l.place (parts_held l.file)) ≡ kept_from 0 (parts_held l.file);
}

use Rattle.std.proofs.Common.{◌≡◌, None, drop}
use Rattle.file_record.specs.Held.{attributes_held, parts_held}
use Rattle.file_record.specs.Left.{attributes_left}
use Rattle.attr_store.specs.First.{FirstMet}
use Rattle.attr_store.proofs.first.find_first.Given as goal

-- the parts that were passed over are not sought
abbrev pub invariant-loop-index : goal.invariant-loop-index
invariant-loop-index l = record {
  left : attributes_left l.attributes ≡ drop l.index (attributes_held l.file);
  found : FirstMet l.file l.kind l.name (drop l.index (parts_held l.file)) None;
}

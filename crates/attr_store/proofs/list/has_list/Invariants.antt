use Rattle.std.proofs.Common.{◌≡◌, drop}
use Rattle.std.specs.List.{list_any}
use Rattle.volume_def.specs.ListsClause.{is_list}
use Rattle.file_record.specs.Held.{attributes_held, parts_held}
use Rattle.file_record.specs.Left.{attributes_left}
use Rattle.attr_store.proofs.list.has_list.Given as goal

-- the parts that were passed over are no lists
abbrev pub invariant-loop-index : goal.invariant-loop-index
invariant-loop-index l = record {
  left : attributes_left l.attributes ≡ drop l.index (attributes_held l.file);
  found : list_any is_list (drop l.index (parts_held l.file)) ≡ list_any is_list (parts_held l.file);
}

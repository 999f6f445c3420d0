use Rattle.std.proofs.Common.{◌≡◌, drop}
use Rattle.attr_store.specs.Held.{attributes_held, parts_held}
use Rattle.attr_store.specs.Left.{attributes_left}
use Rattle.index_store.specs.PartsMet.{ArePartsMet}
use Rattle.index_store.proofs.parts_met.seek_index.Given as goal

-- what is known once the parts before this one were gone over
abbrev pub invariant-loop-index : goal.invariant-loop-index
invariant-loop-index l = record {
  left : attributes_left l.attributes ≡ drop l.index (attributes_held l.file);
  seen : ArePartsMet l.file l.name (drop l.index (parts_held l.file)) l.seen;
}

use Rattle.std.proofs.Common.{◌≡◌, ◌≤◌, ◌*◌, length, take}
use Rattle.std.specs.List.{flat_map}
use Rattle.file_record.specs.Held.{attributes_in}
use Rattle.file_record.proofs.parts.FileParts.count.Given as goal

abbrev pub invariant-loop-held : goal.invariant-loop-held
invariant-loop-held l = record {
  total : l.count ≡ length (flat_map attributes_in (take l.held-index l.held-items));
  few : l.count ≤ 1024 * l.held-index;
}

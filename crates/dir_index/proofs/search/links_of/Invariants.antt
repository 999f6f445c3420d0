use Rattle.std.proofs.Common.{◌≡◌, take}
use Rattle.std.specs.List.{filter_map}
use Rattle.dir_index.specs.Links.{link_in}
use Rattle.dir_index.proofs.search.links_of.Given as goal

abbrev pub invariant-loop-entry : goal.invariant-loop-entry
invariant-loop-entry l = l.links.items ≡ filter_map link_in (take l.entry-index l.fn.entries)

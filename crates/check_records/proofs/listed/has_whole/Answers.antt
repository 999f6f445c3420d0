use Rattle.std.proofs.Common.{ap, map, ◌∙◌}
use Rattle.list_laws.proofs.SameItemsLaws.{SameItems-map, SameItems-same, SameItems-trans}
use Rattle.file_clauses.specs.Extents.{outline_of, outlined}
use Rattle.check_records.specs.Listed.{all_parts}
use Rattle.check_records.proofs.listed.has_whole.Goals as goal

pub returns : goal.returns
returns c = λ parts same.
    c.are_whole-whole.ensures parts
    (SameItems-trans (map outlined c.deref_mut.result.now) (map outline_of (all_parts c.args.held.now)) (map outline_of parts)
    (SameItems-same (map outlined c.deref_mut.result.now) (map outline_of (all_parts c.args.held.now))
    (ap (map outlined) c.deref_mut.ensures.value ∙ c.in_ok-extents.ensures))
    (SameItems-map outline_of (all_parts c.args.held.now) parts same))

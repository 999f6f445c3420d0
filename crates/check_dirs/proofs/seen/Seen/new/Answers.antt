use Rattle.std.proofs.Common.{◌∙◌, [], ap}
use Rattle.list_laws.proofs.SameItemsLaws.{SameItems-same}
use Rattle.check_dirs.specs.Seen.{links_of_entries, marked}
use Rattle.check_dirs.proofs.SeenLaws.{marked_none}
use Rattle.check_dirs.proofs.seen.Seen.new.Goals as goal

pub returns-clause-none : goal.returns-clause-none
returns-clause-none c =
    let all = links_of_entries c.args.entries.items in
    SameItems-same (marked c.in_ok-met.met.items all) []
    (ap (λ marks. marked marks all) (c.in_ok-met.ensures.items_if_clones_equal (λ y h. h)) ∙ marked_none c.len.result all)

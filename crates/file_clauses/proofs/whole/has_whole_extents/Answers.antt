use Rattle.std.proofs.Common.{ap, map, ◌∙◌}
use Rattle.attr_view.specs.View.{viewed_block}
use Rattle.volume_def.specs.Files.{record_of}
use Rattle.list_laws.proofs.SameItemsLaws.{SameItems-same}
use Rattle.file_clauses.specs.Extents.{outline_of, outlined}
use Rattle.file_clauses.proofs.InOrderLaws.{alone-meets}
use Rattle.file_clauses.proofs.whole.has_whole_extents.Goals as goal

pub returns-clause-meets : goal.returns-clause-meets
returns-clause-meets c = λ records here inside base alone.
    let r = record_of c.args.n (viewed_block c.args.view.now) in
    alone-meets records c.args.cluster_bytes c.args.n r c.are_whole.result here inside base alone
    (c.are_whole.ensures r.parts (SameItems-same (map outlined c.deref_mut.result.now) (map outline_of r.parts)
    (ap (map outlined) c.deref_mut.ensures.value ∙ c.in_ok-extents.ensures c.args.n)))

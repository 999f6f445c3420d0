use Rattle.std.proofs.Common.{map, rules}
use Rattle.std.proofs.lemmas.List.Sorted.{answers_always}
use Rattle.file_clauses.specs.Extents.{outline_of, outlined}
use Rattle.file_clauses.proofs.InOrderLaws.{extent_lt, extent_ranks, moved-outlines, sorted-from}
use Rattle.file_clauses.proofs.OutlineLaws.{whole-parts}
use Rattle.file_clauses.proofs.whole.are_whole.Goals as goal

pub are_whole_in_order-requires : goal.are_whole_in_order-requires
are_whole_in_order-requires c = sorted-from c.sort_unstable_by.new.self
    (c.sort_unstable_by.ensures.sorted extent_lt extent_ranks (answers_always _ _ _ (λ f a r g h. search rules)))

pub returns : goal.returns
returns c = λ parts same. whole-parts c.args.cluster_bytes c.args.f
    (map outlined c.sort_unstable_by.new.self) parts c.are_whole_in_order.result
    (moved-outlines c.args.extents.now c.sort_unstable_by.new.self (map outline_of parts) c.sort_unstable_by.ensures.permutation same)
    c.are_whole_in_order.ensures

use Rattle.std.proofs.Common.{rules}
use Rattle.std.proofs.lemmas.List.Sorted.{answers_always}
use Rattle.tree_read.proofs.SortLaws.{line-ranks, line_below, sorted-lines}
use Rattle.tree_read.proofs.links.sort_lines.Goals as goal

pub returns : goal.returns
returns c =
    sorted-lines c.args.lines.now.items c.sort_by.new.self.items
    (c.in_ok-sort_by.ensures.sorted line_below line-ranks (answers_always _ _ _ (λ f a r q h. search rules)))
    (c.in_ok-sort_by.ensures.stable line_below line-ranks (answers_always _ _ _ (λ f a r q h. search rules)))

use Rattle.std.proofs.Common.{rules}
use Rattle.std.proofs.lemmas.Fn.{always_returns_same}
use Rattle.ntfs_def.specs.KeyOrder.{fold_of}
use Rattle.tree_read.proofs.SortLaws.{link-ranks, link_below, sorted-links}
use Rattle.tree_read.proofs.links.sort_links.Goals as goal

pub returns : goal.returns
returns c =
    let fold = fold_of c.args.case.now in
    sorted-links fold c.args.links.now.items c.sort_by.new.self.items
    (c.in_ok-sort_by.ensures.sorted (link_below fold) (link-ranks fold) (always_returns_same _ _ _ (λ a r q h. search rules)))
    (c.in_ok-sort_by.ensures.stable (link_below fold) (link-ranks fold) (always_returns_same _ _ _ (λ a r q h. search rules)))

use Rattle.std.proofs.Common.{◌≡◌, drop, find}
use Rattle.ntfs_def.specs.KeyOrder.{fold_of}
use Rattle.tree_model.specs.Tree.{are_same}
use Rattle.sparse_io.specs.declared.held.HeldStream.{HeldStream}
use Rattle.sparse_io.proofs.find.seek_same.Given as goal

-- the streams that were passed over are not the same
abbrev pub invariant-streams : goal.invariant-streams
invariant-streams l =
    find (λ (kept : HeldStream). are_same (fold_of l.upcase) kept.name l.name) (drop l.kept-index l.streams)
    ≡ find (λ (kept : HeldStream). are_same (fold_of l.upcase) kept.name l.name) l.streams

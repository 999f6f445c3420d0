use Rattle.std.proofs.Common.{◌≡◌, drop, find}
use Rattle.ntfs_def.specs.KeyOrder.{fold_of}
use Rattle.plain_tree.specs.Plain.{is_called}
use Rattle.plain_tree.proofs.tree.PlainTree.first_stream.Given as goal

abbrev pub invariant-streams : goal.invariant-streams
invariant-streams l =
    find (λ stream. is_called (fold_of l.self.case) l.exact stream.name l.name) (drop l.stream-index l.streams)
    ≡ find (λ stream. is_called (fold_of l.self.case) l.exact stream.name l.name) l.streams

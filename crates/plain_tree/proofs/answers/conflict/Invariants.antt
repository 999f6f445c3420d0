use Rattle.std.proofs.Common.{◌≡◌, ◌==◌, ◌&&◌, drop, find, not}
use Rattle.tree_model.specs.declared.opens.OpenEntry.{OpenEntry}
use Rattle.plain_tree.proofs.answers.conflict.Given as goal

abbrev pub invariant-opens : goal.invariant-opens
invariant-opens l =
    find (λ (entry : OpenEntry). (entry.file == l.file) && not entry.share.r) (drop l.entry-index l.opens)
    ≡ find (λ (entry : OpenEntry). (entry.file == l.file) && not entry.share.r) l.opens

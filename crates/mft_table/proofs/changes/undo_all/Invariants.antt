use Rattle.std.proofs.Common.{◌≡◌, vec_len}
use Rattle.mft_table.specs.Changes.{ShowAll, before_all}
use Rattle.mft_table.proofs.changes.undo_all.Given as goal

-- what is left is shown, and leads to the same tables
abbrev pub invariant-changes : goal.invariant-changes
invariant-changes l = record {
  shown : ShowAll l.mounted l.changes.items;
  same : before_all l.changes.items l.mounted ≡ before_all l.initial.changes.items l.initial.mounted;
}

abbrev pub decreases-changes : goal.decreases-changes
decreases-changes l = vec_len l.changes

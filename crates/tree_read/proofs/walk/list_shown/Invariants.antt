use Rattle.std.proofs.Common.{◌≡◌, ℕ, Ok, length}
use Rattle.std.specs.Vec.Iter.{into_iter_items, into_iter_len}
use Rattle.tree_read.specs.Answered.{Finds}
use Rattle.tree_read.specs.Nodes.{number_of}
use Rattle.tree_read.proofs.ListSteps.{AreListed}
use Rattle.tree_read.proofs.walk.list_shown.Given as goal

abbrev pub invariant-links : goal.invariant-links
invariant-links g l = record {
  goes : (goal.iterator-links g).can_next l.link-iterator;
  ends : (goal.iterator-links g).is_finite l.link-iterator;
  counted : into_iter_len l.link-iterator ≡ length (into_iter_items l.link-iterator);
  listed : Finds g.D.Disk l.fn.mft l.mft
      (λ volume (_ : ℕ). AreListed volume (number_of l.dir) l.above l.lines.items (into_iter_items l.link-iterator)) (Ok 0);
}

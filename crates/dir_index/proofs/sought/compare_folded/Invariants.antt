use Rattle.std.proofs.Common.{◌≡◌, drop}
use Rattle.ntfs_def.specs.KeyOrder.{fold_of}
use Rattle.dir_index.specs.Sought.{sought_units}
use Rattle.dir_index.specs.SoughtLaws.{by_fold}
use Rattle.dir_index.proofs.sought.compare_folded.Given as goal

abbrev pub invariant-loop-place : goal.invariant-loop-place
invariant-loop-place l =
    by_fold (fold_of l.upcase) (drop l.place (sought_units l.name l.a)) (drop l.place (sought_units l.name l.b))
    ≡ by_fold (fold_of l.upcase) (sought_units l.name l.a) (sought_units l.name l.b)

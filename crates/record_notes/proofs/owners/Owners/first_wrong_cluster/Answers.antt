use Rattle.std.proofs.Common.{◌≤◌, arith, sym, subst, refl}
use Rattle.std.proofs.lemmas.Bool.{both_ways}
use Rattle.volume_def.specs.Coverage.{times_covered}
use Rattle.record_notes.proofs.OwnersLaws.{owners-met}
use Rattle.record_notes.proofs.RecordsLaws.{boot_runs_below-all}
use Rattle.record_notes.proofs.owners.Owners.first_wrong_cluster.Goals as goal

pub returns-then-not-self : goal.returns-then-not-self
returns-then-not-self c = λ records notes. (
  λ meets. both_ways _ c.if-not-self.true (notes.boot.1
      (subst (λ runs. 1 ≤ times_covered runs 0) (sym (boot_runs_below-all records)) (meets.boot refl))),
  λ m h. absurd (omega arith),
)

pub returns : goal.returns
returns c = λ records notes. owners-met records c.args.self.now c.if-not-self.false notes

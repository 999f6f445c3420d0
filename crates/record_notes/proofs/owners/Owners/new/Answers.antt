use Rattle.std.proofs.Common.{ap, arith, subst, sym}
use Rattle.volume_def.specs.Coverage.{times_covered}
use Rattle.record_notes.specs.Owners.{RunsNote}
use Rattle.record_notes.proofs.RecordsLaws.{boot_runs_below-none, runs_below-none}
use Rattle.record_notes.proofs.owners.Owners.new.Goals as goal

pub returns-clause-none : goal.returns-clause-none
returns-clause-none c = λ records. record {
  owned = subst (λ runs. RunsNote runs c.in_ok-owned.owned) (sym (runs_below-none records)) c.in_ok-owned.ensures.none;
  boot = (
    λ owns. absurd (cc),
    λ some.
        let none = ap (λ runs. times_covered runs 0) (boot_runs_below-none records) in
        absurd (omega arith),
  );
}

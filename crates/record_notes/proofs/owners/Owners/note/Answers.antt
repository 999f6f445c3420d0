use Rattle.std.proofs.Common.{◌≤◌, ◌∙◌, ◌||◌, subst, sym, IsTrue}
use Rattle.std.specs.Prelude.{◌↔◌, flat_map}
use Rattle.ntfs_def.specs.Attribute.{attributes}
use Rattle.attr_view.specs.View.{viewed_block}
use Rattle.volume_def.specs.Coverage.{times_covered}
use Rattle.record_notes.specs.Owners.{RunsNote, boot_runs_below, runs_below, unnamed_data_runs}
use Rattle.record_notes.proofs.CoverageLaws.{covered-or}
use Rattle.record_notes.proofs.RecordsLaws.{boot_runs_below-other, boot_runs_below-own, runs_below-record}
use Rattle.record_notes.proofs.owners.Owners.note.Goals as goal

pub returns-then-file-ne-BOOT-clause-noted : goal.returns-then-file-ne-BOOT-clause-noted
returns-then-file-ne-BOOT-clause-noted c = λ records n at file notes.
    let block = viewed_block c.args.view.now in
    record {
      owned = subst (λ runs. RunsNote runs c.note_record.new.self) (sym (runs_below-record records n block at))
          (c.in_ok-note_record.ensures.noted (runs_below records n) notes.owned);
      boot = subst (λ runs. IsTrue c.args.self.now.boot ↔ (1 ≤ times_covered runs 0))
          (sym (boot_runs_below-other records n block at (λ e. c.if-file-ne-BOOT.true (sym file ∙ e)))) notes.boot;
    }

pub returns-clause-noted : goal.returns-clause-noted
returns-clause-noted c = λ records n at file notes.
    let block = viewed_block c.args.view.now in
    record {
      owned = subst (λ runs. RunsNote runs c.note_record.new.self) (sym (runs_below-record records n block at))
          (c.in_ok-note_record.ensures.noted (runs_below records n) notes.owned);
      boot = subst (λ runs. IsTrue (c.args.self.now.boot || c.in_ok-owns.owns) ↔ (1 ≤ times_covered runs 0))
          (sym (boot_runs_below-own records n block at (file ∙ c.if-file-ne-BOOT.false)))
          (covered-or (boot_runs_below records n) (flat_map unnamed_data_runs (attributes block)) c.args.self.now.boot c.in_ok-owns.owns 0
          notes.boot c.in_ok-owns.ensures);
    }

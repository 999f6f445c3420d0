use Rattle.std.proofs.Common.{refl}
use Rattle.mft_table.specs.Mft.{view}
use Rattle.tree_model.specs.Answers.{shown_link}
use Rattle.tree_model.specs.Reading.{read}
use Rattle.tree_read.proofs.GivesLaws.{both, handed-on, tells}
use Rattle.tree_read.proofs.SortLaws.{lines-more}
use Rattle.tree_read.proofs.links.lines_of.Goals as goal

pub returns-in_err-line : goal.returns-in_err-line
returns-in_err-line g c = record {
  found = rw (handed-on c.from_residual.result c.in_err-line.field-0.0 c.from_residual.ensures.1)
      (tells (both c.loop-link.invariant c.in_err-line.ensures.found) refl (λ told is. is.1));
}

pub returns-in-Err : goal.returns-in-Err
returns-in-Err g c = record {
  found = tells (both c.loop-link.invariant c.in_ok-line.ensures.found) refl (λ told is. refl);
}

pub loop-link-preserved : goal.loop-link-preserved
loop-link-preserved g c =
    tells (both c.loop-link.invariant c.in_ok-line.ensures.found) refl (λ told is. (
      is.1.0,
      lines-more (shown_link (read (view g.D.Disk c.args.mft.now))) c.args.links.now c.loop-link.link-index c.link-item.result
          c.loop-link.lines.items _ c.in_ok-line.line c.loop-link-test.true c.link-item.is c.in-Ok.ensures.items is.0.1 is.1.1,
    ))

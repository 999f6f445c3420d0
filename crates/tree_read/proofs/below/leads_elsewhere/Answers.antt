use Rattle.std.proofs.Common.{refl, sym}
use Rattle.mft_table.specs.Mft.{view}
use Rattle.tree_read.proofs.GivesLaws.{tells}
use Rattle.tree_read.proofs.below.leads_elsewhere.Goals as goal

pub returns-in-Ok : goal.returns-in-Ok
returns-in-Ok g c = record {
  found = tells c.in_ok-found.ensures.found refl (λ told is.
      let v = view g.D.Disk c.args.mft.now in (
        c.in-Ok.ensures v (c.requires.volume told).sound (c.requires.directory told) (sym is.1) is.0,
        is.1,
      ));
}

pub returns-in-Err : goal.returns-in-Err
returns-in-Err g c = record {
  found = tells c.in_ok-found.ensures.found refl (λ told is. refl);
}

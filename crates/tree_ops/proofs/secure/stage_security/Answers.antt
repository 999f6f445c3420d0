use Rattle.std.proofs.Common.{refl, subst}
use Rattle.mft_table.specs.Mft.{view}
use Rattle.made_done.specs.Below.{SetsSecurity}
use Rattle.tree_ops.proofs.secure.stage_security.Goals as goal

pub set_security-requires-clause-can : goal.set_security-requires-clause-can
set_security-requires-clause-can g c = λ told. (c.requires.can told).secure

pub returns-in-Ok-clause-secures : goal.returns-in-Ok-clause-secures
returns-in-Ok-clause-secures g c = λ told.
    let v = view g.D.Disk c.args.mft.now in
    let new = view g.D.Disk c.set_security.new.mft in
    let found = c.args.found.now in
    record {
      found = found;
      file_is = refl;
      can = c.requires.can told;
      sets = subst (λ times. SetsSecurity v new found.number c.args.id times found.flags) c.times_at-times.ensures
          (c.in-Ok.ensures.secured told);
    }

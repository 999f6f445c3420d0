use Rattle.std.proofs.Common.{refl}
use Rattle.tree_read.proofs.LoadLaws.{file-found}
use Rattle.tree_read.proofs.load.load_file.Goals as goal

pub returns-in-Ok-Some-clause-found : goal.returns-in-Ok-Some-clause-found
returns-in-Ok-Some-clause-found g c =
    let e = c.in-Ok-Some.ensures in
    file-found g.D.Disk _ _ c.args.file c.in-Ok-Some.field-0 c.in-Ok-Some.held c.in-Ok-Some.field-0-is c.requires.volume e.reads e.faults
    e.number e.header e.parts

pub returns-in-Ok-None-clause-found : goal.returns-in-Ok-None-clause-found
returns-in-Ok-None-clause-found g c = record {
  reads = 20678;
  only = c.in-Ok-None.ensures.reads;
  counts = c.in-Ok-None.ensures.faults;
  is = λ told. refl;
}

use Rattle.std.proofs.Common.{◌≡◌, ℕ, ◌*◌, List, length, Option, sym, subst}
use Rattle.std.specs.Prelude.{IfSome}
use Rattle.vol_stage.specs.Staged.{image}
use Rattle.vol_stage.proofs.ImageLaws.{length-image_of}
use Rattle.vol_stage.proofs.stage.Stage.sectors.Goals as goal

pub returns-clause-length : goal.returns-clause-length
returns-clause-length g c =
    let stage = c.args.self.now in
    let now : Option (List ℕ) = image g.D.Disk stage in
    subst (λ (n : ℕ). IfSome now (λ all. length all ≡ 512 * n)) (sym c.sectors.ensures)
    (length-image_of stage.writes.items (g.D.Disk.size stage.disk.now) stage.within stage.whole (g.D.Disk.now stage.disk.now)
    (g.met.D.Disk.told_length stage.disk.now))

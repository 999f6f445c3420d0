use Rattle.std.proofs.Common.{◌∙◌, sym}
use Rattle.vol_disk.specs.Contents.{IsTold}
use Rattle.vol_stage.proofs.ImageLaws.{image_of-plain, image_of-write, is_some-image_of}
use Rattle.vol_stage.proofs.stage.Stage.read.Goals as goal

pub returns-in-Some-clause-read : goal.returns-in-Some-clause-read
returns-in-Some-clause-read g c told =
    let old = c.args.self.now in
    let found = rw c.deref.ensures.value at c.in-Some.ensures.found in
    image_of-write old.writes.items (g.D.Disk.size old.disk.now) old.within old.whole (g.D.Disk.now old.disk.now) _ old.rising
    (g.met.D.Disk.told_length old.disk.now) found told

pub returns-clause-read : goal.returns-clause-read
returns-clause-read g c told =
    let old = c.args.self.now in
    let now = g.D.Disk.now old.disk.now in
    let not = rw c.deref.ensures.value at c.in_default.ensures.none in
    let below : IsTold now = sym (is_some-image_of now old.writes.items) ∙ told in
    c.in_ok-read.ensures.read below
    ∙ sym (image_of-plain old.writes.items (g.D.Disk.size old.disk.now) old.within old.whole now c.args.sector
    (g.met.D.Disk.told_length old.disk.now) not)

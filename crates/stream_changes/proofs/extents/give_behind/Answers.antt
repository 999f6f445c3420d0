use Rattle.std.proofs.Common.{◌≡◌, ◌∙◌, ap, subst, List, Option}
use Rattle.ntfs_def.specs.Runs.{clusters_of}
use Rattle.ntfs_def.specs.declared.run_text.Run.{Run}
use Rattle.volume_def.specs.Files.{content_runs}
use Rattle.file_record.specs.Written.{PartHeld}
use Rattle.stored_bits.proofs.DeviceKept.{device-same}
use Rattle.stream_changes.proofs.ExtentDone.{given-behind}
use Rattle.stream_changes.proofs.extents.give_behind.Goals as goal

pub returns-in_err-runs-clause-device : goal.returns-in_err-runs-clause-device
returns-in_err-runs-clause-device g c = device-same g.D.Disk c.args.mft.now

pub returns-in_default-clause-device : goal.returns-in_default-clause-device
returns-in_default-clause-device g c = device-same g.D.Disk c.args.mft.now

pub returns-in_err-behind-clause-device : goal.returns-in_err-behind-clause-device
returns-in_err-behind-clause-device g c = device-same g.D.Disk c.args.mft.now

pub returns-clause-gives : goal.returns-clause-gives
returns-clause-gives g c =
    given-behind g.D.Disk c.args.mft.now c.give_back.new.mft c.args.held.now c.args.i c.args.count c.in-Some.runs c.deref.result.now
    (subst (λ (o : Option (List Run)). PartHeld c.args.held.now c.args.i (λ part. o ≡ content_runs part.content)) c.in-Some.is
    c.in_ok-runs.ensures)
    (ap clusters_of c.deref.ensures.value ∙ c.in_ok-behind.ensures.clusters)
    c.give_back.ensures.places c.give_back.ensures.few c.give_back.result c.give_back.ensures.given c.give_back.ensures.stored

use Rattle.std.proofs.Common.{◌+◌, ◌*◌, ◌<◌, ◌≤◌, length, refl, sym, ap, subst, ◌∙◌}
use Rattle.std.proofs.lemmas.Result.{on_ok_weaker}
use Rattle.volume_def.specs.Coverage.{IsApart}
use Rattle.volume_def.specs.Table.{TableLayout}
use Rattle.mft_table.specs.declared.mounted.Mounted.{Mounted}
use Rattle.mft_table.specs.Changes.{with_record_given}
use Rattle.mft_table.specs.MirrorClusters.{IsMirrorInside}
use Rattle.mft_table.specs.Mft.{stage_of, view}
use Rattle.mft_table.specs.Mounted.{mounted_layout}
use Rattle.file_makes.proofs.MakeLaws.{device-after}
use Rattle.file_makes.proofs.RecordSteps.{staged-then}
use Rattle.file_drops.proofs.free.leave_record.Goals as goal

pub free_one-requires-clause-inside : goal.free_one-requires-clause-inside
free_one-requires-clause-inside g c =
    subst (λ (m : Mounted). c.args.n < length m.records) (sym c.quit_name.ensures.disk.mounted) c.requires.inside

pub free_one-requires-clause-mirror : goal.free_one-requires-clause-mirror
free_one-requires-clause-mirror g c = subst IsMirrorInside (sym c.quit_name.ensures.disk.mounted) c.requires.mirror

pub free_one-requires-clause-sound : goal.free_one-requires-clause-sound
free_one-requires-clause-sound g c = c.quit_name.ensures.disk.broken ∙ c.requires.sound

pub returns-clause-leaves : goal.returns-clause-leaves
returns-clause-leaves g c =
    let layout = ap mounted_layout c.quit_name.ensures.disk.mounted in
    on_ok_weaker c.free_one.result (λ frees told. record {
      counted = view g.D.Disk c.quit_name.new.mft;
      quits = c.in_ok-quit_name.ensures.quits told;
      frees =
          let one = c.requires.one told in
          frees (subst IsApart (sym layout) one.apart)
          (subst (λ (l : TableLayout). 1024 * c.args.n + 1024 ≤ l.initialized) (sym layout) one.written);
    }) c.free_one.ensures.frees

pub returns-clause-bits : goal.returns-clause-bits
returns-clause-bits g c = on_ok_weaker c.free_one.result
    (λ bits. bits ∙ ap (λ (m : Mounted). with_record_given m c.args.n) c.quit_name.ensures.disk.mounted) c.free_one.ensures.bits

pub returns-clause-places : goal.returns-clause-places
returns-clause-places g c told =
    let a = c.args.mft.now in
    let b = c.quit_name.new.mft in
    staged-then g.D.Disk (view g.D.Disk a).layout (view g.D.Disk b).layout c.args.n c.args.n (stage_of g.D.Disk a) (stage_of g.D.Disk b)
    (stage_of g.D.Disk c.free_one.new.mft) (ap mounted_layout c.quit_name.ensures.disk.mounted) refl (c.quit_name.ensures.places told)
    c.free_one.ensures.places

pub returns-clause-device : goal.returns-clause-device
returns-clause-device g c =
    device-after g.D.Disk c.args.mft.now c.quit_name.new.mft c.free_one.new.mft c.quit_name.ensures.disk c.free_one.ensures.device

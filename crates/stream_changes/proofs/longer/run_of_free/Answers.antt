use Rattle.std.proofs.Common.{ap, length, refl, sym, subst, ◌∙◌}
use Rattle.vol_stage.specs.Staged.{disk_of}
use Rattle.mft_table.specs.declared.mounted.Mounted.{Mounted}
use Rattle.mft_table.specs.Mft.{stage_of, view}
use Rattle.stored_bits.specs.Taken.{AreFlagsOf}
use Rattle.stored_bits.proofs.FreeRuns.{free-unowned}
use Rattle.stream_changes.proofs.RunsReached.{within-reach}
use Rattle.stream_changes.proofs.longer.run_of_free.Goals as goal

pub returns-clause-some : goal.returns-clause-some
returns-clause-some g c =
    let a = c.args.mft.now in
    let layout = (view g.D.Disk a).layout in
    let disk = disk_of g.D.Disk (stage_of g.D.Disk a) in
    let many = ap (λ (m : Mounted). length m.clusters) c.mounted.ensures ∙ a.stands.clusters in
    record {
      len = refl;
      placed = refl;
      new = record {
        some = c.requires;
        reach = within-reach c.mounted.result.now.clusters layout.clusters layout.cluster_sectors (g.D.Disk.size disk) c.in_ok-lcn.lcn
            c.args.count many a.stands.table.on_disk a.stands.table.some (g.met.D.Disk.size_fits disk) c.requires
            c.in_ok-lcn.ensures.first.free;
      };
    }

pub returns-clause-unowned : goal.returns-clause-unowned
returns-clause-unowned g c = λ view flags.
    free-unowned view c.args.count c.in_ok-lcn.lcn c.requires
    (c.in_ok-lcn.ensures.some view (subst (λ (m : Mounted). AreFlagsOf view m.clusters) (sym c.mounted.ensures) flags))

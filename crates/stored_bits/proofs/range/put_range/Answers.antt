use Rattle.std.proofs.Common.{◌+◌, ◌≤◌, length, sym, subst, ap, ◌∙◌, rules, arith}
use Rattle.std.specs.Prelude.{Contains}
use Rattle.vol_stage.specs.declared.stage.Stage.{Stage}
use Rattle.vol_stage.specs.Staged.{places}
use Rattle.volume_def.specs.View.{VolumeView}
use Rattle.mft_table.specs.declared.mounted.Mounted.{Mounted}
use Rattle.mft_table.specs.Mft.{mounted_of, view}
use Rattle.stored_bits.specs.PutFlags.{PutsFlags, with_clusters_put}
use Rattle.stored_bits.specs.HeldBits.{ShowsStored}
use Rattle.stored_bits.proofs.DeviceKept.{device-same}
use Rattle.stored_bits.proofs.HeldStill.{stays-still}
use Rattle.stored_bits.proofs.StoredStill.{stored-put}
use Rattle.stored_bits.proofs.range.put_range.Goals as goal

pub returns-then-not-are_all-clause-device : goal.returns-then-not-are_all-clause-device
returns-then-not-are_all-clause-device g c = device-same g.D.Disk c.args.mft.now

pub returns-clause-put : goal.returns-clause-put
returns-clause-put g c told h stored each =
    let old = view g.D.Disk c.args.mft.now in
    let new = view g.D.Disk c.put_noted.new.mft in
    let mounted = mounted_of g.D.Disk c.args.mft.now in
    let count : c.args.at + c.args.len ≤ length mounted.clusters = search rules in
    let inside : c.args.at + c.args.len ≤ old.layout.clusters = omega (arith, count, c.args.mft.now.stands.clusters) in
    let put = subst (λ (v : VolumeView). PutsFlags c.args.value old v c.args.at c.args.len) (sym c.put_noted.ensures.view)
    (c.in_ok-put_stored.ensures.put told mounted.upcase h inside) in
    let same = c.in_ok-put_noted.ensures.put
    ∙ ap (λ (m : Mounted). with_clusters_put c.args.value m c.args.at c.args.len) c.put_stored.ensures.disk.mounted in (
      put,
      subst (λ (m : Mounted). ShowsStored new m) (sym same)
          (stored-put c.args.value old new h.can c.args.at c.args.len put mounted.clusters mounted.records mounted.upcase stored inside),
    )

pub returns-clause-stays : goal.returns-clause-stays
returns-clause-stays g c told h =
    let old = view g.D.Disk c.args.mft.now in
    let new = view g.D.Disk c.put_noted.new.mft in
    let mounted = mounted_of g.D.Disk c.args.mft.now in
    let count : c.args.at + c.args.len ≤ length mounted.clusters = search rules in
    let inside : c.args.at + c.args.len ≤ old.layout.clusters = omega (arith, count, c.args.mft.now.stands.clusters) in
    let put = subst (λ (v : VolumeView). PutsFlags c.args.value old v c.args.at c.args.len) (sym c.put_noted.ensures.view)
    (c.in_ok-put_stored.ensures.put told mounted.upcase h inside) in
    let same = c.in_ok-put_noted.ensures.put
    ∙ ap (λ (m : Mounted). with_clusters_put c.args.value m c.args.at c.args.len) c.put_stored.ensures.disk.mounted in
    stays-still c.args.value old new mounted.upcase (mounted_of g.D.Disk c.put_noted.new.mft).upcase c.args.bits.now.file
    c.args.bits.now.found (ap (λ (m : Mounted). m.upcase) same) h c.args.at c.args.len put

pub returns-clause-places : goal.returns-clause-places
returns-clause-places g c told table h sector there =
    c.put_stored.ensures.places told table h sector
    (subst (λ (s : Stage g.row.D.Denot g.D.Disk). Contains (places g.D.Disk s) sector) c.put_noted.ensures.stage there)

pub returns-in_err-put_noted-clause-places : goal.returns-in_err-put_noted-clause-places
returns-in_err-put_noted-clause-places g c told table h sector there =
    c.put_stored.ensures.places told table h sector
    (subst (λ (s : Stage g.row.D.Denot g.D.Disk). Contains (places g.D.Disk s) sector) c.put_noted.ensures.stage there)

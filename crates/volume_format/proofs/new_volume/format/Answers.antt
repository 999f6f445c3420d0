use Rattle.std.proofs.Common.{◌≡◌, ℕ, ◌*◌, ◌≤◌, List, length, Ok, Err, inr, sym, ap, subst, ◌∙◌}
use Rattle.std.specs.Prelude.{IfSome, Result, is_some}
use Rattle.std.specs.Result.{IsErrAnd}
use Rattle.vol_disk.specs.Contents.{IsTold, sector_in}
use Rattle.volume_format.specs.declared.error.FormatNo.{FormatNo}
use Rattle.volume_format.specs.declared.error.FormatNo.TheVariants.{Device, Options}
use Rattle.volume_format.specs.Options.{AreInRange, plan_of}
use Rattle.volume_format.specs.Plan.{Plan, items_end}
use Rattle.volume_format.specs.Written.{ItemsStand, sector_at}
use Rattle.volume_format.proofs.NewImages.{IsNewVolume-stand}
use Rattle.volume_format.proofs.OnDisk.{items_end-on_disk}
use Rattle.volume_format.proofs.Readings.{ReadsAs-new}
use Rattle.volume_format.proofs.new_volume.format.Goals as goal

-- the disk's failure is no fault of the options
not-options : (r : Result ℕ FormatNo) → IsErrAnd r (λ no. no ≡ Device) → r ≡ Err Options → ⊥
not-options (Ok n) device e = device
not-options (Err why) device e = cc

pub put-requires : goal.put-requires
put-requires g c =
    let own = c.is_in_range.ensures.0 c.if-not-is_in_range.false in
    let range = subst (λ (n : ℕ). AreInRange n c.args.options.now) c.sectors.ensures own in
    subst (λ (p : Plan). sector_at p (items_end p) ≤ g.D.Disk.size c.args.disk.now) (sym c.in_ok-made.ensures.places)
    (items_end-on_disk (g.D.Disk.size c.args.disk.now) c.args.options.now range)

pub returns-in_err-put-clause-options : goal.returns-in_err-put-clause-options
returns-in_err-put-clause-options g c =
    let own = c.is_in_range.ensures.0 c.if-not-is_in_range.false in
    let range = subst (λ (n : ℕ). AreInRange n c.args.options.now) c.sectors.ensures own in (
      (λ e _. not-options _ c.from_residual-in_err-put.ensures.1 e),
      (λ none. absurd (none range)),
    )

pub returns-clause-options : goal.returns-clause-options
returns-clause-options g c =
    let own = c.is_in_range.ensures.0 c.if-not-is_in_range.false in
    let range = subst (λ (n : ℕ). AreInRange n c.args.options.now) c.sectors.ensures own in
    ((λ e _. absurd (cc)), (λ none. absurd (none range)))

pub returns-in_err-made-clause-in_range : goal.returns-in_err-made-clause-in_range
returns-in_err-made-clause-in_range g c =
    let own = c.is_in_range.ensures.0 c.if-not-is_in_range.false in
    inr (subst (λ (n : ℕ). AreInRange n c.args.options.now) c.sectors.ensures own)

pub returns-in_err-put-clause-in_range : goal.returns-in_err-put-clause-in_range
returns-in_err-put-clause-in_range g c =
    let own = c.is_in_range.ensures.0 c.if-not-is_in_range.false in
    inr (subst (λ (n : ℕ). AreInRange n c.args.options.now) c.sectors.ensures own)

pub returns-clause-in_range : goal.returns-clause-in_range
returns-clause-in_range g c =
    let own = c.is_in_range.ensures.0 c.if-not-is_in_range.false in
    inr (subst (λ (n : ℕ). AreInRange n c.args.options.now) c.sectors.ensures own)

pub returns-clause-volume : goal.returns-clause-volume
returns-clause-volume g c contents is =
    let own = c.is_in_range.ensures.0 c.if-not-is_in_range.false in
    let range = subst (λ (n : ℕ). AreInRange n c.args.options.now) c.sectors.ensures own in
    let made = c.in_ok-made.made in
    let told : IsTold (g.D.Disk.now c.put.new.disk) = ap is_some is in
    let stand = subst (λ (p : Plan). ItemsStand (sector_in (g.D.Disk.now c.put.new.disk)) p made.boot made.table.items made.root)
    c.in_ok-made.ensures.places (c.in_ok-put.ensures.stand told) in
    let here = subst (λ now. ItemsStand (sector_in now) (plan_of c.args.options.now) made.boot made.table.items made.root) is stand in
    IsNewVolume-stand c.args.options.now (g.D.Disk.size c.args.disk.now) contents made.boot made.table.items made.root range
    c.in_ok-made.ensures.made here

pub returns-clause-reading : goal.returns-clause-reading
returns-clause-reading g c contents is =
    let own = c.is_in_range.ensures.0 c.if-not-is_in_range.false in
    let range = subst (λ (n : ℕ). AreInRange n c.args.options.now) c.sectors.ensures own in
    let len = subst (λ now. IfSome now (λ (all : List ℕ). length all ≡ 512 * g.D.Disk.size c.put.new.disk)) is
    (g.met.D.Disk.told_length c.put.new.disk) in
    ReadsAs-new c.args.options.now (g.D.Disk.size c.args.disk.now) contents range
    (len ∙ ap (λ (n : ℕ). 512 * n) c.put.ensures.size) (returns-clause-volume g c contents is)

pub returns-clause-others : goal.returns-clause-others
returns-clause-others g c sector behind =
    c.in_ok-put.ensures.others sector
    (subst (λ (p : Plan). sector_at p (items_end p) ≤ sector) (sym c.in_ok-made.ensures.places) behind)

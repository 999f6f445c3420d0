-- The items of a new volume lie on the disk.
use Rattle.std.proofs.Common.{ℕ, ◌/◌, ◌≤◌, arith}
use Rattle.std.proofs.Math.Nat.{div-add-mod}
use Rattle.volume_format.specs.Options.{AreInRange, Options, plan_of}
use Rattle.volume_format.specs.Plan.{items_end}
use Rattle.volume_format.specs.Written.{sector_at}
use Rattle.volume_format.proofs.Fits.{FitsPlan-chosen}
use Rattle.volume_format.proofs.Kept.{sector_at-rises}

pub items_end-on_disk : (disk : ℕ) (o : Options) → AreInRange disk o → sector_at (plan_of o) (items_end (plan_of o)) ≤ disk
items_end-on_disk disk o range =
    let fits = FitsPlan-chosen disk o range in
    let rises = sector_at-rises (plan_of o) _ _ fits.items in
    let whole = div-add-mod o.sectors (o.cluster / 512) in
    omega (arith, rises, whole, range.most)

-- options in range on a disk are in range on their own sectors
pub AreInRange-own : (disk : ℕ) (o : Options) → AreInRange disk o → AreInRange o.sectors o
AreInRange-own disk o range = record {
  least = range.least;
  most = omega arith;
  cluster = range.cluster;
  few = range.few;
  named = range.named;
  short = range.short;
}

use Rattle.std.proofs.Common.{◌≡◌, ◌*◌, ℕ, refl, ap}
use Rattle.volume_def.specs.Table.{cluster_bytes}
use Rattle.mft_table.specs.Mft.{view}
use Rattle.extent_edits.proofs.LongerHeld.{cannot-extend, extend-held}
use Rattle.extent_edits.proofs.extend.extend_extent.Goals as goal

pub returns-in_default-clause-extended : goal.returns-in_default-clause-extended
returns-in_default-clause-extended g c = λ told apart whole.
    let old = view g.D.Disk c.args.mft.now in
    let cluster = 512 * c.cluster_sectors.result in
    let wide : cluster ≡ cluster_bytes old.layout = ap (λ (n : ℕ). 512 * n) c.cluster_sectors.ensures.sectors in
    let none = rw c.in_default.is at (c.in_ok-bytes.ensures.none) in
    cannot-extend old old c.args.file.now c.args.place c.args.i cluster c.args.real c.args.initialized c.args.run c.requires.place wide
    whole refl none

pub returns-clause-extended : goal.returns-clause-extended
returns-clause-extended g c = λ told apart whole.
    let old = view g.D.Disk c.args.mft.now in
    let new = view g.D.Disk c.replace_attribute.new.mft in
    let cluster = 512 * c.cluster_sectors.result in
    let wide : cluster ≡ cluster_bytes old.layout = ap (λ (n : ℕ). 512 * n) c.cluster_sectors.ensures.sectors in
    let extended = rw c.in-Some.is at c.in_ok-bytes.ensures.extended in
    let replaced = rw c.deref.ensures.value at (c.in_ok-replace_attribute.ensures.replaced told apart whole) in
    extend-held old new c.args.file.now c.args.place c.args.i cluster c.args.real c.args.initialized c.args.run c.requires.place wide whole
    c.in-Some.bytes.items extended replaced

use Rattle.std.proofs.Common.{◌≡◌, ◌*◌, ℕ, refl, ap}
use Rattle.volume_def.specs.Table.{cluster_bytes}
use Rattle.mft_table.specs.Mft.{view}
use Rattle.extent_edits.proofs.HeldLaws.{cannot-held, cut-held, fits-held}
use Rattle.extent_edits.proofs.extent.cut_extent.Goals as goal

pub returns-in_default-clause-cut : goal.returns-in_default-clause-cut
returns-in_default-clause-cut g c = λ told apart whole.
    let old = view g.D.Disk c.args.mft.now in
    let cluster = 512 * c.cluster_sectors.result in
    let wide : cluster ≡ cluster_bytes old.layout = ap (λ (n : ℕ). 512 * n) c.cluster_sectors.ensures.sectors in
    let none = rw c.in_default.is at (c.in_ok-bytes.ensures.none) in
    cannot-held old old c.args.file.now c.args.place c.args.i cluster c.args.size c.requires.place wide refl whole none

pub replace_attribute-requires-clause-fits : goal.replace_attribute-requires-clause-fits
replace_attribute-requires-clause-fits g c =
    let old = view g.D.Disk c.args.mft.now in
    let cluster = 512 * c.cluster_sectors.result in
    let cut = rw c.in-Some.is at c.in_ok-bytes.ensures.cut in
    rw c.deref.ensures.value (fits-held old old c.args.file.now c.args.place c.args.i cluster c.args.size c.requires.place
    c.in-Some.bytes.items cut)

pub returns-clause-cut : goal.returns-clause-cut
returns-clause-cut g c = λ told apart whole.
    let old = view g.D.Disk c.args.mft.now in
    let new = view g.D.Disk c.replace_attribute.new.mft in
    let cluster = 512 * c.cluster_sectors.result in
    let wide : cluster ≡ cluster_bytes old.layout = ap (λ (n : ℕ). 512 * n) c.cluster_sectors.ensures.sectors in
    let cut = rw c.in-Some.is at c.in_ok-bytes.ensures.cut in
    let replaced = rw c.deref.ensures.value at (c.in_ok-replace_attribute.ensures.replaced told apart whole) in
    cut-held old new c.args.file.now c.args.place c.args.i cluster c.args.size c.requires.place c.in-Some.bytes.items wide whole cut
    replaced

use Rattle.std.proofs.Common.{◌≡◌, ◌*◌, ◌^◌, ◌<◌, ℕ, refl, ap, sym, subst}
use Rattle.volume_def.specs.Table.{cluster_bytes}
use Rattle.mft_table.specs.Mft.{view}
use Rattle.value_moves.proofs.MovedHeld.{cannot-move, move-held}
use Rattle.value_moves.proofs.moves.move_value.Goals as goal

pub moved_held-requires-clause-told : goal.moved_held-requires-clause-told
moved_held-requires-clause-told g c =
    let old = view g.D.Disk c.args.mft.now in
    let wide : 512 * c.cluster_sectors.result ≡ cluster_bytes old.layout = ap (λ (n : ℕ). 512 * n) c.cluster_sectors.ensures.sectors in
    subst (λ (n : ℕ). c.args.run.len * n < 2 ^ 64) (sym wide) c.requires.told

pub returns-in_default-clause-moved : goal.returns-in_default-clause-moved
returns-in_default-clause-moved g c = λ told apart whole.
    let old = view g.D.Disk c.args.mft.now in
    let cluster = 512 * c.cluster_sectors.result in
    let wide : cluster ≡ cluster_bytes old.layout = ap (λ (n : ℕ). 512 * n) c.cluster_sectors.ensures.sectors in
    let none = rw c.in_default.is at (c.in_ok-bytes.ensures.none) in
    cannot-move old old c.args.file.now c.args.place c.args.i cluster c.args.run c.args.real c.args.initialized c.requires.place wide
    whole refl none

pub returns-clause-moved : goal.returns-clause-moved
returns-clause-moved g c = λ told apart whole.
    let old = view g.D.Disk c.args.mft.now in
    let new = view g.D.Disk c.replace_attribute.new.mft in
    let cluster = 512 * c.cluster_sectors.result in
    let wide : cluster ≡ cluster_bytes old.layout = ap (λ (n : ℕ). 512 * n) c.cluster_sectors.ensures.sectors in
    let moved = rw c.in-Some.is at c.in_ok-bytes.ensures.moved in
    let replaced = rw c.deref.ensures.value at (c.in_ok-replace_attribute.ensures.replaced told apart whole) in
    move-held old new c.args.file.now c.args.place c.args.i cluster c.args.run c.args.real c.args.initialized c.requires.place wide whole
    c.in-Some.bytes.items moved replaced

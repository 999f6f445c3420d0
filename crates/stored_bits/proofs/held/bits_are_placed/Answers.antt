use Rattle.std.proofs.Common.{◌∙◌, ap, arith, length}
use Rattle.volume_def.proofs.SoundLaws.{readable-sound}
use Rattle.mft_table.specs.declared.mounted.Mounted.{Mounted}
use Rattle.mft_table.specs.Mft.{mounted_of, view}
use Rattle.stored_bits.proofs.HoldsFound.{bits-file, bits-inside, placed-held}
use Rattle.stored_bits.proofs.held.bits_are_placed.Goals as goal

-- so few records has no sound volume
pub returns-then-count-le-CLUSTER_BITMAP-clause-placed : goal.returns-then-count-le-CLUSTER_BITMAP-clause-placed
returns-then-count-le-CLUSTER_BITMAP-clause-placed g c told =
    let inside = bits-inside (view g.D.Disk c.args.mft.now) (mounted_of g.D.Disk c.args.mft.now) (c.requires.volume told) in
    let few = c.count.ensures ∙ ap (λ (m : Mounted). length m.records) c.mounted.ensures in
    absurd (omega (arith, inside, few, c.if-count-le-CLUSTER_BITMAP.true))

pub returns-clause-placed : goal.returns-clause-placed
returns-clause-placed g c told =
    let volume = view g.D.Disk c.args.mft.now in
    let sound = (c.requires.volume told).sound in
    let given = c.in_ok-file.ensures in
    let are = given.parts told (readable-sound volume sound) (bits-file volume sound) in
    c.is_some.ensures ∙ c.placed_part.ensures.placed ∙ placed-held volume c.in_ok-file.file are given.number

use Rattle.std.proofs.Common.{arith, length, sym, ap, ◌∙◌}
use Rattle.std.specs.Prelude.{is_some}
use Rattle.std.proofs.lemmas.Option.{slice_get_within}
use Rattle.vol_stage.specs.Staged.{disk_of}
use Rattle.mft_table.specs.declared.mounted.Mounted.{Mounted}
use Rattle.mft_table.specs.Mft.{mounted_of, stage_of, view}
use Rattle.file_record.specs.Held.{parts_held}
use Rattle.stored_bits.proofs.HoldsFound.{bits-file, bits-inside, holds-found, placed-held}
use Rattle.volume_def.proofs.SoundLaws.{readable-sound}
use Rattle.stored_bits.proofs.held.hold_bits.Goals as goal

-- so few records has no sound volume
pub returns-then-count-le-CLUSTER_BITMAP-clause-none : goal.returns-then-count-le-CLUSTER_BITMAP-clause-none
returns-then-count-le-CLUSTER_BITMAP-clause-none g c told =
    let inside = bits-inside (view g.D.Disk c.args.mft.now) (mounted_of g.D.Disk c.args.mft.now) (c.requires.volume told) in
    let few = c.count.ensures ∙ ap (λ (m : Mounted). length m.records) c.mounted.ensures in
    absurd (omega (arith, inside, few, c.if-count-le-CLUSTER_BITMAP.true))

pub returns-in_default-clause-none : goal.returns-in_default-clause-none
returns-in_default-clause-none g c told =
    let volume = view g.D.Disk c.args.mft.now in
    let sound = (c.requires.volume told).sound in
    let given = c.in_ok-file.ensures in
    let are = given.parts told (readable-sound volume sound) (bits-file volume sound) in
    sym (placed-held volume c.in_ok-file.file are given.number) ∙ sym c.placed_part.ensures.placed ∙ ap is_some c.in_default.is

pub returns-clause-part : goal.returns-clause-part
returns-clause-part g c =
    let its = c.in-Some.ensures.tells in
    slice_get_within (parts_held c.in_ok-file.file) c.in-Some.first.index its.part its.at

pub returns-clause-holds : goal.returns-clause-holds
returns-clause-holds g c told =
    let volume = view g.D.Disk c.args.mft.now in
    let its = c.requires.volume told in
    let given = c.in_ok-file.ensures in
    let are = given.parts told (readable-sound volume its.sound) (bits-file volume its.sound) in
    holds-found volume (g.D.Disk.size (disk_of g.D.Disk (stage_of g.D.Disk c.args.mft.now))) (mounted_of g.D.Disk c.args.mft.now).upcase
    c.in_ok-file.file c.in-Some.first its.sound (c.requires.owners told) c.args.mft.now.stands.table its.stored.upcase_is are given.number
    c.in-Some.ensures.tells (sym c.placed_part.ensures.placed ∙ ap is_some c.in-Some.is)

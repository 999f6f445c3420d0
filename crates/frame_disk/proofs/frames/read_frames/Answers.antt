use Rattle.std.proofs.Common.{◌≡◌, ◌+◌, ◌-◌, ◌*◌, ◌<◌, ◌≤◌, ◌∙◌, ℕ, arith, length, subst, sym, ap, length-take, length-drop}
use borrow.Rule.Slice.PartMut.{put_mid}
use Rattle.vol_disk.specs.Contents.{sector_in, sector_of}
use Rattle.frame_disk.specs.Frames.{slot_of}
use Rattle.frame_disk.proofs.SectorRanges.{sector-put-in, sector-put-out}
use Rattle.frame_disk.proofs.frames.read_frames.Goals as goal

pub returns-clause-read : goal.returns-clause-read
returns-clause-read g c done told j small =
    let s = slot_of c.args.frame in
    let n = c.args.count in
    let room = c.args.room.now in
    let bytes = c.read_range.new.into in
    let from = c.slot_of-from.result * 4096 in
    let at : from ≡ 512 * (8 * s) = omega (arith, c.slot_of-from.ensures) in
    let many : from + n * 4096 - from ≡ 512 * (8 * n) = omega arith in
    let inside : 512 * (8 * s) + 512 * (8 * n) ≤ length room = omega (arith, c.requires.room, c.requires.slots) in
    let long : length bytes ≡ 512 * (8 * n) = c.read_range.auto.into ∙ simp (length-take, length-drop) (omega (arith, inside)) in
    ap (λ a. sector_of (put_mid a (from + n * 4096 - from) room bytes) (8 * s + j)) at
    ∙ ap (λ m. sector_of (put_mid (512 * (8 * s)) m room bytes) (8 * s + j)) many
    ∙ sector-put-in (8 * s) (8 * n) room bytes long inside j small
    ∙ c.read_range.ensures.read done told j (omega (arith, long))
    ∙ ap (sector_in (g.D.Disk.now c.args.disk.now)) (omega arith)

pub returns-clause-beside : goal.returns-clause-beside
returns-clause-beside g c j beside =
    let s = slot_of c.args.frame in
    let n = c.args.count in
    let room = c.args.room.now in
    let bytes = c.read_range.new.into in
    let from = c.slot_of-from.result * 4096 in
    let at : from ≡ 512 * (8 * s) = omega (arith, c.slot_of-from.ensures) in
    let many : from + n * 4096 - from ≡ 512 * (8 * n) = omega arith in
    let inside : 512 * (8 * s) + 512 * (8 * n) ≤ length room = omega (arith, c.requires.room, c.requires.slots) in
    let long : length bytes ≡ 512 * (8 * n) = c.read_range.auto.into ∙ simp (length-take, length-drop) (omega (arith, inside)) in
    ap (λ a. sector_of (put_mid a (from + n * 4096 - from) room bytes) j) at
    ∙ ap (λ m. sector_of (put_mid (512 * (8 * s)) m room bytes) j) many
    ∙ sector-put-out (8 * s) (8 * n) room bytes long inside j beside

use Rattle.std.proofs.Common.{◌≡◌, ◌≤◌, ◌∙◌, ◌*◌, ◌+◌, ◌-◌, Some, ap, sym, arith, length, take, drop}
use Rattle.vol_disk.specs.Contents.{sector_in, sector_of}
use Rattle.frame_disk.proofs.SectorRanges.{sector-of-part}
use Rattle.frame_disk.proofs.ranges.MemDiskRangeDisk.read_range.Goals as goal

pub returns-clause-read : goal.returns-clause-read
unfolding sector_in
returns-clause-read c done told k within =
    let first = c.args.first in
    let all = c.contents.result.now in
    let long = length c.args.into.now in
    let count : first * 512 + long - first * 512 ≡ long = omega arith in
    let at : first * 512 ≡ 512 * first = omega arith in
    let fits : 512 * k + 512 ≤ long = omega (arith, within, c.copy_from_slice.ensures.len, c.requires.whole) in
    ap (λ bytes. sector_of bytes k) c.copy_from_slice.ensures.after
    ∙ ap (λ n. sector_of (take n (drop (first * 512) all)) k) count
    ∙ ap (λ n. sector_of (take long (drop n all)) k) at
    ∙ sector-of-part all first long k fits
    ∙ ap (λ now. sector_in now (first + k)) c.contents.ensures

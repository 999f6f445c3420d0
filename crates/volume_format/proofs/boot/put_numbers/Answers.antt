use Rattle.std.proofs.Common.{◌≡◌, ◌≢◌, ◌<◌, ℕ, List, length, set, get_or-set_same, get_or-set_other, length-set, arith}
use Rattle.volume_format.proofs.BootLaws.{HasNumbers-written, IsSameElsewhere-written}
use Rattle.volume_format.proofs.boot.put_numbers.Goals as goal

pub returns : goal.returns
returns c =
    let old : List ℕ = c.args.boot.now in
    let start : List ℕ = set old 0x0D c.args.per in
    let long : 0x0D < length old = omega (arith, c.told-boot) in
    let len : length start ≡ length old = length-set old 0x0D c.args.per in
    let first = λ (k : ℕ) (ne : k ≢ 0x0D). get_or-set_other old 0x0D k c.args.per 0 ne in
    let a = c.put_u64.ensures.rest in
    let b = c.put_u64-2.ensures.rest in
    let d = c.put_u64-3.ensures.rest in
    let e = c.put_u64-4.ensures.rest in
    record {
      numbers =
          HasNumbers-written old start _ _ _ _ len first a b d e c.args.per c.args.sectors c.args.mft c.args.mirror c.args.serial
          (get_or-set_same old 0x0D c.args.per 0 long) c.put_u64.ensures.value c.put_u64-2.ensures.value c.put_u64-3.ensures.value
          c.put_u64-4.ensures.value;
      elsewhere = IsSameElsewhere-written old start _ _ _ _ len first a b d e;
    }

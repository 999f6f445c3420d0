use Rattle.std.proofs.Common.{◌≡◌, ◌+◌, ◌-◌, ◌*◌, ◌<◌, length, arith, subst}
use Rattle.std.proofs.lemmas.List.{take_rest}
use Rattle.list_laws.specs.Bits.{bit_in}
use Rattle.list_laws.specs.BitRanges.{IsLeastWithin}
use Rattle.record_notes.proofs.BitmapLaws.{within-skipped}
use Rattle.record_notes.proofs.used.bitmap.first_ordinary_difference.Goals as goal

pub returns : goal.returns
returns c =
    let bits = c.args.bits.now in
    let piece = c.args.piece.now in
    let from = c.args.from in
    let skipped = c.min-skipped.result in
    within-skipped bits piece from skipped c.first_difference.result (omega (arith, c.min-skipped.ensures, c.saturating_sub.ensures))
    (subst (λ rest. IsLeastWithin (λ k. k < 8 * length bits → bit_in rest (k - 8 * (from + skipped)) ≡ bit_in bits k)
    (8 * (from + skipped)) (8 * (from + skipped + length rest)) c.first_difference.result)
    (take_rest piece skipped) c.first_difference.ensures)

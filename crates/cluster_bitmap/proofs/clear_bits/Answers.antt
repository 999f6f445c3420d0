use Rattle.std.proofs.Common.{refl, arith}
use Rattle.std.specs.Prelude.{slice_index}
use Rattle.cluster_bitmap.proofs.CountLaws.{clear-more}
use Rattle.cluster_bitmap.proofs.clear_bits.Goals as goal

pub words-preserved : goal.words-preserved
words-preserved c =
    let word = slice_index c.args.words.now c.words.word-index in
    let more = clear-more c.args.words.now c.words.word-index word refl (omega (arith, c.type_inv.words c.words.word-index)) in
    record {
      total = omega (arith, c.words.invariant.total, c.count_zeros.ensures.value, more);
      small = omega (arith, c.words.invariant.small, c.count_zeros.ensures.bound);
    }

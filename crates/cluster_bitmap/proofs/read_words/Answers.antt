use Rattle.std.proofs.Common.{◌≡◌, ◌*◌, ◌+◌, ◌-◌, ◌++◌, ◌∷◌, [], ap, inl, inr, ◌∙◌, arith}
use Rattle.std.proofs.lemmas.Bool.{cases_lt}
use Rattle.list_laws.specs.Bits.{bit_in}
use Rattle.cluster_bitmap.specs.Words.{bit_of}
use Rattle.cluster_bitmap.proofs.RangeLaws.{bit_of-push_old, bit_of-push_new}
use Rattle.cluster_bitmap.proofs.read_words.Goals as goal

pub loop-place-preserved : goal.loop-place-preserved
loop-place-preserved c = record {
  len = omega (arith, c.in_ok-push.ensures.len, c.loop-place.invariant.len, c.loop-place.words.ok, c.push.new.self.ok);
  bits = λ k low within.
      let place = c.loop-place.place in
      let pushed = c.in_ok-push.ensures.items in
      let len = c.loop-place.invariant.len in
      let words = c.loop-place.words.items in
      rw pushed (elim (cases_lt k (64 * place)) as (λ _. bit_of (words ++ c.word_at.result ∷ []) k ≡ bit_in c.args.bytes.now k) [
        | inl l ↦ bit_of-push_old c.loop-place.words.items c.word_at.result k (omega arith) ∙ c.loop-place.invariant.bits k l within
        | inr g ↦
            let whole : 8 * (8 * place) + (k - 64 * place) ≡ k = omega arith in
            bit_of-push_new c.loop-place.words.items c.word_at.result (k - 64 * place) k (omega arith) (omega arith)
            ∙ c.word_at.ensures (k - 64 * place) (omega arith) (omega arith) ∙ ap (bit_in c.args.bytes.now) whole
      ]);
}

use Rattle.std.proofs.Common.{length, drop, sym, ◌∙◌, ◌≡◌, arith}
use Rattle.std.proofs.lemmas.List.{take_at}
use Rattle.extent_edits.proofs.LongerText.{written-whole}
use Rattle.extent_edits.proofs.longer_text.written_form.Goals as goal

pub returns : goal.returns
returns c =
    let new = c.encode_into.new.out in
    let text = c.in_ok-text.text in
    let old : length c.deref_mut.result.now ≡ text.len = omega (arith, c.deref_mut.ensures.len) in
    let long : length new ≡ text.len = omega (arith, old, c.encode_into.auto.out) in
    rw (take_at new (drop (length new) text.items) text.len long)
    (written-whole c.args.runs.now c.deref_mut.result.now new c.encode_into.result
    (λ form is. c.encoded_len.ensures form is ∙ sym c.in_ok-text.ensures.len ∙ sym old) c.encode_into.ensures.written)

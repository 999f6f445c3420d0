use Rattle.std.proofs.Common.{◌-◌, ◌≤◌, length, drop, arith, subst, sym, ◌∙◌, ap, rules}
use Rattle.std.proofs.lemmas.List.{take_rest}
use Rattle.list_laws.proofs.OptionLaws.{ok-weaker}
use Rattle.data_runs.specs.Written.{IsWrittenFrom}
use Rattle.extent_edits.specs.Texts.{last_of}
use Rattle.extent_edits.proofs.LongerText.{added-written}
use Rattle.extent_edits.proofs.longer_text.added_text.Goals as goal

pub overflow_sub-encoded_len : goal.overflow_sub-encoded_len
overflow_sub-encoded_len c =
    let (more, is) = c.requires in
    (added-written c.args.runs.now more c.args.all.now c.in_ok-text.text.items c.encoded_len.result is c.in_ok-text.ensures
    c.encoded_len.ensures).0

pub slice_bounds-from_slice-count : goal.slice_bounds-from_slice-count
slice_bounds-from_slice-count c =
    let (more, is) = c.requires in
    let written = added-written c.args.runs.now more c.args.all.now c.in_ok-text.text.items c.encoded_len.result is c.in_ok-text.ensures
    c.encoded_len.ensures in
    omega (arith, written.1, ap length c.deref.ensures.value)

pub slice_bounds-from_slice-start : goal.slice_bounds-from_slice-start
slice_bounds-from_slice-start c =
    let (more, is) = c.requires in
    let written = added-written c.args.runs.now more c.args.all.now c.in_ok-text.text.items c.encoded_len.result is c.in_ok-text.ensures
    c.encoded_len.ensures in
    let inside : c.encoded_len.result - 1 ≤ length c.deref.result.now = omega (arith, written.1, ap length c.deref.ensures.value) in
    search rules

pub returns : goal.returns
returns c =
    let few = c.encoded_len.result in
    let text = c.in_ok-text.text.items in
    ok-weaker c.from_slice.result
    (λ added items more is.
    let written = added-written c.args.runs.now more c.args.all.now text few is c.in_ok-text.ensures c.encoded_len.ensures in
    subst (IsWrittenFrom (last_of 0 c.args.runs.now) more) (sym (items ∙ take_rest c.deref.result.now (few - 1)
    ∙ ap (drop (few - 1)) c.deref.ensures.value)) written.2)
    c.from_slice.ensures.items

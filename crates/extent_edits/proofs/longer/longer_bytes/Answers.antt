use Rattle.std.proofs.Common.{◌≡◌, [], length, drop, sym, ap, ◌∙◌, arith, append-nil}
use Rattle.std.specs.Option.{option_to_list}
use Rattle.std.proofs.lemmas.List.{take_at, take_rest}
use Rattle.ntfs_def.specs.Attribute.{runs_offset}
use Rattle.extent_edits.specs.Texts.{last_of}
use Rattle.extent_edits.proofs.LongerBytes.{TellsExtent-longer, longer-few, longer-none, text-few}
use Rattle.extent_edits.proofs.LongerText.{added-none}
use Rattle.extent_edits.proofs.longer.longer_bytes.Goals as goal

pub with_text-requires-clause-short : goal.with_text-requires-clause-short
with_text-requires-clause-short c =
    let (run, is) = c.requires.more in
    rw c.deref.ensures.value (text-few c.args.runs.now c.args.all.now run c.in_ok-text.text.items c.runs-2.ensures.limits
    c.runs.ensures.limits is (c.in_ok-text.ensures (option_to_list run) is))

pub put_header-requires-clause-few : goal.put_header-requires-clause-few
put_header-requires-clause-few c =
    let (run, is) = c.requires.more in
    let short = text-few c.args.runs.now c.args.all.now run c.in_ok-text.text.items c.runs-2.ensures.limits
    c.runs.ensures.limits is (c.in_ok-text.ensures (option_to_list run) is) in
    omega (arith, short, ap length c.deref.ensures.value, ap length c.deref_mut.ensures.value, c.in_ok-bytes.ensures.len, c.requires.few)

pub returns-clause-tells : goal.returns-clause-tells
returns-clause-tells c =
    let old = c.args.old.now in
    let new = c.put_header.new.bytes in
    let mid = c.in_ok-bytes.bytes in
    let (run, is) = c.requires.more in
    let here : c.u16_at-from.result ≡ runs_offset old 0 = c.u16_at-from.ensures in
    let spells = rw (take_rest, c.runs-2.ensures.runs, here) at c.runs_end.ensures.spells in
    let inside = rw (take_rest, here) at c.runs_end.ensures.inside in
    let (rest, grown) = c.in_ok-bytes.ensures.bytes in
    let long : length new ≡ mid.len = omega (arith, c.put_header.auto.bytes, c.deref_mut.ensures.len) in
    rw (take_at new (drop (length new) mid.items) mid.len long)
    (TellsExtent-longer old c.args.runs.now c.runs_end.result c.requires.one c.requires.extent c.requires.means inside mid.items new
    c.in_ok-text.text.items rest c.args.all.now (option_to_list run) c.args.cluster c.stored_clusters.result c.args.sizes.now
    c.has_compressed_len-more.result spells c.runs-2.ensures.limits c.runs.ensures.limits is (c.in_ok-text.ensures (option_to_list run) is)
    (rw (c.deref.ensures.value, here) at grown) (rw (c.deref.ensures.value, here) at c.in_ok-bytes.ensures.len)
    c.has_compressed_len-more.ensures (rw c.runs.ensures.runs at c.stored_clusters.ensures.sum) (λ k. (c.type_inv.old k).fits)
    (rw c.deref_mut.ensures.value at c.put_header.ensures))

pub returns-clause-most : goal.returns-clause-most
returns-clause-most c =
    let old = c.args.old.now in
    let new = c.put_header.new.bytes in
    let mid = c.in_ok-bytes.bytes in
    let (run, is) = c.requires.more in
    let here : c.u16_at-from.result ≡ runs_offset old 0 = c.u16_at-from.ensures in
    let inside = rw (take_rest, here) at c.runs_end.ensures.inside in
    let long : length new ≡ mid.len = omega (arith, c.put_header.auto.bytes, c.deref_mut.ensures.len) in
    let short = text-few c.args.runs.now c.args.all.now run c.in_ok-text.text.items c.runs-2.ensures.limits
    c.runs.ensures.limits is (c.in_ok-text.ensures (option_to_list run) is) in
    let grown = rw (c.deref.ensures.value, here) at c.in_ok-bytes.ensures.len in
    rw (take_at new (drop (length new) mid.items) mid.len long)
    (longer-few old c.args.runs.now c.runs_end.result c.requires.one c.requires.extent c.requires.means inside (length new)
    (length c.in_ok-text.text.items) short (omega (arith, grown, c.put_header.auto.bytes, ap length c.deref_mut.ensures.value)))

pub returns-clause-same : goal.returns-clause-same
returns-clause-same c = λ none.
    let old = c.args.old.now in
    let new = c.put_header.new.bytes in
    let mid = c.in_ok-bytes.bytes in
    let here : c.u16_at-from.result ≡ runs_offset old 0 = c.u16_at-from.ensures in
    let inside = rw (take_rest, here) at c.runs_end.ensures.inside in
    let long : length new ≡ mid.len = omega (arith, c.put_header.auto.bytes, c.deref_mut.ensures.len) in
    let one = added-none (last_of 0 c.args.runs.now) c.in_ok-text.text.items
    (c.in_ok-text.ensures [] (none ∙ sym (append-nil c.args.runs.now))) in
    let grown = rw (c.deref.ensures.value, here) at c.in_ok-bytes.ensures.len in
    rw (take_at new (drop (length new) mid.items) mid.len long)
    (longer-none old c.args.runs.now c.runs_end.result c.requires.one c.requires.extent c.requires.means inside (length new)
    (length c.in_ok-text.text.items) one (omega (arith, grown, c.put_header.auto.bytes, ap length c.deref_mut.ensures.value)))

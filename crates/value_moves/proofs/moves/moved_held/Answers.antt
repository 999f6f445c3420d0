use Rattle.std.proofs.Common.{◌≡◌, ◌+◌, ◌<◌, ◌≤◌, get_or, length, ap, subst, ◌∙◌, arith}
use Rattle.ntfs_def.specs.Attribute.{Attribute, attribute_len, attribute_place, attributes}
use Rattle.ntfs_def.specs.Record.{used_size}
use Rattle.attr_view.specs.Values.{attribute_in}
use Rattle.file_record.specs.Held.{held_of}
use Rattle.std.specs.Prelude.{IsSomeAnd}
use Rattle.extent_edits.proofs.HeldLaws.{held-gives, held-read, viewed-attribute}
use Rattle.extent_edits.proofs.LongerHeld.{held-room}
use Rattle.value_moves.specs.Bytes.{MovesAttribute}
use Rattle.value_moves.proofs.MovedHeld.{Lacks}
use Rattle.value_moves.proofs.moves.moved_held.Goals as goal

pub returns-then-bytes-free_bytes-clause-none : goal.returns-then-bytes-free_bytes-clause-none
returns-then-bytes-free_bytes-clause-none c =
    let file = c.args.file.now in
    let one = c.index-records-place.result in
    let read : one ≡ get_or (held_of file) c.args.place one = rw c.records.ensures at c.index-records-place.is in
    let is = held-read file c.args.place one (λ held. c.args.i < length (attributes held.block)) c.requires.place read in
    let same = viewed-attribute c.view.result c.attr-attr.result one c.args.i c.view.ensures c.attr-attr.ensures.block
    c.attr-attr.ensures.place in
    let moves = subst (λ a. MovesAttribute c.args.cluster c.args.run c.args.real c.args.initialized a c.in-Some.bytes.items) same
    (rw c.in-Some.is at c.in_ok-bytes.ensures.moved) in
    let long : length c.bytes.result.now ≡ length (attribute_in one.block c.args.i).bytes =
    ap length c.bytes.ensures ∙ ap (λ (a : Attribute). length a.bytes) same in
    held-gives file c.args.place one (λ held. Lacks held c.args.i) is
    (λ can. omega (arith, moves.most, c.free_bytes.ensures, long, c.if-bytes-free_bytes.true, c.len.ensures))

pub returns-clause-moved : goal.returns-clause-moved
returns-clause-moved c =
    let file = c.args.file.now in
    let one = c.index-records-place.result in
    let read : one ≡ get_or (held_of file) c.args.place one = rw c.records.ensures at c.index-records-place.is in
    let is = held-read file c.args.place one (λ held. c.args.i < length (attributes held.block)) c.requires.place read in
    let same = viewed-attribute c.view.result c.attr-attr.result one c.args.i c.view.ensures c.attr-attr.ensures.block
    c.attr-attr.ensures.place in
    held-gives file c.args.place one
    (λ held. MovesAttribute c.args.cluster c.args.run c.args.real c.args.initialized (attribute_in held.block c.args.i)
    c.in-Some.bytes.items) is
    (subst (λ a. MovesAttribute c.args.cluster c.args.run c.args.real c.args.initialized a c.in-Some.bytes.items) same
    (rw c.in-Some.is at c.in_ok-bytes.ensures.moved))

pub returns-clause-fits : goal.returns-clause-fits
returns-clause-fits c =
    let file = c.args.file.now in
    let one = c.index-records-place.result in
    let read : one ≡ get_or (held_of file) c.args.place one = rw c.records.ensures at c.index-records-place.is in
    let is = held-read file c.args.place one (λ held. c.args.i < length (attributes held.block)) c.requires.place read in
    let same = viewed-attribute c.view.result c.attr-attr.result one c.args.i c.view.ensures c.attr-attr.ensures.block
    c.attr-attr.ensures.place in
    let long : length c.bytes.result.now ≡ length (attribute_in one.block c.args.i).bytes =
    ap length c.bytes.ensures ∙ ap (λ (a : Attribute). length a.bytes) same in
    let lt = subst (λ o. IsSomeAnd o (λ held. c.args.i < length (attributes held.block))) is c.requires.place in
    held-gives file c.args.place one
    (λ held. used_size held.block + length c.in-Some.bytes.items ≤ 1024 + attribute_len held.block (attribute_place held.block c.args.i)) is
    (held-room one c.args.i c.free_bytes.result (length c.in-Some.bytes.items) lt c.free_bytes.ensures
    (omega (arith, long, c.if-bytes-free_bytes.false, c.len.ensures)))

use Rattle.std.proofs.Common.{◌≡◌, ◌≢◌, ◌+◌, ◌-◌, ◌<◌, ◌≤◌, None, get_or, length, ap, subst, ◌∙◌, arith}
use Rattle.ntfs_def.specs.Attribute.{Attribute, attribute_len, attribute_place, attributes}
use Rattle.ntfs_def.specs.Record.{used_size}
use Rattle.volume_def.specs.Files.{content_of}
use Rattle.attr_view.specs.Values.{attribute_in}
use Rattle.file_record.specs.Held.{held_of}
use Rattle.std.specs.Prelude.{IsSomeAnd}
use Rattle.extent_edits.specs.Bytes.{ExtendsAttribute}
use Rattle.extent_edits.specs.Extended.{CanBeExtended}
use Rattle.extent_edits.proofs.HeldLaws.{held-gives, held-read, viewed-attribute}
use Rattle.extent_edits.proofs.LongerHeld.{held-full, held-room}
use Rattle.extent_edits.proofs.extend.extend_held.Goals as goal

pub returns-then-bytes-free_bytes-clause-none : goal.returns-then-bytes-free_bytes-clause-none
returns-then-bytes-free_bytes-clause-none c =
    let file = c.args.file.now in
    let one = c.index-records-place.result in
    let read : one ≡ get_or (held_of file) c.args.place one = rw c.records.ensures at c.index-records-place.is in
    let is = held-read file c.args.place one (λ held. c.args.i < length (attributes held.block)) c.requires.place read in
    let same = viewed-attribute c.view.result c.attr-attr.result one c.args.i c.view.ensures c.attr-attr.ensures.block
    c.attr-attr.ensures.place in
    let extends = subst (λ a. ExtendsAttribute c.args.cluster c.args.real c.args.initialized c.args.run a c.in-Some.bytes.items) same
    (rw c.in-Some.is at c.in_ok-bytes.ensures.extended) in
    let long : length c.bytes.result.now ≡ length (attribute_in one.block c.args.i).bytes =
    ap length c.bytes.ensures ∙ ap (λ (a : Attribute). length a.bytes) same in
    held-gives file c.args.place one
    (λ held. CanBeExtended c.args.cluster c.args.run (content_of (attribute_in held.block c.args.i).body)
    → (c.args.run ≢ None) × (1024 - used_size held.block < 24)) is
    (λ can. held-full one c.args.i c.args.cluster c.args.real c.args.initialized c.free_bytes.result c.args.run c.in-Some.bytes.items
    extends c.free_bytes.ensures (omega (arith, long, c.if-bytes-free_bytes.true, c.len.ensures)))

pub returns-clause-extended : goal.returns-clause-extended
returns-clause-extended c =
    let file = c.args.file.now in
    let one = c.index-records-place.result in
    let read : one ≡ get_or (held_of file) c.args.place one = rw c.records.ensures at c.index-records-place.is in
    let is = held-read file c.args.place one (λ held. c.args.i < length (attributes held.block)) c.requires.place read in
    let same = viewed-attribute c.view.result c.attr-attr.result one c.args.i c.view.ensures c.attr-attr.ensures.block
    c.attr-attr.ensures.place in
    held-gives file c.args.place one
    (λ held. ExtendsAttribute c.args.cluster c.args.real c.args.initialized c.args.run (attribute_in held.block c.args.i)
    c.in-Some.bytes.items) is
    (subst (λ a. ExtendsAttribute c.args.cluster c.args.real c.args.initialized c.args.run a c.in-Some.bytes.items) same
    (rw c.in-Some.is at c.in_ok-bytes.ensures.extended))

pub returns-clause-fits : goal.returns-clause-fits
returns-clause-fits c =
    let file = c.args.file.now in
    let one = c.index-records-place.result in
    let read : one ≡ get_or (held_of file) c.args.place one = rw c.records.ensures at c.index-records-place.is in
    let is = held-read file c.args.place one (λ held. c.args.i < length (attributes held.block)) c.requires.place read in
    let same = viewed-attribute c.view.result c.attr-attr.result one c.args.i c.view.ensures c.attr-attr.ensures.block
    c.attr-attr.ensures.place in
    let long : length c.bytes.result.now ≡ length (attribute_in one.block c.args.i).bytes =
    ap length c.bytes.ensures ∙ ap (λ (a : Attribute). length a.bytes) same in
    let lt = subst (λ o. IsSomeAnd o (λ held. c.args.i < length (attributes held.block))) is c.requires.place in
    held-gives file c.args.place one
    (λ held. used_size held.block + length c.in-Some.bytes.items ≤ 1024 + attribute_len held.block (attribute_place held.block c.args.i)) is
    (held-room one c.args.i c.free_bytes.result (length c.in-Some.bytes.items) lt c.free_bytes.ensures
    (omega (arith, long, c.if-bytes-free_bytes.false, c.len.ensures)))

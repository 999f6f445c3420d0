use Rattle.std.proofs.Common.{ℕ, ◌≡◌, ◌+◌, ◌<◌, List, length, take, get_or, ap, ◌∙◌, arith}
use Rattle.std.proofs.lemmas.List.{get_or_default}
use Rattle.std.specs.List.{flat_map}
use Rattle.file_record.specs.declared.held.Held.{Held}
use Rattle.file_record.specs.Held.{attributes_in, parts_of}
use Rattle.file_record.proofs.HeldLaws.{length-more, length-parts, record-inside}
use Rattle.file_record.proofs.parts.FileParts.place_of.Goals as goal

-- the record that is gone to is one of those held
inside : (held : List Held) (k left i : ℕ) → i < length (flat_map parts_of held)
    → i ≡ length (flat_map attributes_in (take k held)) + left → k < length held
inside held k left i low place = record-inside held k left i (omega (arith, length-parts held)) place

pub index-held-requires : goal.index-held-requires
index-held-requires c =
    let file = c.args.self.now in
    omega (arith, file.held.ok, inside file.held.items c.records.record c.records.left c.args.i c.requires c.records.invariant)

pub returns-then-left-held-clause-record : goal.returns-then-left-held-clause-record
returns-then-left-held-clause-record c =
    inside c.args.self.now.held.items c.records.record c.records.left c.args.i c.requires c.records.invariant

pub returns-then-left-held-clause-attribute : goal.returns-then-left-held-clause-attribute
returns-then-left-held-clause-attribute c d =
    let held = c.args.self.now.held.items in
    let within = inside held c.records.record c.records.left c.args.i c.requires c.records.invariant in
    let one = c.index-held.result.now in
    let here = ap (λ (h : Held). h.count) (c.index-held.ensures ∙ get_or_default held c.records.record one d within) in
    omega (arith, c.if-left-held.true, here)

pub overflow_add-record : goal.overflow_add-record
overflow_add-record c =
    let file = c.args.self.now in
    omega (arith, file.few, file.held.ok, inside file.held.items c.records.record c.records.left c.args.i c.requires c.records.invariant)

pub records-smaller : goal.records-smaller
records-smaller c =
    let file = c.args.self.now in
    omega (arith, file.held.ok, inside file.held.items c.records.record c.records.left c.args.i c.requires c.records.invariant)

pub records-preserved : goal.records-preserved
records-preserved c =
    let file = c.args.self.now in
    let within = inside file.held.items c.records.record c.records.left c.args.i c.requires c.records.invariant in
    let one = c.index-held.result.now in
    let here : one.count ≡ (get_or file.held.items c.records.record one).count = ap (λ (h : Held). h.count) c.index-held.ensures in
    omega (arith, length-more file.held.items c.records.record one within, here, c.records.invariant)

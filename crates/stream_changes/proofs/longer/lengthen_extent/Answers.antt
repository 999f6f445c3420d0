use Rattle.std.proofs.Common.{◌∙◌, ap, sym}
use Rattle.std.proofs.lemmas.Result.{on_ok_weaker}
use Rattle.list_laws.proofs.OptionLaws.{none_other, some_same}
use Rattle.ntfs_def.specs.declared.sizes.Sizes.{Sizes}
use Rattle.attr_view.specs.View.{attribute_of}
use Rattle.mft_table.specs.Mft.{view}
use Rattle.stored_bits.proofs.DeviceKept.{device-same}
use Rattle.stream_changes.proofs.Lengthened.{held-sizes, lengthen-can-write, lengthen-in-use, lengthen-never, lengthen-put, lengthen-staged}
use Rattle.stream_changes.proofs.longer.lengthen_extent.Goals as goal

pub set_attributes-requires-clause-volume : goal.set_attributes-requires-clause-volume
set_attributes-requires-clause-volume g c =
    let a = c.args.mft.now in
    let found = c.args.found.now in
    let f = c.args.number in
    let m = c.extend_part.new.mft in
    lengthen-in-use g.D.Disk found f c.args.size c.in-Some.sizes.initialized a m c.requires.volume
    c.extend_part.ensures.disk c.requires.near
    a.stands.table.small c.requires.can (λ t. c.requires.ends t (c.requires.can t))
    (λ t. ap (λ (s : Sizes). s.initialized) (some_same (sym c.in-Some.is ∙ held-sizes (view g.D.Disk a) found f (c.requires.can t)
    c.args.held.now (attribute_of c.attr.result) c.sizes.result (c.requires.held t) c.attr.ensures.part c.sizes.ensures)))
    c.in_ok-extend_part.field-0 c.in_ok-extend_part.ensures.extended c.if-not-branch.false

pub set_attributes-requires-clause-can : goal.set_attributes-requires-clause-can
set_attributes-requires-clause-can g c =
    let a = c.args.mft.now in
    let found = c.args.found.now in
    let f = c.args.number in
    let m = c.extend_part.new.mft in
    lengthen-can-write g.D.Disk found f c.args.size c.in-Some.sizes.initialized a m c.requires.volume
    c.extend_part.ensures.disk c.requires.near
    a.stands.table.small c.requires.can (λ t. c.requires.ends t (c.requires.can t))
    (λ t. ap (λ (s : Sizes). s.initialized) (some_same (sym c.in-Some.is ∙ held-sizes (view g.D.Disk a) found f (c.requires.can t)
    c.args.held.now (attribute_of c.attr.result) c.sizes.result (c.requires.held t) c.attr.ensures.part c.sizes.ensures)))
    c.in_ok-extend_part.field-0 c.in_ok-extend_part.ensures.extended c.if-not-branch.false

pub returns-clause-resized : goal.returns-clause-resized
returns-clause-resized g c =
    let a = c.args.mft.now in
    let found = c.args.found.now in
    let f = c.args.number in
    let m = c.extend_part.new.mft in
    on_ok_weaker c.set_attributes.result (λ sets told can ends.
    lengthen-put g.D.Disk found f c.args.size c.in-Some.sizes.initialized a m c.requires.volume c.extend_part.ensures.disk c.requires.near
    a.stands.table.small (λ u. can) (λ t. c.requires.ends t can)
    (λ t. ap (λ (s : Sizes). s.initialized) (some_same (sym c.in-Some.is ∙ held-sizes (view g.D.Disk a) found f can
    c.args.held.now (attribute_of c.attr.result) c.sizes.result (c.requires.held t) c.attr.ensures.part c.sizes.ensures)))
    c.in_ok-extend_part.field-0 c.in_ok-extend_part.ensures.extended c.if-not-branch.false
    c.set_attributes.new.mft c.args.times.now c.args.flags sets told) c.set_attributes.ensures.set

pub returns-clause-places : goal.returns-clause-places
returns-clause-places g c =
    let a = c.args.mft.now in
    let found = c.args.found.now in
    let f = c.args.number in
    let m = c.extend_part.new.mft in
    on_ok_weaker c.set_attributes.result (λ sets told can ends.
    lengthen-staged g.D.Disk found f c.args.size c.in-Some.sizes.initialized a m c.requires.volume
    c.extend_part.ensures.disk c.requires.near
    a.stands.table.small (λ u. can) (λ t. c.requires.ends t can)
    (λ t. ap (λ (s : Sizes). s.initialized) (some_same (sym c.in-Some.is ∙ held-sizes (view g.D.Disk a) found f can
    c.args.held.now (attribute_of c.attr.result) c.sizes.result (c.requires.held t) c.attr.ensures.part c.sizes.ensures)))
    c.in_ok-extend_part.field-0 c.in_ok-extend_part.ensures.extended c.if-not-branch.false
    c.set_attributes.new.mft c.extend_part.ensures.places c.set_attributes.ensures.places told) c.set_attributes.ensures.set

pub returns-then-not-branch-clause-resized : goal.returns-then-not-branch-clause-resized
returns-then-not-branch-clause-resized g c = λ told can ends.
    let a = c.args.mft.now in
    let found = c.args.found.now in
    let f = c.args.number in
    let m = c.extend_part.new.mft in
    absurd (lengthen-never g.D.Disk found f c.args.size c.in-Some.sizes.initialized a m c.requires.volume
    c.extend_part.ensures.disk c.requires.near
    a.stands.table.small (λ u. can) (λ t. c.requires.ends t can)
    (λ t. ap (λ (s : Sizes). s.initialized) (some_same (sym c.in-Some.is ∙ held-sizes (view g.D.Disk a) found f can
    c.args.held.now (attribute_of c.attr.result) c.sizes.result (c.requires.held t) c.attr.ensures.part c.sizes.ensures)))
    c.in_ok-extend_part.field-0 c.in_ok-extend_part.ensures.extended c.if-not-branch.true told)

pub returns-then-not-branch-clause-places : goal.returns-then-not-branch-clause-places
returns-then-not-branch-clause-places g c = λ told can ends.
    let a = c.args.mft.now in
    let found = c.args.found.now in
    let f = c.args.number in
    let m = c.extend_part.new.mft in
    absurd (lengthen-never g.D.Disk found f c.args.size c.in-Some.sizes.initialized a m c.requires.volume
    c.extend_part.ensures.disk c.requires.near
    a.stands.table.small (λ u. can) (λ t. c.requires.ends t can)
    (λ t. ap (λ (s : Sizes). s.initialized) (some_same (sym c.in-Some.is ∙ held-sizes (view g.D.Disk a) found f can
    c.args.held.now (attribute_of c.attr.result) c.sizes.result (c.requires.held t) c.attr.ensures.part c.sizes.ensures)))
    c.in_ok-extend_part.field-0 c.in_ok-extend_part.ensures.extended c.if-not-branch.true told)

pub returns-then-not-branch-clause-tables : goal.returns-then-not-branch-clause-tables
returns-then-not-branch-clause-tables g c = λ told can ends.
    let a = c.args.mft.now in
    let found = c.args.found.now in
    let f = c.args.number in
    let m = c.extend_part.new.mft in
    absurd (lengthen-never g.D.Disk found f c.args.size c.in-Some.sizes.initialized a m c.requires.volume
    c.extend_part.ensures.disk c.requires.near
    a.stands.table.small (λ u. can) (λ t. c.requires.ends t can)
    (λ t. ap (λ (s : Sizes). s.initialized) (some_same (sym c.in-Some.is ∙ held-sizes (view g.D.Disk a) found f can
    c.args.held.now (attribute_of c.attr.result) c.sizes.result (c.requires.held t) c.attr.ensures.part c.sizes.ensures)))
    c.in_ok-extend_part.field-0 c.in_ok-extend_part.ensures.extended c.if-not-branch.true told)

pub returns-in_default-clause-resized : goal.returns-in_default-clause-resized
returns-in_default-clause-resized g c = λ told can ends.
    absurd (none_other (sym c.in_default.is ∙ held-sizes (view g.D.Disk c.args.mft.now) c.args.found.now c.args.number can c.args.held.now
    (attribute_of c.attr.result) c.sizes.result (c.requires.held told) c.attr.ensures.part c.sizes.ensures))

pub returns-in_default-clause-places : goal.returns-in_default-clause-places
returns-in_default-clause-places g c = λ told can ends.
    absurd (none_other (sym c.in_default.is ∙ held-sizes (view g.D.Disk c.args.mft.now) c.args.found.now c.args.number can c.args.held.now
    (attribute_of c.attr.result) c.sizes.result (c.requires.held told) c.attr.ensures.part c.sizes.ensures))

pub returns-in_default-clause-tables : goal.returns-in_default-clause-tables
returns-in_default-clause-tables g c = λ told can ends.
    absurd (none_other (sym c.in_default.is ∙ held-sizes (view g.D.Disk c.args.mft.now) c.args.found.now c.args.number can c.args.held.now
    (attribute_of c.attr.result) c.sizes.result (c.requires.held told) c.attr.ensures.part c.sizes.ensures))

pub returns-in_default-clause-device : goal.returns-in_default-clause-device
returns-in_default-clause-device g c = device-same g.D.Disk c.args.mft.now

use Rattle.std.proofs.Common.{sym, ap, ◌∙◌}
use Rattle.std.specs.Prelude.{find}
use Rattle.attr_view.specs.View.{attribute_of}
use Rattle.file_record.specs.Left.{attributes_left}
use Rattle.attr_store.specs.Sought.{spans_named}
use Rattle.attr_store.proofs.Found.{held-found, held-unfound, own-extent}
use Rattle.attr_store.proofs.extents.find_extent.Goals as goal

pub returns-then-spans_vcn-clause-some : goal.returns-then-spans_vcn-clause-some
returns-then-spans_vcn-clause-some c =
    own-extent c.args.file.now (attribute_of c.args.wanted.now) c.args.vcn c.requires.among
    (sym (c.spans_vcn.ensures 0) ∙ c.if-spans_vcn.true)

pub returns-clause-some : goal.returns-clause-some
returns-clause-some c =
    let wanted = attribute_of c.args.wanted.now in
    let left = attributes_left c.attributes-attributes.result in
    held-found attribute_of c.args.file.now wanted c.args.vcn c.next_extent.result
    (c.next_extent.ensures ∙ ap (λ k. find (spans_named k c.name.result.now c.args.vcn) left) c.kind.ensures
    ∙ ap (λ n. find (spans_named wanted.kind n c.args.vcn) left) c.name.ensures
    ∙ ap (find (spans_named wanted.kind wanted.name c.args.vcn)) c.attributes-attributes.ensures)

pub returns-clause-none : goal.returns-clause-none
returns-clause-none c =
    let wanted = attribute_of c.args.wanted.now in
    let left = attributes_left c.attributes-attributes.result in
    held-unfound attribute_of c.args.file.now wanted c.args.vcn c.next_extent.result
    (c.next_extent.ensures ∙ ap (λ k. find (spans_named k c.name.result.now c.args.vcn) left) c.kind.ensures
    ∙ ap (λ n. find (spans_named wanted.kind n c.args.vcn) left) c.name.ensures
    ∙ ap (find (spans_named wanted.kind wanted.name c.args.vcn)) c.attributes-attributes.ensures)

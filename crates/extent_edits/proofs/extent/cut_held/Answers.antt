use Rattle.std.proofs.Common.{◌≡◌, ◌<◌, get_or, length, subst}
use Rattle.list_laws.proofs.OptionLaws.{IfSome-weaker, ok-weaker}
use Rattle.ntfs_def.specs.Attribute.{Attribute, attributes}
use Rattle.volume_def.specs.Files.{content_of}
use Rattle.attr_view.specs.Values.{attribute_in}
use Rattle.file_record.specs.Held.{held_of}
use Rattle.extent_edits.specs.Bytes.{CutsAttribute}
use Rattle.extent_edits.specs.Cut.{CanBeCut}
use Rattle.extent_edits.proofs.HeldLaws.{held-gives, held-read, none-weaker, viewed-attribute}
use Rattle.extent_edits.proofs.extent.cut_held.Goals as goal

pub returns-clause-cut : goal.returns-clause-cut
returns-clause-cut c =
    let file = c.args.file.now in
    let one = c.index-records-place.result in
    let read : one ≡ get_or (held_of file) c.args.place one = rw c.records.ensures at c.index-records-place.is in
    let is = held-read file c.args.place one (λ held. c.args.i < length (attributes held.block)) c.requires.place read in
    let same = viewed-attribute c.view.result c.attr-attr.result one c.args.i c.view.ensures c.attr-attr.ensures.block
    c.attr-attr.ensures.place in
    ok-weaker c.cut_attribute.result
    (λ found cuts. IfSome-weaker _ _ found
    (λ bytes cut. held-gives file c.args.place one
    (λ held. CutsAttribute c.args.cluster c.args.size (attribute_in held.block c.args.i) bytes.items) is
    (subst (λ a. CutsAttribute c.args.cluster c.args.size a bytes.items) same cut)) cuts)
    c.cut_attribute.ensures.cut

pub returns-clause-none : goal.returns-clause-none
returns-clause-none c =
    let file = c.args.file.now in
    let one = c.index-records-place.result in
    let read : one ≡ get_or (held_of file) c.args.place one = rw c.records.ensures at c.index-records-place.is in
    let is = held-read file c.args.place one (λ held. c.args.i < length (attributes held.block)) c.requires.place read in
    let same = viewed-attribute c.view.result c.attr-attr.result one c.args.i c.view.ensures c.attr-attr.ensures.block
    c.attr-attr.ensures.place in
    ok-weaker c.cut_attribute.result
    (λ found none. none-weaker found
    (λ cannot. held-gives file c.args.place one
    (λ held. ¬ (CanBeCut c.args.cluster c.args.size (content_of (attribute_in held.block c.args.i).body))) is
    (subst (λ (a : Attribute). ¬ (CanBeCut c.args.cluster c.args.size (content_of a.body))) same cannot)) none)
    c.cut_attribute.ensures.none

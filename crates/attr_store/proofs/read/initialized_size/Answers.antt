use Rattle.std.proofs.Common.{leb, ◌&&◌, ◌≡◌, true, ap, ◌∙◌, arith}
use Rattle.std.proofs.lemmas.Bool.{le-leb}
use Rattle.ntfs_def.specs.declared.sizes.Sizes.{Sizes}
use Rattle.attr_view.specs.View.{attribute_of}
use Rattle.volume_def.specs.Files.{content_of, content_extent, part_of}
use Rattle.volume_def.specs.Spans.{is_within, spans_vcn}
use Rattle.list_laws.proofs.FindLaws.{count-some, find-fails}
use Rattle.attr_store.specs.Sought.{parts_held_like}
use Rattle.attr_store.proofs.Found.{body-spans}
use Rattle.attr_store.proofs.read.initialized_size.Goals as goal

pub returns-in-Some : goal.returns-in-Some
returns-in-Some c size f s extent first =
    let a = attribute_of c.in-Some.first in
    let found = c.in-Some.ensures.some in
    let (told, text, body, begins, ends) = body-spans a.body 0 found.spans in (
      told,
      record {
        part = part_of found.holder a;
        among = found.among;
        told = ap (λ body. content_extent (content_of body)) body;
        from_start = omega arith;
      },
      ap (λ (sizes : Sizes). sizes.initialized) (c.extent_sizes.ensures told text body),
    )

pub returns-in-None : goal.returns-in-None
returns-in-None c size f s extent first =
    let wanted = attribute_of c.args.wanted.now in
    let from : leb extent.sizes.first 0 ≡ true = le-leb extent.sizes.first 0 (omega (arith, first.from_start)) in
    let to : leb 0 extent.sizes.last ≡ true = le-leb 0 extent.sizes.last (omega arith) in
    let its : spans_vcn 0 first.part ≡ true =
    ap (is_within 0) first.told ∙ ap (λ b. b && leb 0 extent.sizes.last) from ∙ ap (λ b. true && b) to in
    let some = count-some (spans_vcn 0) (parts_held_like c.args.file.now wanted) first.part first.among its in
    absurd (omega (arith, find-fails (spans_vcn 0) (parts_held_like c.args.file.now wanted) c.in-None.ensures.none, some))

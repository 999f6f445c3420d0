use Rattle.std.proofs.Common.{◌%◌, sym, ap, subst, ◌∙◌, arith}
use Rattle.volume_def.specs.ExtentsClause.{AreAttribute}
use Rattle.attr_view.specs.View.{attribute_of}
use Rattle.attr_store.specs.First.{attribute_held}
use Rattle.attr_store.proofs.Found.{among-place}
use Rattle.attr_store.proofs.StoredLaws.{stored-like}
use Rattle.index_store.specs.IndexRecords.{are_placed}
use Rattle.index_store.proofs.RecordSteps.{lies-not, lies-whole}
use Rattle.index_store.proofs.index_record.find_place.Goals as goal

pub are_placed-requires-clause-among : goal.are_placed-requires-clause-among
are_placed-requires-clause-among c =
    among-place c.args.file.now c.args.records.now.part (attribute_of c.attr-stream.result) c.attr-stream.ensures.part

pub returns-then-not-branch-clause-place : goal.returns-then-not-branch-clause-place
returns-then-not-branch-clause-place c kind name f s stream =
    let file = c.args.file.now in
    let size = c.args.size in
    let extents = attribute_held file kind name in
    let like = stored-like file kind name c.args.records.now s (attribute_of c.attr-stream.result) c.attr-stream.ensures.part in
    let placed = c.in_ok-are_placed.ensures size f (subst (AreAttribute size f) (sym like) stream) in
    lies-not extents size c.args.records.now.len c.args.vcn c.requires.some
    (sym c.if-not-branch.true ∙ placed ∙ ap (λ xs. are_placed xs c.args.vcn c.record_clusters.result) like
    ∙ ap (are_placed extents c.args.vcn) c.record_clusters.ensures)

pub returns-clause-place : goal.returns-clause-place
returns-clause-place c kind name f s stream =
    let file = c.args.file.now in
    let size = c.args.size in
    let extents = attribute_held file kind name in
    let like = stored-like file kind name c.args.records.now s (attribute_of c.attr-stream.result) c.attr-stream.ensures.part in
    let placed = c.in_ok-are_placed.ensures size f (subst (AreAttribute size f) (sym like) stream) in
    let (is, aligned, whole) = c.in-Some.ensures.some in (
      lies-whole extents size c.args.records.now.len c.args.vcn c.requires.some (ap (λ n. n % 4096) (sym is) ∙ aligned)
          (omega (arith, is, whole))
          (sym c.if-not-branch.false ∙ placed ∙ ap (λ xs. are_placed xs c.args.vcn c.record_clusters.result) like
          ∙ ap (are_placed extents c.args.vcn) c.record_clusters.ensures),
      is,
    )

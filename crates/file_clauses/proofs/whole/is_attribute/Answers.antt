use Rattle.std.proofs.Common.{◌↔◌, ◌*◌, All, IsTrue, subst}
use Rattle.file_clauses.specs.declared.extents.Extent.{Extent}
use Rattle.file_clauses.specs.Extents.{HasFitSizes, outlined}
use Rattle.file_clauses.proofs.InOrderLaws.{follow-order, order-fit}
use Rattle.file_clauses.proofs.whole.is_attribute.Goals as goal

pub returns : goal.returns
returns c =
    let some = c.in-Some.ensures.some in
    let covered = c.in-Some.covered in
    let extents = c.args.extents.now in
    let fit = subst (λ bytes. IsTrue c.have_fit_sizes.result ↔ All (λ (extent : Extent). HasFitSizes (covered * bytes) c.args.f
    (outlined extent)) extents)
    c.from.ensures c.have_fit_sizes.ensures in (
      λ t. follow-order c.args.cluster_bytes c.args.f covered extents some.0 some.1 some.2 (fit.0 t),
      λ right. fit.1 (order-fit c.args.cluster_bytes c.args.f covered extents some.2 right),
    )

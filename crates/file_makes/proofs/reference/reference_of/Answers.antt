use Rattle.std.proofs.Common.{subst}
use Rattle.std.specs.Prelude.{IfSome}
use Rattle.mft_table.specs.Mft.{view}
use Rattle.file_record.specs.declared.base.BaseFile.{BaseFile}
use Rattle.file_record.specs.Base.{HasBaseRecord}
use Rattle.file_makes.proofs.UnderLaws.{reference-found}
use Rattle.file_makes.proofs.reference.reference_of.Goals as goal

pub returns-clause-reference : goal.returns-clause-reference
returns-clause-reference g c told =
    let volume = view g.D.Disk c.args.mft.now in
    reference-found volume c.args.f c.reference_to.result c.in-Some.base.header c.requires c.reference_to.ensures
    (subst (λ o. IfSome o (λ (file : BaseFile). HasBaseRecord volume c.args.f file.header)) c.in-Some.is (c.in_ok-base.ensures.header told))

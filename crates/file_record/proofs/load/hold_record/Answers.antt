use Rattle.std.proofs.Common.{◌≡◌, subst}
use Rattle.std.specs.Prelude.{IfNone, IfSome}
use Rattle.ntfs_def.specs.Fixup.{opened_of}
use Rattle.mft_table.specs.Mft.{view}
use Rattle.file_record.specs.declared.held.Held.{Held}
use Rattle.file_record.specs.Records.{IsRecordOf}
use Rattle.file_record.proofs.HoldLaws.{holds-found, holds-none}
use Rattle.file_record.proofs.load.hold_record.Goals as goal

pub returns-in_ok-push-clause-holds : goal.returns-in_ok-push-clause-holds
returns-in_ok-push-clause-holds g c =
    let volume = view g.D.Disk c.args.mft.now in
    let number = c.args.number in
    holds-found volume number c.args.n _ _ _ c.in_ok-push.ensures.items
    (subst (λ o. IfSome o (λ (held : Held). held.number ≡ c.args.n)) c.in-Some.is c.in_ok-record.ensures.number)
    (λ told.
    subst (λ o. IfSome o (λ (held : Held). IsRecordOf volume number c.args.n × (held.block ≡ opened_of (volume.block c.args.n))))
    c.in-Some.is (c.in_ok-record.ensures.own told))

pub returns-in_default-clause-holds : goal.returns-in_default-clause-holds
returns-in_default-clause-holds g c =
    let volume = view g.D.Disk c.args.mft.now in
    let number = c.args.number in
    holds-none volume number c.args.n _
    (λ told. subst (λ o. IfNone o (¬ (IsRecordOf volume number c.args.n))) c.in_default.is (c.in_ok-record.ensures.other told))

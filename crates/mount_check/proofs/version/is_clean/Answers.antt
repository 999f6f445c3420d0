use Rattle.std.proofs.Common.{◌∙◌}
use Rattle.mft_table.specs.Mft.{view}
use Rattle.mount_check.proofs.VersionLaws.{clean-read, clean-shape, clean-used}
use Rattle.mount_check.proofs.version.is_clean.Goals as goal

pub returns-then-not-used-clause-clean : goal.returns-then-not-used-clause-clean
returns-then-not-used-clause-clean g c = λ told come.
    absurd (clean-used (view g.D.Disk c.args.mft.now) come c.in_ok-used.used (c.in_ok-used.ensures.used told) c.if-not-used.true)

pub returns-in_default-clause-clean : goal.returns-in_default-clause-clean
returns-in_default-clause-clean g c = λ told come.
    absurd (clean-shape (view g.D.Disk c.args.mft.now) come c.in_ok-used.used (c.in_ok-used.ensures.used told) _ c.if-not-used.false
    (c.in_ok-used.ensures.read told c.if-not-used.false) c.in_default.ensures.none)

pub returns-clause-clean : goal.returns-clause-clean
returns-clause-clean g c = λ told come.
    clean-read (view g.D.Disk c.args.mft.now) _ _ c.says_clean.result
    (c.in-Some.ensures.some ∙ c.in_ok-used.ensures.read told c.if-not-used.false) c.first_value.ensures c.says_clean.ensures

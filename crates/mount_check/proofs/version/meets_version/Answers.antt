use Rattle.std.proofs.Common.{◌∙◌}
use Rattle.mft_table.specs.Mft.{view}
use Rattle.mount_check.proofs.VersionLaws.{version-no_shape, version-read, version-unused}
use Rattle.mount_check.proofs.version.meets_version.Goals as goal

pub returns-then-not-used-clause-meets : goal.returns-then-not-used-clause-meets
returns-then-not-used-clause-meets g c = λ told come.
    version-unused (view g.D.Disk c.args.mft.now) come c.in_ok-used.used (c.in_ok-used.ensures.used told) c.if-not-used.true

pub returns-in-Some-clause-meets : goal.returns-in-Some-clause-meets
returns-in-Some-clause-meets g c = λ told come.
    version-read (view g.D.Disk c.args.mft.now) come c.in_ok-used.used (c.in_ok-used.ensures.used told) _ c.has_version.result
    c.if-not-used.false (c.in-Some.ensures.some ∙ c.in_ok-used.ensures.read told c.if-not-used.false) c.has_version.ensures

pub returns-in-None-clause-meets : goal.returns-in-None-clause-meets
returns-in-None-clause-meets g c = λ told come.
    version-no_shape (view g.D.Disk c.args.mft.now) come c.in_ok-used.used (c.in_ok-used.ensures.used told) _ c.if-not-used.false
    (c.in_ok-used.ensures.read told c.if-not-used.false) c.in-None.ensures.none

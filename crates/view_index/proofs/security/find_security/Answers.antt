use Rattle.std.proofs.Common.{◌+◌, sym, subst, arith}
use Rattle.std.specs.Prelude.{IfNone, IsTrue}
use Rattle.volume_def.specs.Readable.{IsFile}
use Rattle.ntfs_def.specs.declared.records.TheConstants.{SECURE}
use Rattle.volume_def.specs.View.{VolumeView}
use Rattle.mft_table.specs.Mft.{view}
use Rattle.mft_table.proofs.StreamReads.{MftReads-then}
use Rattle.file_record.proofs.ReadLaws.{view-kept}
use Rattle.view_index.specs.Places.{HasPlaceIfThere}
use Rattle.view_index.proofs.PlaceLaws.{whether-told}
use Rattle.view_index.proofs.SoundLaws.{no-descriptors}
use Rattle.view_index.proofs.security.find_security.Goals as goal

pub returns-in_default-clause-told : goal.returns-in_default-clause-told
returns-in_default-clause-told g c told =
    let volume = view g.D.Disk c.args.mft.now in
    let known = c.requires.readable told in
    no-descriptors volume known c.args.id
    (subst (λ o. IfNone o (¬ (IsFile volume SECURE))) c.in_default.is (c.in_ok-base.ensures.other told known.readable))

pub returns-in_err-found-clause-reads : goal.returns-in_err-found-clause-reads
returns-in_err-found-clause-reads g c =
    let b = c.seek_place.ensures.reads in
    (20678 + b.0, MftReads-then g.D.Disk _ _ _ 20678 b.0 (20678 + b.0) c.in_ok-base.ensures.reads b.1 (omega arith))

pub returns-clause-told : goal.returns-clause-told
returns-clause-told g c told =
    let volume = view g.D.Disk c.args.mft.now in
    let kept = view-kept g.D.Disk c.args.mft.now c.load_base.new.mft 20678 c.in_ok-base.ensures.reads in
    let file = c.in-Some.base.parts in
    let later = subst (λ (v : VolumeView). IsTrue v.told) (sym kept) told in
    let has = subst (λ (v : VolumeView). HasPlaceIfThere v file c.args.id c.in_ok-found.found) kept (c.in_ok-found.ensures.told later) in
    whether-told volume file c.args.id c.in_ok-found.found c.is_some.result c.is_some.ensures has

pub returns-clause-reads : goal.returns-clause-reads
returns-clause-reads g c =
    let b = c.seek_place.ensures.reads in
    (20678 + b.0, MftReads-then g.D.Disk _ _ _ 20678 b.0 (20678 + b.0) c.in_ok-base.ensures.reads b.1 (omega arith))

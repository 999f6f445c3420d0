use Rattle.std.proofs.Common.{◌+◌, sym, subst, ap, ◌∙◌, arith}
use Rattle.std.specs.Prelude.{IsTrue}
use Rattle.ntfs_def.specs.Node.{item_in}
use Rattle.ntfs_def.specs.ViewData.{item_data}
use Rattle.volume_def.specs.View.{VolumeView}
use Rattle.list_laws.proofs.OptionLaws.{ok-weaker}
use Rattle.mft_table.specs.Mft.{view}
use Rattle.mft_table.proofs.StreamReads.{MftReads-then}
use Rattle.file_record.proofs.ReadLaws.{view-kept}
use Rattle.view_index.specs.Places.{TellsPlaceIfThere}
use Rattle.view_index.specs.Security.{HasEntry}
use Rattle.view_index.proofs.PlaceLaws.{place-told}
use Rattle.view_index.proofs.security.seek_place.Goals as goal

pub returns-in_default-clause-told : goal.returns-in_default-clause-told
returns-in_default-clause-told g c told =
    subst (HasEntry (view g.D.Disk c.args.mft.now) c.args.id) c.in_default.is (c.in_ok-entry.ensures.found told)

pub returns-clause-told : goal.returns-clause-told
returns-clause-told g c =
    let volume = view g.D.Disk c.args.mft.now in
    let kept = view-kept g.D.Disk c.args.mft.now c.find_entry.new.mft _ c.in_ok-entry.ensures.reads.1 in
    ok-weaker c.find_place.result
    (λ found tells told.
    let is = subst (HasEntry volume c.args.id) c.in-Some.is (c.in_ok-entry.ensures.found told) in
    let told_later = subst (λ (v : VolumeView). IsTrue v.told) (sym kept) told in
    let here = subst (λ (v : VolumeView). TellsPlaceIfThere v c.args.file.now c.data_in.result.now found) kept (tells told_later) in
    place-told volume c.args.file.now (c.requires.held told) c.args.id c.in-Some.entry found is
    (subst (λ d. TellsPlaceIfThere volume c.args.file.now d found)
    (c.data_in.ensures ∙ ap (λ e. item_data (item_in e)) c.as_slice.ensures) here))
    c.find_place.ensures.told

pub returns-clause-reads : goal.returns-clause-reads
returns-clause-reads g c =
    let a = c.in_ok-entry.ensures.reads in
    let b = c.find_place.ensures.reads in
    (a.0 + 2, MftReads-then g.D.Disk _ _ _ a.0 2 (a.0 + 2) a.1 b (omega arith))

pub returns-clause-fetched : goal.returns-clause-fetched
returns-clause-fetched g c told =
    MftReads-then g.D.Disk _ _ _ 120 2 122 (c.in_ok-entry.ensures.fetched told) c.find_place.ensures.reads (omega arith)

use Rattle.std.proofs.Common.{◌<◌, length, sym, ap, subst, ◌∙◌}
use Rattle.std.specs.Prelude.{IsTrue, slice_get}
use Rattle.ntfs_def.specs.Attribute.{attributes}
use Rattle.volume_def.specs.View.{VolumeView}
use Rattle.mft_table.specs.MirrorClusters.{IsMirrorInside}
use Rattle.mft_table.specs.Mft.{MftStages, mounted_of, stage_of, view}
use Rattle.mft_table.specs.Mounted.{mounted_layout}
use Rattle.mft_table.specs.Staging.{record_places}
use Rattle.mft_table.proofs.DiskKept.{KeepsDisk-reads, KeepsDisk-stages, KeepsDisk-then}
use Rattle.file_record.specs.Held.{file_number, held_of}
use Rattle.file_record.specs.Written.{IsWholeFile}
use Rattle.file_record.proofs.ReadLaws.{view-kept}
use Rattle.record_calls.specs.Marks.{marks_of}
use Rattle.gone_edits.specs.Goes.{QuitsName}
use Rattle.root_puts.proofs.HeldRoot.{disk-kept, of-held}
use Rattle.root_takes.proofs.SetLaws.{staged-held}
use Rattle.file_makes.proofs.RecordSteps.{staged-then}
use Rattle.file_drops.specs.Named.{HasOneName, IsNameAt}
use Rattle.file_drops.proofs.MayLaws.{whole-loaded}
use Rattle.file_drops.proofs.NamedLaws.{disk-reserved, first-said, number-is, quits, removed-places, said-first, sound-then}
use Rattle.file_drops.proofs.quit.quit_name.Goals as goal

pub remove_attribute-requires-clause-place : goal.remove_attribute-requires-clause-place
remove_attribute-requires-clause-place g c =
    let file = c.in_ok-file.file in
    let i = c.in-Some.at in
    let one = said-first (slice_get (held_of file) 0) (IsNameAt i) c.in-Some.ensures in
    first-said (slice_get (held_of file) 0) one.0 (λ held. i < length (attributes held.block)) one.1 one.2.within

pub remove_attribute-requires-clause-mirror : goal.remove_attribute-requires-clause-mirror
remove_attribute-requires-clause-mirror g c = subst IsMirrorInside (sym c.in_ok-file.ensures.reads.mounted) c.requires.mirror

pub remove_attribute-requires-clause-sound : goal.remove_attribute-requires-clause-sound
remove_attribute-requires-clause-sound g c =
    sound-then g.D.Disk c.args.mft.now c.load.new.mft 20678 c.in_ok-file.ensures.reads c.requires.sound

pub set_links-requires-clause-mirror : goal.set_links-requires-clause-mirror
set_links-requires-clause-mirror g c =
    let a = c.args.mft.now in
    let l = c.load.new.mft in
    let r = c.remove_attribute.new.mft in
    let file = c.in_ok-file.file in
    let read = c.in_ok-file.ensures.reads in
    let one = said-first (slice_get (held_of file) 0) (IsNameAt c.in-Some.at) c.in-Some.ensures in
    let removed = of-held file 0 one.0 one.1 (λ held. MftStages g.D.Disk (record_places (view g.D.Disk l).layout held.number) 4 l r)
    c.in_ok-remove_attribute.ensures.stages in
    subst IsMirrorInside (sym (removed.mounted ∙ read.mounted)) c.requires.mirror

pub set_links-requires-clause-sound : goal.set_links-requires-clause-sound
set_links-requires-clause-sound g c =
    let l = c.load.new.mft in
    let r = c.remove_attribute.new.mft in
    let file = c.in_ok-file.file in
    let one = said-first (slice_get (held_of file) 0) (IsNameAt c.in-Some.at) c.in-Some.ensures in
    let removed = of-held file 0 one.0 one.1 (λ held. MftStages g.D.Disk (record_places (view g.D.Disk l).layout held.number) 4 l r)
    c.in_ok-remove_attribute.ensures.stages in
    removed.sound

-- THE SECTORS are those of the one record of the file.
pub returns-in_err-remove_attribute-clause-places : goal.returns-in_err-remove_attribute-clause-places
returns-in_err-remove_attribute-clause-places g c told =
    let a = c.args.mft.now in
    let l = c.load.new.mft in
    let file = c.in_ok-file.file in
    let given = c.in_ok-file.ensures in
    let one = said-first (slice_get (held_of file) 0) (IsNameAt c.in-Some.at) c.in-Some.ensures in
    let has = c.requires.one told in
    let whole = whole-loaded (view g.D.Disk a) c.args.n file given.number
    (given.parts told has.ready.editable.readable has.is_file) (given.own told) given.rising in
    let number = number-is (view g.D.Disk a) (marks_of (mounted_of g.D.Disk a)) c.args.n has file given.number whole 0 one.0 one.1 in
    removed-places g.D.Disk c.args.n 20678 a l c.remove_attribute.new.mft file one.0 c.remove_attribute.result given.reads one.1 number
    c.remove_attribute.ensures.stages c.remove_attribute.ensures.kept

pub returns-in_err-set_links-clause-places : goal.returns-in_err-set_links-clause-places
returns-in_err-set_links-clause-places g c told =
    let a = c.args.mft.now in
    let l = c.load.new.mft in
    let r = c.remove_attribute.new.mft in
    let file = c.in_ok-file.file in
    let given = c.in_ok-file.ensures in
    let one = said-first (slice_get (held_of file) 0) (IsNameAt c.in-Some.at) c.in-Some.ensures in
    let has = c.requires.one told in
    let whole = whole-loaded (view g.D.Disk a) c.args.n file given.number
    (given.parts told has.ready.editable.readable has.is_file) (given.own told) given.rising in
    let number = number-is (view g.D.Disk a) (marks_of (mounted_of g.D.Disk a)) c.args.n has file given.number whole 0 one.0 one.1 in
    let removed = of-held file 0 one.0 one.1 (λ held. MftStages g.D.Disk (record_places (view g.D.Disk l).layout held.number) 4 l r)
    c.in_ok-remove_attribute.ensures.stages in
    let f = file_number c.remove_attribute.new.self in
    staged-then g.D.Disk (view g.D.Disk a).layout (view g.D.Disk r).layout c.args.n f (stage_of g.D.Disk a) (stage_of g.D.Disk r)
    (stage_of g.D.Disk c.set_links.new.mft) (ap mounted_layout (removed.mounted ∙ given.reads.mounted))
    (c.remove_attribute.ensures.same.file ∙ given.number)
    (removed-places g.D.Disk c.args.n 20678 a l r file one.0 c.remove_attribute.result given.reads one.1 number
    c.remove_attribute.ensures.stages c.remove_attribute.ensures.kept)
    (staged-held g.D.Disk r c.set_links.new.mft (view g.D.Disk r).layout f c.set_links.result c.set_links.ensures.stages
    c.set_links.ensures.kept)

pub returns-clause-places : goal.returns-clause-places
returns-clause-places g c told =
    let a = c.args.mft.now in
    let l = c.load.new.mft in
    let r = c.remove_attribute.new.mft in
    let file = c.in_ok-file.file in
    let given = c.in_ok-file.ensures in
    let one = said-first (slice_get (held_of file) 0) (IsNameAt c.in-Some.at) c.in-Some.ensures in
    let has = c.requires.one told in
    let whole = whole-loaded (view g.D.Disk a) c.args.n file given.number
    (given.parts told has.ready.editable.readable has.is_file) (given.own told) given.rising in
    let number = number-is (view g.D.Disk a) (marks_of (mounted_of g.D.Disk a)) c.args.n has file given.number whole 0 one.0 one.1 in
    let removed = of-held file 0 one.0 one.1 (λ held. MftStages g.D.Disk (record_places (view g.D.Disk l).layout held.number) 4 l r)
    c.in_ok-remove_attribute.ensures.stages in
    staged-then g.D.Disk (view g.D.Disk a).layout (view g.D.Disk r).layout c.args.n (file_number c.remove_attribute.new.self)
    (stage_of g.D.Disk a) (stage_of g.D.Disk r) (stage_of g.D.Disk c.set_links.new.mft)
    (ap mounted_layout (removed.mounted ∙ given.reads.mounted)) (c.remove_attribute.ensures.same.file ∙ given.number)
    (removed-places g.D.Disk c.args.n 20678 a l r file one.0 c.remove_attribute.result given.reads one.1 number
    c.remove_attribute.ensures.stages c.remove_attribute.ensures.kept) c.in_ok-set_links.ensures.stages.places

-- NOTHING IS WRITTEN.
pub returns-in_err-remove_attribute-clause-disk : goal.returns-in_err-remove_attribute-clause-disk
returns-in_err-remove_attribute-clause-disk g c =
    let a = c.args.mft.now in
    let l = c.load.new.mft in
    let r = c.remove_attribute.new.mft in
    let file = c.in_ok-file.file in
    let read = c.in_ok-file.ensures.reads in
    let one = said-first (slice_get (held_of file) 0) (IsNameAt c.in-Some.at) c.in-Some.ensures in
    KeepsDisk-then g.D.Disk a l r (KeepsDisk-reads g.D.Disk a l 20678 read)
    (disk-kept g.D.Disk l r file 0 one.0 one.1 c.remove_attribute.result (sound-then g.D.Disk a l 20678 read c.requires.sound)
    c.remove_attribute.ensures.stages c.remove_attribute.ensures.kept)

pub returns-in_err-set_links-clause-disk : goal.returns-in_err-set_links-clause-disk
returns-in_err-set_links-clause-disk g c =
    let a = c.args.mft.now in
    let l = c.load.new.mft in
    let r = c.remove_attribute.new.mft in
    let s = c.set_links.new.mft in
    let file = c.in_ok-file.file in
    let read = c.in_ok-file.ensures.reads in
    let one = said-first (slice_get (held_of file) 0) (IsNameAt c.in-Some.at) c.in-Some.ensures in
    KeepsDisk-then g.D.Disk a l s (KeepsDisk-reads g.D.Disk a l 20678 read) (KeepsDisk-then g.D.Disk l r s
    (disk-kept g.D.Disk l r file 0 one.0 one.1 c.remove_attribute.result (sound-then g.D.Disk a l 20678 read c.requires.sound)
    c.remove_attribute.ensures.stages c.remove_attribute.ensures.kept)
    (disk-reserved g.D.Disk r s c.in_err-set_links.ensures.kept))

pub returns-clause-disk : goal.returns-clause-disk
returns-clause-disk g c =
    let a = c.args.mft.now in
    let l = c.load.new.mft in
    let r = c.remove_attribute.new.mft in
    let s = c.set_links.new.mft in
    let file = c.in_ok-file.file in
    let read = c.in_ok-file.ensures.reads in
    let one = said-first (slice_get (held_of file) 0) (IsNameAt c.in-Some.at) c.in-Some.ensures in
    let removed = of-held file 0 one.0 one.1 (λ held. MftStages g.D.Disk (record_places (view g.D.Disk l).layout held.number) 4 l r)
    c.in_ok-remove_attribute.ensures.stages in
    KeepsDisk-then g.D.Disk a l s (KeepsDisk-reads g.D.Disk a l 20678 read) (KeepsDisk-then g.D.Disk l r s
    (KeepsDisk-stages g.D.Disk l r (record_places (view g.D.Disk l).layout one.0.number) 4
    (sound-then g.D.Disk a l 20678 read c.requires.sound) removed)
    (KeepsDisk-stages g.D.Disk r s (record_places (view g.D.Disk r).layout (file_number c.remove_attribute.new.self)) 4 removed.sound
    c.in_ok-set_links.ensures.stages))

-- THE NAME GOES.
pub returns-clause-quits : goal.returns-clause-quits
returns-clause-quits g c told =
    let a = c.args.mft.now in
    let l = c.load.new.mft in
    let given = c.in_ok-file.ensures in
    let file = c.in_ok-file.file in
    let marks = marks_of (mounted_of g.D.Disk a) in
    let same = view-kept g.D.Disk a l 20678 given.reads in
    let new = view g.D.Disk c.set_links.new.mft in
    let was = c.requires.one told in
    let has : HasOneName (view g.D.Disk l) marks c.args.n = subst (λ (v : VolumeView). HasOneName v marks c.args.n) (sym same) was in
    let whole : IsWholeFile (view g.D.Disk l) file = subst (λ (v : VolumeView). IsWholeFile v file) (sym same)
    (whole-loaded (view g.D.Disk a) c.args.n file given.number (given.parts told was.ready.editable.readable was.is_file) (given.own told)
    given.rising) in
    subst (λ (v : VolumeView). QuitsName v new c.args.n) same
    (quits (view g.D.Disk l) (view g.D.Disk c.remove_attribute.new.mft) new marks c.args.n c.in-Some.at has
    (subst (λ (v : VolumeView). IsTrue v.told) (sym same) told) file c.remove_attribute.new.self given.number whole c.in-Some.ensures
    c.remove_attribute.ensures.same c.in_ok-remove_attribute.ensures.removed c.in_ok-remove_attribute.ensures.held
    c.in_ok-set_links.ensures.written)

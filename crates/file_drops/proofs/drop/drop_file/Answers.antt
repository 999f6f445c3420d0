use Rattle.std.proofs.Common.{◌<◌, ℕ, length, List, sym, ap, subst, ◌∙◌}
use Rattle.std.specs.Prelude.{IsTrue}
use Rattle.std.proofs.lemmas.Result.{on_ok_weaker}
use Rattle.ntfs_def.specs.FileName.{is_name_key, key_units}
use Rattle.vol_stage.specs.Staged.{disk_of}
use Rattle.volume_def.specs.BitmapClauses.{record_bits}
use Rattle.volume_def.specs.View.{VolumeView}
use Rattle.mft_table.specs.declared.mounted.Mounted.{Mounted}
use Rattle.mft_table.specs.Changes.{with_record_given}
use Rattle.mft_table.specs.MirrorClusters.{IsMirrorInside}
use Rattle.mft_table.specs.Mft.{mounted_of, stage_of, view}
use Rattle.mft_table.specs.Mounted.{mounted_layout}
use Rattle.mft_table.proofs.DiskKept.{KeepsDisk-reads}
use Rattle.file_record.proofs.ReadLaws.{view-kept}
use Rattle.record_calls.specs.Marks.{marks_of}
use Rattle.file_makes.proofs.MakeLaws.{device-after}
use Rattle.gone_edits.specs.Exits.{ExitsIndex}
use Rattle.file_drops.specs.Exits.{MayExit}
use Rattle.file_drops.specs.Freed.{GoesWhole, MayFree}
use Rattle.file_drops.proofs.DropLaws.{goes-under, may-exit, may-free, one-name, rows-left}
use Rattle.file_drops.proofs.PlacesLaws.{all-staged, entry-alone, read-alone}
use Rattle.file_drops.proofs.drop.drop_file.Goals as goal

pub take_entry-requires-clause-inside : goal.take_entry-requires-clause-inside
take_entry-requires-clause-inside g c =
    subst (λ (m : Mounted). c.args.dir < length m.records) (sym c.key_of.ensures.reads.mounted) c.requires.directory

pub take_entry-requires-clause-key : goal.take_entry-requires-clause-key
take_entry-requires-clause-key g c = subst (λ (k : List ℕ). IsTrue (is_name_key k)) (sym c.as_slice.ensures) c.in_ok-key.ensures.whole

pub take_entry-requires-clause-mirror : goal.take_entry-requires-clause-mirror
take_entry-requires-clause-mirror g c = subst IsMirrorInside (sym c.key_of.ensures.reads.mounted) c.requires.mirror

pub take_entry-requires-clause-sound : goal.take_entry-requires-clause-sound
take_entry-requires-clause-sound g c =
    (KeepsDisk-reads g.D.Disk c.args.mft.now c.key_of.new.mft 20678 c.key_of.ensures.reads).broken ∙ c.requires.sound

pub take_entry-requires-clause-may : goal.take_entry-requires-clause-may
take_entry-requires-clause-may g c told_then =
    let a = c.args.mft.now in
    let b = c.key_of.new.mft in
    let old = view g.D.Disk a in
    let was = mounted_of g.D.Disk a in
    let dir = c.args.dir in
    let key = c.as_slice.result.now in
    let same = view-kept g.D.Disk a b 20678 c.key_of.ensures.reads in
    let told = subst (λ (v : VolumeView). IsTrue v.told) same told_then in
    let may = c.requires.may told in
    let is = c.requires.volume told in
    let one = one-name old was c.args.n dir is may (g.D.Disk.size (disk_of g.D.Disk (stage_of g.D.Disk a))) a.stands.table in
    let here = may-exit old was c.args.n dir is may c.in_ok-key.key (c.in_ok-key.ensures.units told one) in
    subst (λ (v : VolumeView). MayExit v (marks_of (mounted_of g.D.Disk b)) dir (mounted_of g.D.Disk b).upcase key) (sym same)
    (subst (λ (m : Mounted). MayExit old (marks_of m) dir m.upcase key) (sym c.key_of.ensures.reads.mounted)
    (subst (λ (k : List ℕ). MayExit old (marks_of was) dir was.upcase k) (sym c.as_slice.ensures) here))

pub free_file-requires-clause-inside : goal.free_file-requires-clause-inside
free_file-requires-clause-inside g c =
    subst (λ (m : Mounted). c.args.n < length m.records) (sym (c.take_entry.ensures.disk.mounted ∙ c.key_of.ensures.reads.mounted))
    c.requires.inside

pub free_file-requires-clause-mirror : goal.free_file-requires-clause-mirror
free_file-requires-clause-mirror g c =
    subst IsMirrorInside (sym (c.take_entry.ensures.disk.mounted ∙ c.key_of.ensures.reads.mounted)) c.requires.mirror

pub free_file-requires-clause-sound : goal.free_file-requires-clause-sound
free_file-requires-clause-sound g c =
    c.take_entry.ensures.disk.broken
    ∙ (KeepsDisk-reads g.D.Disk c.args.mft.now c.key_of.new.mft 20678 c.key_of.ensures.reads).broken ∙ c.requires.sound

pub free_file-requires-clause-may : goal.free_file-requires-clause-may
free_file-requires-clause-may g c told_then =
    let a = c.args.mft.now in
    let b = c.key_of.new.mft in
    let left = view g.D.Disk c.take_entry.new.mft in
    let key = c.as_slice.result.now in
    let same = view-kept g.D.Disk a b 20678 c.key_of.ensures.reads in
    let told_read = subst IsTrue c.take_entry.ensures.disk.goes_on.told_image told_then in
    let told = subst (λ (v : VolumeView). IsTrue v.told) same told_read in
    let exits = subst (λ (v : VolumeView). ExitsIndex v left c.args.dir key) same (c.in_ok-take_entry.ensures.exits told_read) in
    subst (λ (m : Mounted). MayFree left m c.args.n) (sym (c.take_entry.ensures.disk.mounted ∙ c.key_of.ensures.reads.mounted))
    (may-free (view g.D.Disk a) (mounted_of g.D.Disk a) c.args.n c.args.dir (c.requires.volume told) (c.requires.may told) left key exits
    (g.D.Disk.size (disk_of g.D.Disk (stage_of g.D.Disk a))) a.stands.table)

pub returns-in_err-key-clause-places : goal.returns-in_err-key-clause-places
returns-in_err-key-clause-places g c told =
    read-alone g.D.Disk c.args.n c.args.dir c.args.mft.now c.key_of.new.mft 20678 c.key_of.ensures.reads

pub returns-in_err-take_entry-clause-places : goal.returns-in_err-take_entry-clause-places
returns-in_err-take_entry-clause-places g c told =
    let a = c.args.mft.now in
    let b = c.key_of.new.mft in
    let same = view-kept g.D.Disk a b 20678 c.key_of.ensures.reads in
    let told_read = subst (λ (v : VolumeView). IsTrue v.told) (sym same) told in
    entry-alone g.D.Disk c.args.n c.args.dir a b 20678 c.key_of.ensures.reads c.take_entry.new.mft told_read
    (c.take_entry.ensures.places told_read)

pub returns-clause-dropped : goal.returns-clause-dropped
returns-clause-dropped g c = on_ok_weaker c.free_file.result (λ goes told its.
    let a = c.args.mft.now in
    let b = c.key_of.new.mft in
    let old = view g.D.Disk a in
    let was = mounted_of g.D.Disk a in
    let left = view g.D.Disk c.take_entry.new.mft in
    let new = view g.D.Disk c.free_file.new.mft in
    let now = mounted_of g.D.Disk c.free_file.new.mft in
    let key = c.as_slice.result.now in
    let same = view-kept g.D.Disk a b 20678 c.key_of.ensures.reads in
    let told_read = subst (λ (v : VolumeView). IsTrue v.told) (sym same) told in
    let told_then = subst IsTrue (sym c.take_entry.ensures.disk.goes_on.told_image) told_read in
    let exits = subst (λ (v : VolumeView). ExitsIndex v left c.args.dir key) same (c.in_ok-take_entry.ensures.exits told_read) in
    let is = c.requires.volume told in
    let one = one-name old was c.args.n c.args.dir is its (g.D.Disk.size (disk_of g.D.Disk (stage_of g.D.Disk a))) a.stands.table in
    goes-under old was c.args.n c.args.dir is its left key exits new now
    (ap key_units c.as_slice.ensures ∙ c.in_ok-key.ensures.units told one)
    (subst (λ (m : Mounted). GoesWhole left new m now c.args.n) (c.take_entry.ensures.disk.mounted ∙ c.key_of.ensures.reads.mounted)
    (goes told_then))) c.free_file.ensures.goes

pub returns-clause-bits : goal.returns-clause-bits
returns-clause-bits g c = on_ok_weaker c.free_file.result (λ bits. bits
    ∙ ap (λ (m : Mounted). with_record_given m c.args.n) (c.take_entry.ensures.disk.mounted ∙ c.key_of.ensures.reads.mounted))
    c.free_file.ensures.bits

pub returns-clause-places : goal.returns-clause-places
returns-clause-places g c told =
    let a = c.args.mft.now in
    let b = c.key_of.new.mft in
    let left = view g.D.Disk c.take_entry.new.mft in
    let key = c.as_slice.result.now in
    let same = view-kept g.D.Disk a b 20678 c.key_of.ensures.reads in
    let told_read = subst (λ (v : VolumeView). IsTrue v.told) (sym same) told in
    let told_then = subst IsTrue (sym c.take_entry.ensures.disk.goes_on.told_image) told_read in
    let exits = subst (λ (v : VolumeView). ExitsIndex v left c.args.dir key) same (c.in_ok-take_entry.ensures.exits told_read) in
    let rows = rows-left (view g.D.Disk a) (mounted_of g.D.Disk a) c.args.n c.args.dir (c.requires.volume told) (c.requires.may told) left
    key exits in
    all-staged g.D.Disk c.args.n c.args.dir a b 20678 c.key_of.ensures.reads c.take_entry.new.mft c.free_file.new.mft told_read
    (c.take_entry.ensures.places told_read) (ap mounted_layout c.take_entry.ensures.disk.mounted)
    (rows ∙ ap record_bits (sym same)) (c.free_file.ensures.places told_then) (c.free_file.ensures.few told_then)

pub returns-clause-device : goal.returns-clause-device
returns-clause-device g c =
    let a = c.args.mft.now in
    let b = c.key_of.new.mft in
    let e = c.take_entry.new.mft in
    let d = c.free_file.new.mft in
    device-after g.D.Disk a b d (KeepsDisk-reads g.D.Disk a b 20678 c.key_of.ensures.reads)
    (device-after g.D.Disk b e d c.take_entry.ensures.disk c.free_file.ensures.device)

use Rattle.std.proofs.Common.{◌+◌, ◌*◌, le_refl, length, subst}
use Rattle.std.specs.Prelude.{IsTrue}
use Rattle.volume_def.specs.IndexesClause.{MeetsIndexes}
use Rattle.volume_def.specs.View.{VolumeView}
use Rattle.list_laws.specs.Least.{IsLeastFailing}
use Rattle.list_laws.proofs.OptionLaws.{ok-weaker}
use Rattle.mft_table.specs.Mft.{mounted_of, view}
use Rattle.mft_table.proofs.StreamReads.{MftReads-then}
use Rattle.file_record.proofs.ReadLaws.{view-kept}
use Rattle.check_dirs.specs.Notes.{AreNotes}
use Rattle.check_dirs.proofs.WantedLaws.{readable}
use Rattle.check_dirs.proofs.volume.first_wrong_index.Goals as goal

pub returns-clause-first : goal.returns-clause-first
returns-clause-first g c =
    let volume = view g.D.Disk c.args.mft.now in
    let same = view-kept g.D.Disk c.args.mft.now c.note_files.new.mft _ c.note_files.ensures.reads in
    ok-weaker c.first_wrong_among.result (λ first tells told.
    subst (λ (v : VolumeView). IsTrue v.told → AreNotes v c.in_ok-notes.notes → IsLeastFailing (MeetsIndexes v) first) same tells told
    (c.in_ok-notes.ensures.notes told (readable volume (c.requires.sound told))))
    c.first_wrong_among.ensures.first

pub returns-clause-reads : goal.returns-clause-reads
returns-clause-reads g c = (
  20678 * length (mounted_of g.D.Disk c.args.mft.now).records + c.first_wrong_among.ensures.reads.0,
  MftReads-then g.D.Disk c.args.mft.now c.note_files.new.mft c.first_wrong_among.new.mft _ _ _ c.note_files.ensures.reads
      c.first_wrong_among.ensures.reads.1 (le_refl _),
)

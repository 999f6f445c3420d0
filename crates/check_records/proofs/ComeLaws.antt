-- What is known where the check has come to a clause.
use Rattle.std.proofs.Common.{◌<◌, ℕ, subst, arith}
use Rattle.ntfs_def.specs.declared.kinds.TheConstants.{BITMAP, DATA}
use Rattle.ntfs_def.specs.declared.records.TheConstants.{CLUSTER_BITMAP, MFT, UPCASE}
use Rattle.volume_def.specs.BitmapClauses.{cluster_bits, record_bits}
use Rattle.volume_def.specs.CaseClause.{case_parts}
use Rattle.volume_def.specs.Files.{records_of}
use Rattle.volume_def.specs.Sound.Clause.{Owners}
use Rattle.volume_def.specs.View.{VolumeView}
use Rattle.record_notes.specs.declared.facts.Facts.{Facts}
use Rattle.record_notes.specs.Bitmaps.{AllOwnersNote}
use Rattle.record_notes.specs.Facts.{RightNote}
use Rattle.record_notes.specs.Streams.{NotesStream, StreamsNote}
use Rattle.record_notes.specs.Used.{AllUsedNote}
use Rattle.record_notes.proofs.StreamLaws.{stream_below-all}
use Rattle.check_records.specs.Views.{HasComeWith}
use Rattle.check_records.proofs.FactsGiven.{RightNote-all}

right-come : (view : VolumeView) (rank : ℕ) (facts : Facts) → 1 < rank → HasComeWith view rank facts
    → RightNote (records_of view) view.layout.count facts
right-come view rank facts behind come = RightNote-all view facts rank behind come.before come.noted

streams-come : (view : VolumeView) (rank : ℕ) (facts : Facts) → 1 < rank → HasComeWith view rank facts
    → StreamsNote (records_of view) view.layout.count facts.streams
streams-come view rank facts behind come = (right-come view rank facts behind come).streams

-- what is noted of the streams of all records is noted of those of the volume
pub cluster-bits-come : (view : VolumeView) (facts : Facts) → HasComeWith view 5 facts
    → NotesStream (cluster_bits view) facts.streams.cluster_bits
cluster-bits-come view facts come = subst (λ ps. NotesStream ps facts.streams.cluster_bits)
    (stream_below-all (records_of view) CLUSTER_BITMAP DATA) (streams-come view 5 facts (omega arith) come).cluster_bits

pub record-bits-come : (view : VolumeView) (facts : Facts) → HasComeWith view 6 facts
    → NotesStream (record_bits view) facts.streams.record_bits
record-bits-come view facts come = subst (λ ps. NotesStream ps facts.streams.record_bits)
    (stream_below-all (records_of view) MFT BITMAP) (streams-come view 6 facts (omega arith) come).record_bits

pub case-table-come : (view : VolumeView) (facts : Facts) → HasComeWith view 9 facts
    → NotesStream (case_parts view) facts.streams.case_table
case-table-come view facts come = subst (λ ps. NotesStream ps facts.streams.case_table)
    (stream_below-all (records_of view) UPCASE DATA) (streams-come view 9 facts (omega arith) come).case_table

pub owners-come : (view : VolumeView) (facts : Facts) → HasComeWith view 5 facts → AllOwnersNote view facts.owners
owners-come view facts come = record {
  clusters = come.volume.clusters;
  noted = (right-come view 5 facts (omega arith) come).owners;
  meets = come.before Owners (omega arith);
}

pub used-come : (view : VolumeView) (facts : Facts) → HasComeWith view 6 facts → AllUsedNote view facts.used
used-come view facts come = record {
  count = come.volume.records;
  noted = (right-come view 6 facts (omega arith) come).used;
}

use Rattle.std.proofs.Common.{sym, subst}
use Rattle.ntfs_def.specs.declared.kinds.TheConstants.{BITMAP, DATA}
use Rattle.ntfs_def.specs.declared.records.TheConstants.{CLUSTER_BITMAP, MFT, UPCASE}
use Rattle.record_notes.specs.Streams.{NotesStream}
use Rattle.record_notes.proofs.StreamLaws.{stream_below-none}
use Rattle.record_notes.proofs.streams.Streams.new.Goals as goal

pub returns-clause-none : goal.returns-clause-none
returns-clause-none c = λ records. record {
  cluster_bits = subst (λ ps. NotesStream ps c.in_ok-cluster_bits.cluster_bits) (sym (stream_below-none records CLUSTER_BITMAP DATA))
      c.in_ok-cluster_bits.ensures.none;
  record_bits = subst (λ ps. NotesStream ps c.in_ok-record_bits.record_bits) (sym (stream_below-none records MFT BITMAP))
      c.in_ok-record_bits.ensures.none;
  case_table = subst (λ ps. NotesStream ps c.in_ok-case_table.case_table) (sym (stream_below-none records UPCASE DATA))
      c.in_ok-case_table.ensures.none;
}

use Rattle.ntfs_def.specs.declared.kinds.TheConstants.{BITMAP, DATA}
use Rattle.ntfs_def.specs.declared.records.TheConstants.{CLUSTER_BITMAP, MFT, UPCASE}
use Rattle.attr_view.specs.View.{viewed_block}
use Rattle.record_notes.proofs.StreamLaws.{stream-recorded}
use Rattle.record_notes.proofs.streams.Streams.note.Goals as goal

pub returns-clause-noted : goal.returns-clause-noted
returns-clause-noted c = λ records n is file notes.
    let block = viewed_block c.args.view.now in
    record {
      cluster_bits = stream-recorded records CLUSTER_BITMAP DATA n block c.args.file c.note_own.new.self is file
          (c.in_ok-note_own.ensures.noted n _ notes.cluster_bits);
      record_bits = stream-recorded records MFT BITMAP n block c.args.file c.note_own-2.new.self is file
          (c.in_ok-note_own-2.ensures.noted n _ notes.record_bits);
      case_table = stream-recorded records UPCASE DATA n block c.args.file c.note_own-3.new.self is file
          (c.in_ok-note_own-3.ensures.noted n _ notes.case_table);
    }

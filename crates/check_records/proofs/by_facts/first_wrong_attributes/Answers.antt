use Rattle.volume_def.specs.Files.{records_of}
use Rattle.record_notes.proofs.HeadLaws.{EndsAtCount-view}
use Rattle.check_records.proofs.by_facts.first_wrong_attributes.Goals as goal

pub returns : goal.returns
returns c = λ view note before. c.first_wrong_record.ensures (records_of view) (EndsAtCount-view view) note

use Rattle.std.proofs.Common.{sym}
use Rattle.attr_view.specs.View.{viewed_block}
use Rattle.volume_def.specs.Files.{record_of}
use Rattle.record_notes.proofs.facts.Facts.note_right.Goals as goal

pub returns-clause-noted : goal.returns-clause-noted
returns-clause-noted c = λ records is meets right. record {
  unlisted = c.in_ok-note.ensures.noted records is right.unlisted;
  owners = c.in_ok-note-2.ensures.noted records c.args.n is (sym c.file_of-file.ensures) right.owners;
  used = c.note-3.ensures.noted records (record_of c.args.n (viewed_block c.args.view.now)) is right.used;
  heads = c.in_ok-note-3.ensures records c.args.n is right.heads;
  names = c.in_ok-note-4.ensures records is meets right.names;
  spread = c.in_ok-note-5.ensures records is right.spread;
  streams = c.in_ok-note-6.ensures.noted records c.args.n is (sym c.file_of-file.ensures) right.streams;
  long = c.note-8.ensures records is right.long;
}

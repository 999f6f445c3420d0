use Rattle.file_record.proofs.taken.next_free.Goals as goal

pub unreachable-requires : goal.unreachable-requires
unreachable-requires g c = c.in-None.ensures.none c.requires.0 c.requires.1

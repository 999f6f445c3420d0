use Rattle.mft_table.proofs.mft.Mft.take_record.Goals as goal

pub unreachable-requires : goal.unreachable-requires
unreachable-requires g c = c.in-None.ensures.none c.requires.0 c.requires.1

use Rattle.std.proofs.lemmas.Result.{on_ok_weaker}
use Rattle.mft_table.specs.Mft.{mounted_of, view}
use Rattle.record_bits.proofs.RowStored.{row-set}
use Rattle.record_bits.proofs.RowsFound.{rows-sound}
use Rattle.record_bits.proofs.record_bit.store_record_bit.Goals as goal

pub put_record_bit-requires-clause-rows : goal.put_record_bit-requires-clause-rows
put_record_bit-requires-clause-rows g c told =
    rows-sound (view g.D.Disk c.args.mft.now) (mounted_of g.D.Disk c.args.mft.now) (c.requires.volume told) (c.requires.owners told)

pub returns-clause-stored : goal.returns-clause-stored
returns-clause-stored g c = on_ok_weaker c.put_record_bit.result (λ put told place.
    row-set (view g.D.Disk c.args.mft.now) (view g.D.Disk c.put_record_bit.new.mft) c.args.n (put told place)) c.put_record_bit.ensures.put

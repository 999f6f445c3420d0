use Rattle.std.proofs.Common.{arith}
use Rattle.std.proofs.lemmas.List.{with_items_is}
use Rattle.cluster_bitmap.proofs.FlagLaws.{flags-read, length-flags_of}
use Rattle.cluster_bitmap.proofs.Bits.load.Goals as goal

pub returns-clause-flags : goal.returns-clause-flags
returns-clause-flags c =
    let new = with_items_is c.in_ok-words.words c.pad.new.words (omega (arith, c.pad.ensures.len, c.deref_mut.ensures.len)) in
    rw new (flags-read c.in_ok-words.words.items c.pad.new.words c.args.bytes.now c.args.count c.in_ok-words.ensures.bits
    (rw c.deref_mut.ensures.value at c.pad.ensures.kept))

pub returns-clause-count : goal.returns-clause-count
returns-clause-count c = length-flags_of _ c.args.count

use Rattle.extent_edits.proofs.NumberLaws.{PutsNumbers-more}
use Rattle.extent_edits.proofs.numbers.put_numbers.Goals as goal

pub returns-then-more : goal.returns-then-more
returns-then-more c =
    rw c.if-more.true (PutsNumbers-more c.args.bytes.now c.put_sizes.new.bytes c.put_u64.new.bytes c.args.sizes.now c.args.stored
    c.put_sizes.ensures c.put_u64.ensures.value c.put_u64.ensures.rest)

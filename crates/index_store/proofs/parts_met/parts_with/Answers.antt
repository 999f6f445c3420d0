use Rattle.index_store.proofs.parts_met.parts_with.Goals as goal

pub returns : goal.returns
returns c file n left at seen = record {
  root = c.root_with.ensures file n left seen.root;
  records = c.first_with.ensures file n left at seen.records;
  bits = c.first_with-2.ensures file n left at seen.bits;
}

use Rattle.std.proofs.Common.{[], subst}
use Rattle.ntfs_def.specs.declared.kinds.TheConstants.{BITMAP, INDEX_ALLOCATION}
use Rattle.index_store.specs.PartsMet.{RootMet}
use Rattle.index_store.proofs.PartsMetLaws.{first-told}
use Rattle.index_store.proofs.index.find_index.Goals as goal

pub returns-clause-found : goal.returns-clause-found
returns-clause-found c =
    let file = c.args.file.now in
    let name = c.args.name.now in
    let seen = c.seek_index-seen.ensures in
    let records = first-told file INDEX_ALLOCATION name _ seen.records in
    let bits = first-told file BITMAP name _ seen.bits in
    record {
      parts = record {
        is_root = subst (RootMet file name []) c.in-Only.is seen.root;
        plain = (c.is_plain.ensures file INDEX_ALLOCATION name records).0 c.if-not-is_plain.false;
        plain_bits = (c.is_plain-else-not-is_plain.ensures file BITMAP name bits).0 c.if-not-is_plain-2.false;
        written = (c.is_written.ensures file INDEX_ALLOCATION name records).0 c.if-not-is_written.false;
      };
      records = c.stored_of.ensures file INDEX_ALLOCATION name records;
      bits = c.stored_of-2.ensures file BITMAP name bits;
    }

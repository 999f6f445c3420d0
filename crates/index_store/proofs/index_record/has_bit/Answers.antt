use Rattle.std.proofs.Common.{subst, arith}
use Rattle.ntfs_def.specs.declared.kinds.TheConstants.{BITMAP}
use Rattle.volume_def.specs.Values.{value_on}
use Rattle.attr_store.specs.Mft.{view}
use Rattle.attr_store.specs.First.{IsStoredIfThere, attribute_held}
use Rattle.attr_store.proofs.StoredLaws.{stored-length, stored-within}
use Rattle.list_laws.proofs.BitLaws.{bit-behind}
use Rattle.index_store.proofs.RecordSteps.{no-bit}
use Rattle.index_store.proofs.index_record.has_bit.Goals as goal

pub returns-in_default-clause-bit : goal.returns-in_default-clause-bit
returns-in_default-clause-bit g c told readable are is_file =
    let file = c.args.file.now in
    let name = c.args.index.now.name.now in
    no-bit (view g.D.Disk c.args.mft.now) (attribute_held file BITMAP name) c.args.number
    (subst (IsStoredIfThere file BITMAP name) c.in_default.is c.requires.bits)

pub returns-then-number-bits-clause-bit : goal.returns-then-number-bits-clause-bit
returns-then-number-bits-clause-bit g c told readable are is_file =
    let file = c.args.file.now in
    let name = c.args.index.now.name.now in
    let volume = view g.D.Disk c.args.mft.now in
    let s = subst (IsStoredIfThere file BITMAP name) c.in-Some.is c.requires.bits in
    bit-behind (value_on volume (attribute_held file BITMAP name)) c.args.number
    (omega (arith, stored-length volume file BITMAP name c.in-Some.bits s, c.if-number-bits.true))

pub read_stored-requires : goal.read_stored-requires
read_stored-requires g c =
    let file = c.args.file.now in
    let name = c.args.index.now.name.now in
    let s = subst (IsStoredIfThere file BITMAP name) c.in-Some.is c.requires.bits in
    record { part = stored-within file BITMAP name c.in-Some.bits s }

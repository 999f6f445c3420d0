use Rattle.std.proofs.Common.{refl, arith}
use Rattle.byteorder.specs.Endian.{little_bytes}
use Rattle.vol_bytes.proofs.FieldLaws.{SameOutside-put_mid}
use Rattle.vol_bytes.proofs.put_u64.Goals as goal

pub returns-clause-rest : goal.returns-clause-rest
returns-clause-rest c =
    let written = little_bytes 8 c.args.value in
    SameOutside-put_mid c.args.bytes.now written _ c.args.at _ 8 (omega arith) (omega arith) refl c.write_u64.ensures

use Rattle.std.proofs.Common.{◌∙◌, sym}
use Rattle.std.proofs.lemmas.List.{length-take-le}
use Rattle.record_bytes.proofs.new_record.put_front.Goals as goal

pub copy_from_slice-requires : goal.copy_from_slice-requires
copy_from_slice-requires c = length-take-le 64 c.args.block.now c.requires ∙ sym c.told-header

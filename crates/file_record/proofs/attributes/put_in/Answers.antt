use Rattle.std.proofs.Common.{subst}
use Rattle.attr_view.specs.Values.{Resizes}
use Rattle.file_record.proofs.PutLaws.{holds-them, puts-in}
use Rattle.file_record.proofs.attributes.put_in.Goals as goal

pub write_value_in-requires-clause-inside : goal.write_value_in-requires-clause-inside
write_value_in-requires-clause-inside c =
    holds-them c.args.block.now c.args.i c.args.len c.args.at c.args.from.now c.requires.value c.resize_in.new.block c.resize_in.new.block
    c.requires.shape c.requires.within (subst (Resizes c.args.block.now c.resize_in.new.block c.args.i) c.max.ensures c.resize_in.ensures)

pub returns : goal.returns
returns c =
    puts-in c.args.block.now c.args.i c.args.len c.args.at c.args.from.now c.requires.value c.resize_in.new.block c.write_value_in.new.block
    c.requires.shape c.requires.within (subst (Resizes c.args.block.now c.resize_in.new.block c.args.i) c.max.ensures c.resize_in.ensures)
    c.write_value_in.ensures

use Rattle.file_record.proofs.AttributeLaws.{puts-instead}
use Rattle.file_record.proofs.attributes.replace_in.Goals as goal

pub returns : goal.returns
returns c =
    puts-instead c.args.block.now c.remove_in.new.block c.insert_in.new.block c.args.attr.now c.args.i c.requires.within
    c.remove_in.ensures c.insert_in.ensures

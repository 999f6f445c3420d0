use Rattle.volume_format.proofs.record_blocks.fill_kinds.Goals as goal

pub returns : goal.returns
returns c = c.in_ok-add_value.ensures.adds 4 _ c.in_ok-begin_file.ensures.new

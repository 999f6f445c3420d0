use Rattle.volume_format.proofs.record_blocks.fill_bad.Goals as goal

pub returns : goal.returns
returns c = c.in_ok-add_bad.ensures 8 _ (c.in_ok-add_value.ensures.adds 8 _ c.in_ok-begin_file.ensures.new)

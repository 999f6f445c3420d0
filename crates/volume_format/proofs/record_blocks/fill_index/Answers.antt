use Rattle.volume_format.proofs.record_blocks.fill_index.Goals as goal

pub returns : goal.returns
returns c = c.in_ok-add_root.ensures.adds c.args.number _ c.in_ok-begin.ensures.new

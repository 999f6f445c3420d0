use Rattle.volume_format.proofs.record_blocks.fill_stream.Goals as goal

pub returns : goal.returns
returns c = c.in_ok-add_item.ensures.adds c.args.number _ c.in_ok-begin_file.ensures.new

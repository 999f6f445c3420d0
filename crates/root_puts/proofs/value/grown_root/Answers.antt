use Rattle.index_puts.proofs.BytesLaws.{key_fits}
use Rattle.root_puts.proofs.value.grown_root.Goals as goal

pub key_of-requires : goal.key_of-requires
key_of-requires c = key_fits c.args.entry.now c.requires.entry.one

use Rattle.mft_table.specs.Mft.{view}
use Rattle.view_index.proofs.SoundLaws.{sound-readable}
use Rattle.tree_edit.proofs.securable.is_described.Goals as goal

pub find_security-requires : goal.find_security-requires
find_security-requires g c = record {
  readable = λ told. sound-readable (view g.D.Disk c.args.mft.now) (c.requires.volume told).sound;
}

-- LAWS OF THE CRATES BELOW that those above cite, passed on.
pub use Rattle.dir_index.proofs.StandardLaws.{at-among, reads-stage}
pub use Rattle.attribute_edits.proofs.ChainLaws.{chain-rewrites}
pub use Rattle.attribute_edits.proofs.StandardFirst.{set-rewrites}
pub use Rattle.attribute_edits.proofs.AttributesSet.{node-file}
pub use Rattle.file_room.proofs.NodeLaws.{held-with}

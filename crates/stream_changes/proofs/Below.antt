-- LAWS OF THE CRATES BELOW that those above cite, passed on.
pub use Rattle.tree_edit.proofs.SettableLaws.{not-system}
pub use Rattle.tree_edit.proofs.OverLaws.{found-over}
unfoldable pub use Rattle.tree_edit.proofs.PunchLaws.{punchable-can}

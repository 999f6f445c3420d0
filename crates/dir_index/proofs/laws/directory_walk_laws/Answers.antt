use Rattle.dir_index.proofs.DirectoryLinks.{links_are_items}
use Rattle.dir_index.proofs.HeldIndex.{has_walk, walked}
use Rattle.dir_index.proofs.laws.directory_walk_laws.Goals as goal

pub returns : goal.returns
returns c = record {
  items = links_are_items;
  can_walk = λ view dir table root records held. has_walk view dir table root records held held.directory;
  walked = λ view dir table root records held. walked view dir table root records held held.directory;
}

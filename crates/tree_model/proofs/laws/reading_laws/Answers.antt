use Rattle.tree_model.proofs.NamesLaws as names
use Rattle.tree_model.proofs.ReadingLaws as laws
use Rattle.tree_model.proofs.laws.reading_laws.Goals as goal

pub returns : goal.returns
returns c = record {
  node = laws.node_of-read;
  links_in_order = laws.links_in_order-read;
  lookup = laws.lookup-read;
  names = names.links-read;
  hidden = names.hidden-links;
}

use Rattle.name_edits.proofs.RightNames as laws
use Rattle.name_edits.proofs.links.link_parts.Goals as goal

pub returns : goal.returns
returns c = record { names = laws.names-meets; rooted = laws.rooted-meets; root = laws.root-meets; whole = laws.links-whole }

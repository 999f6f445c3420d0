use Rattle.in_place.proofs.RewriteLaws as laws
use Rattle.in_place.proofs.laws.rewrites_in_turn.Goals as goal

pub returns : goal.returns
returns c = record { same = laws.Rewrites-same; both = laws.Rewrites-then; more = laws.Rewrites-more }

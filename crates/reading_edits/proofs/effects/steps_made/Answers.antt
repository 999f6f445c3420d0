use Rattle.reading_edits.proofs.EffectSteps as laws
use Rattle.reading_edits.proofs.effects.steps_made.Goals as goal

pub returns : goal.returns
returns c = record { changed = laws.node-changed; dropped = laws.links-dropped }

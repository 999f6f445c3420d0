use Rattle.stream_overwrites.proofs.TellableNames.{tellable}
use Rattle.stream_overwrites.proofs.laws.tellable_names.Goals as goal

pub returns : goal.returns
returns c = tellable

use Rattle.stream_overwrites.proofs.OverReading as laws
use Rattle.stream_overwrites.proofs.laws.overwritten.Goals as goal

pub returns : goal.returns
returns c old new f node asked name at bytes held told can finds over =
    laws.overwritten old new f node asked name at bytes held told can finds over

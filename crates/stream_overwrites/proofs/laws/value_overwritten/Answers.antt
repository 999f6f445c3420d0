use Rattle.stream_overwrites.proofs.OverReading as laws
use Rattle.stream_overwrites.proofs.laws.value_overwritten.Goals as goal

pub returns : goal.returns
returns c old new f node asked name at bytes held told can finds over =
    laws.value-overwritten old new f node asked name at bytes held can finds over

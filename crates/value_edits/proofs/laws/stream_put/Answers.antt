use Rattle.value_edits.proofs.StreamPut as laws
use Rattle.value_edits.proofs.laws.stream_put.Goals as goal

pub returns : goal.returns
returns c old new f node asked name held bytes gains told can finds puts =
    laws.stream-put old new f node asked name held bytes gains can finds puts

use Rattle.edit_def.proofs.NeedLaws.{IsPlanned-by}
use Rattle.edit_def.proofs.TakenLaws as laws
use Rattle.edit_def.proofs.laws.room_taken.Goals as goal

pub returns : goal.returns
returns c = record { owners = laws.owners-taken; records = laws.records-taken; count = laws.count-taken; planned = IsPlanned-by }

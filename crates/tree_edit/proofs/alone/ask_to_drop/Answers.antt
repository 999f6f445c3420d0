use Rattle.std.proofs.Common.{refl, sym, ap, subst}
use Rattle.mft_table.specs.Mft.{view}
use Rattle.file_room.specs.Asked.{has_room}
use Rattle.file_room.specs.Answered.{Says}
use Rattle.file_room.proofs.GivesLaws.{at_once, tells}
use Rattle.tree_edit.proofs.WayLaws.{droppable-bits, droppable-none, droppable-not_moved, droppable-value}
use Rattle.tree_edit.proofs.alone.ask_to_drop.Goals as goal

pub returns-in-InPlace : goal.returns-in-InPlace
returns-in-InPlace g c = record {
  asked = λ name. at_once refl (λ told is.
      ap has_room (droppable-none (view g.D.Disk c.args.mft.now) c.args.found.now name is c.in-InPlace.is));
}

pub returns-in-IntoClusters : goal.returns-in-IntoClusters
returns-in-IntoClusters g c = record {
  asked = λ name. at_once refl (λ told is.
      ap has_room (droppable-not_moved (view g.D.Disk c.args.mft.now) c.args.found.now name is c.in-IntoClusters.is));
}

pub returns-in-InRecord : goal.returns-in-InRecord
returns-in-InRecord g c = record {
  asked = λ name. at_once refl (λ told is.
      ap has_room (droppable-value (view g.D.Disk c.args.mft.now) c.args.found.now name is c.in-InRecord.is));
}

pub returns-in-InClusters : goal.returns-in-InClusters
returns-in-InClusters g c = record {
  asked = λ name. tells c.ask_for_bits.ensures.asked refl (λ told says is.
      subst (λ o. Says (has_room o) c.ask_for_bits.result)
      (sym (droppable-bits (view g.D.Disk c.args.mft.now) c.args.found.now name is c.in-InClusters.is)) says);
}

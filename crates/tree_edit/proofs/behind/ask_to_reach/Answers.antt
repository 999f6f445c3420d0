use Rattle.std.proofs.Common.{◌+◌, ◌==◌, ◌≡◌, ◌&&◌, List, Option, false, refl, subst, sym, ap, ℕ}
use Rattle.std.proofs.lemmas.Bool.{and_left, and_parts, and_right, lt-leb, ne_eqb}
use Rattle.std.specs.Prelude.{nat_le}
use Rattle.volume_def.specs.Files.{Part}
use Rattle.mft_table.specs.Mft.{view}
use Rattle.file_room.specs.Asked.{has_room}
use Rattle.sparse_io.specs.Behind.{TellsBehind}
use Rattle.tree_model.specs.StreamRoom.{parts_named}
use Rattle.file_room.specs.Answered.{Says}
use Rattle.file_room.specs.Nodes.{number_of}
use Rattle.file_room.proofs.GivesLaws.{at_once, tells}
use Rattle.tree_edit.specs.Alone.{can_give}
use Rattle.tree_edit.proofs.ReachFound.{asks-none, asks-room, told}
use Rattle.tree_edit.proofs.behind.ask_to_reach.Goals.{else-count-eq0-via-then-count-eq0+else-at-len, else-count-eq0-via-else-count-eq0}
use Rattle.tree_edit.proofs.behind.ask_to_reach.Goals as goal

pub returns-then-at-len : goal.returns-then-at-len
returns-then-at-len g c = record {
  asked = λ name. at_once refl (λ known is reach.
      let v = view g.D.Disk c.args.mft.now in
      let a = c.args in
      let found = a.found.now in
      let size = c.cluster_bytes-size in
      let f = number_of found.held in
      let extent = sym (and_parts (can_give v name f) _ reach).0 in
      let some =
      subst (λ (o : Option ℕ). TellsBehind size.result (parts_named v f is.stream.is.stream.name) a.at a.len o) c.in-Ok-Some.field-0-is
      (told v found.held is.held name found.stream is.stream.is size.result a.at a.len size.ensures extent
      (λ (ps : List Part). TellsBehind size.result ps a.at a.len c.in-Ok-Some.field-0) c.in-Ok-Some.ensures.tells) in
      ap has_room (asks-none v found.held is.held name found.stream is.stream.is size.result a.at a.len size.ensures extent
      c.look_at_names.ensures c.in-Ok-Some.count some c.if-count-eq0.true c.if-at-len.true));
}

pub returns-else-count-eq0 : goal.returns-else-count-eq0
returns-else-count-eq0 g c = record {
  asked = λ name. tells c.ask_for_room.ensures.asked refl (λ known says is reach.
      let v = view g.D.Disk c.args.mft.now in
      let a = c.args in
      let found = a.found.now in
      let size = c.cluster_bytes-size in
      let f = number_of found.held in
      let count = c.in-Ok-Some.count in
      let extent = sym (and_parts (can_give v name f) _ reach).0 in
      let some =
      subst (λ (o : Option ℕ). TellsBehind size.result (parts_named v f is.stream.is.stream.name) a.at a.len o) c.in-Ok-Some.field-0-is
      (told v found.held is.held name found.stream is.stream.is size.result a.at a.len size.ensures extent
      (λ (ps : List Part). TellsBehind size.result ps a.at a.len c.in-Ok-Some.field-0) c.in-Ok-Some.ensures.tells) in
      let more : ((count == 0) && nat_le (a.at + a.len) found.stream.size) ≡ false = elim c.else-count-eq0.branch [
        | else-count-eq0-via-then-count-eq0+else-at-len w ↦
            and_right (count == 0) _ (lt-leb (a.at + a.len) found.stream.size w.if-at-len.false)
        | else-count-eq0-via-else-count-eq0 w ↦ and_left (count == 0) _ (ne_eqb count 0 w.if-count-eq0.false)
      ] in
      subst (λ o. Says (has_room o) c.ask_for_room.result)
      (sym (asks-room v found.held is.held name found.stream is.stream.is size.result a.at a.len size.ensures extent
      c.look_at_names.ensures count some more)) (says is.held.parts));
}

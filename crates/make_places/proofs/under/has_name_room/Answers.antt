use Rattle.std.proofs.Common.{◌≡◌, ◌+◌, ◌*◌, ◌/◌, ℕ, List, false, length, refl, sym, ap, subst, ◌∙◌, arith}
use Rattle.std.proofs.lemmas.Bool.{or_right}
use Rattle.ntfs_def.specs.FileName.{key_units}
use Rattle.mft_table.specs.declared.mounted.Mounted.{Mounted}
use Rattle.mft_table.specs.Mft.{mounted_of, view}
use Rattle.tree_model.specs.LeafRoom.{has_leaf_room}
use Rattle.tree_model.specs.RootRoom.{has_root_room}
use Rattle.tree_model.specs.Ways.{entry_len}
use Rattle.tree_edit.specs.Nodes.{number_of}
use Rattle.tree_edit.proofs.GivesLaws.{at_once}
use Rattle.file_makes.specs.Held.{HoldsItems}
use Rattle.make_places.proofs.RoomLaws.{holds-items, leaf-alone, len-named, room-named}
use Rattle.make_places.proofs.under.has_name_room.Goals as goal

pub has_leaf_room-requires-clause-held : goal.has_leaf_room-requires-clause-held
has_leaf_room-requires-clause-held g c = λ told.
    let old = c.args.mft.now in
    subst (HoldsItems (view g.D.Disk old) c.args.dir.now.parts)
    (sym (c.in_ok-upcase.ensures.same ∙ ap (λ (m : Mounted). m.upcase) c.mounted.ensures))
    (holds-items (view g.D.Disk old) (mounted_of g.D.Disk old) c.args.dir.now (c.requires.volume told) (c.requires.directory told))

pub returns-then-has_root_room : goal.returns-then-has_root_room
returns-then-has_root_room g c = at_once refl (λ told.
    let v = view g.D.Disk c.args.mft.now in
    let dir = number_of c.args.dir.now in
    let name = c.args.name.now in
    let key = c.in_ok-key.key.items in
    let holds = holds-items v (mounted_of g.D.Disk c.args.mft.now) c.args.dir.now (c.requires.volume told) (c.requires.directory told) in
    let long : c.len.result ≡ length key = omega (arith, c.len.ensures, c.in_ok-key.key.ok) in
    sym (or_right (has_leaf_room v dir name (entry_len name)) (has_root_room v dir (entry_len name))
    (sym (ap (has_root_room v dir) (c.entry_bytes-len.ensures ∙ ap (λ n. (16 + n + 7) / 8 * 8) long
    ∙ len-named name key c.in_ok-key.ensures.key))
    ∙ sym (c.has_root_room.ensures v holds.items holds.held.held holds.held.has) ∙ c.if-has_root_room.true)))

pub returns-in-Ok : goal.returns-in-Ok
returns-in-Ok g c = record {
  reads = c.in-Ok.ensures.reads.0;
  only = c.in-Ok.ensures.reads.1;
  counts = c.in-Ok.ensures.faults;
  is = λ told.
      let v = view g.D.Disk c.args.mft.now in
      let dir = number_of c.args.dir.now in
      let name = c.args.name.now in
      let key = c.in_ok-key.key.items in
      let holds = holds-items v (mounted_of g.D.Disk c.args.mft.now) c.args.dir.now (c.requires.volume told) (c.requires.directory told) in
      let long : c.len.result ≡ length key = omega (arith, c.len.ensures, c.in_ok-key.key.ok) in
      let len = c.entry_bytes-len.ensures ∙ ap (λ n. (16 + n + 7) / 8 * 8) long ∙ len-named name key c.in_ok-key.ensures.key in
      let root : has_root_room v dir (entry_len name) ≡ false =
      sym (ap (has_root_room v dir) len) ∙ sym (c.has_root_room.ensures v holds.items holds.held.held holds.held.has)
      ∙ c.if-has_root_room.false in
      c.in-Ok.ensures.room told
      ∙ ap (λ (ks : List ℕ). has_leaf_room v dir (key_units ks) c.entry_bytes-len.result) c.deref.ensures.value
      ∙ ap (λ (n : ℕ). has_leaf_room v dir (key_units key) n) (c.entry_bytes-len.ensures ∙ ap (λ n. (16 + n + 7) / 8 * 8) long)
      ∙ room-named v dir name key c.in_ok-key.ensures.key
      ∙ leaf-alone (has_leaf_room v dir name (entry_len name)) (has_root_room v dir (entry_len name)) root;
}

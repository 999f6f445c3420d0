use Rattle.std.proofs.Common.{◌≡◌, ℕ, Ok, refl, subst}
use Rattle.mft_table.specs.Mft.{mounted_of, view}
use Rattle.tree_model.specs.IndexRoom.{directory_index, index_depth}
use Rattle.tree_model.specs.NoRoom.{no_room_for}
use Rattle.tree_edit.specs.Answered.{Finds, Says}
use Rattle.tree_edit.specs.Nodes.{number_of}
use Rattle.tree_edit.proofs.GivesLaws.{both, tells}
use Rattle.tree_edit.specs.Asked.{has_room}
use Rattle.tree_edit.specs.Made.{made_bill}
use Rattle.make_places.proofs.RoomLaws.{holds-items}
use Rattle.make_places.proofs.find.ask_for_file.Goals as goal

pub index_depth-requires : goal.index_depth-requires
index_depth-requires g c = record {
  held = λ told.
      let old = c.args.mft.now in
      holds-items (view g.D.Disk old) (mounted_of g.D.Disk old) c.args.dir.now (c.requires.volume told) (c.requires.held told);
}

pub returns-in-Ok : goal.returns-in-Ok
returns-in-Ok g c = record {
  asked =
      let old = c.args.mft.now in
      let dir = number_of c.args.dir.now in
      let first : Finds g.D.Disk old c.index_depth.new.mft (λ v (d : ℕ). d ≡ index_depth v (directory_index dir)) (Ok c.in-Ok.depth) =
      record {
        reads = c.in-Ok.ensures.reads.0;
        only = c.in-Ok.ensures.reads.1;
        counts = c.in-Ok.ensures.faults;
        is = c.in-Ok.ensures.depth;
      } in
      tells (both first c.ask_to_make.ensures.asked) refl (λ told says.
      let v = view g.D.Disk old in
      subst (λ (d : ℕ). Says (has_room (no_room_for v (made_bill v c.args.directory dir d))) c.ask_to_make.result) says.0
      (says.1 (c.requires.held told).held.parts));
}

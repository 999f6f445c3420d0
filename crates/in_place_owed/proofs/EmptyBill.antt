-- NO ROOM IS TAKEN by a command that is done in place: its bill is the empty one.
use Rattle.std.proofs.Common.{◌≡◌, ◌==◌, ◌&&◌, ◌++◌, ◌+◌, not, ℕ, Bool, true, false, List, [], ◌∷◌, filter, length, map, None}
use Rattle.std.proofs.Common.{refl, ap, ◌∙◌}
use Rattle.std.proofs.lemmas.Bool.{and_parts, eqb-true}
use Rattle.std.specs.List.{range_with_len}
use Rattle.std.specs.Prelude.{is_some, nat_le}
use Rattle.volume_def.specs.Table.{cluster_bytes}
use Rattle.volume_def.specs.StreamSize.{told_size}
use Rattle.volume_def.specs.Files.{Part}
use Rattle.volume_def.specs.Values.{first_part}
use Rattle.volume_def.specs.View.{VolumeView}
use Rattle.tree_model.specs.Bill.{bill_of, bill_with, clusters_of, is_touched, new_files, touched_file, touched_files, touches_file}
use Rattle.tree_model.specs.Need.{Touched, empty_bill}
use Rattle.tree_model.specs.NoRoom.{no_room_for}
use Rattle.tree_model.specs.Ways.{is_done_in_place}
use Rattle.tree_model.specs.StreamRoom.{goes_over, initialized_size, is_in_place, new_clusters, stream_parts}
use Rattle.tree_model.specs.Subjects.{Located, NoName}
use Rattle.tree_model.specs.Tree.{Tree}
use Rattle.tree_model.specs.declared.command.Command.{Command}
use Rattle.tree_model.specs.declared.command.Command.TheVariants as c
use Rattle.tree_model.proofs.BillLaws as bills
use Rattle.in_place_owed.specs.SetsInPlace.{edits_in_place}
use Rattle.in_place_owed.proofs.InPlaceCommands.{DoesLittle, does-little, long-standard}

-- BYTES THAT GO OVER BYTES come to own no cluster, and go in place.
over-parts : (size : ℕ) (extents : List Part) (from len : ℕ) → goes_over size extents from len ≡ true
    → (new_clusters size extents from len ≡ 0) × (is_in_place size extents from len ≡ true)
over-parts size extents from len is =
    let place = (and_parts (is_in_place size extents from len) (nat_le (from + len) (initialized_size extents))
    (and_parts (is_some (first_part extents)) _ is).1).0 in
    let none = new_clusters size extents from len == 0 in
    let front = and_parts (none && nat_le from (initialized_size extents)) (nat_le (from + len) (told_size (first_part extents))) place in
    (eqb-true (new_clusters size extents from len) 0 (and_parts none (nat_le from (initialized_size extents)) front.0).0, place)

touched-none : (file : ℕ) (files : List ℕ) → filter (is_touched false file []) files ≡ []
touched-none file [] = refl
touched-none file (f ∷ files) = touched-none file files

-- a command that does little, and names nothing new, changes no index
pub little-quiet : (tree : Tree) (command : Command) (at : Located) → DoesLittle tree command at → at.new ≡ NoName
    → bills.IsQuiet tree command at
little-quiet tree command at little new =
    record { new = new; links = little.drops; stays = little.stays; added = little.added; dropped = little.dropped }

-- a command that changes no index, makes no file, and touches none, with no cluster for its stream
pub bill-none : (view : VolumeView) (tree : Tree) (command : Command) (at : Located) → bills.IsQuiet tree command at
    → new_files command ≡ [] → clusters_of (cluster_bytes view.layout) view tree command at ≡ 0
    → touches_file (cluster_bytes view.layout) view tree command at ≡ false
    → bill_of view tree command at ≡ empty_bill
unfolding bill_of
bill-none view tree command at quiet makes clusters touches =
    let size = cluster_bytes view.layout in
    let touched : List ℕ → List Touched = λ files. map (touched_file view command at) files in
    ap (bill_with size view tree command at) (bills.counted-none view tree command at quiet)
    ∙ ap (λ (files : List Touched). record empty_bill {
      new_files = length files;
      clusters = clusters_of size view tree command at;
      touched = touched (touched_files size view tree command at []) ++ files;
    }) makes
    ∙ ap (λ (n : ℕ). record empty_bill {
      clusters = n;
      touched = touched (touched_files size view tree command at []) ++ [];
    }) clusters
    ∙ ap (λ (b : Bool).
    record empty_bill { touched = touched (filter (is_touched b at.file []) (range_with_len 0 view.layout.count)) ++ [] })
    touches
    ∙ ap (λ (files : List ℕ). record empty_bill { touched = touched files ++ [] })
    (touched-none at.file (range_with_len 0 view.layout.count))

pub bill-empty : (view : VolumeView) (tree : Tree) (command : Command) (at : Located) → edits_in_place command ≡ true → at.new ≡ NoName
    → is_done_in_place view tree command at ≡ true → bill_of view tree command at ≡ empty_bill
unfolding clusters_of touches_file
bill-empty view tree command at is new done = by command is done
  where
    quiet : (command : Command) → edits_in_place command ≡ true → bills.IsQuiet tree command at
    quiet command is = little-quiet tree command at (does-little tree command at is) new

    by : (command : Command) → edits_in_place command ≡ true → is_done_in_place view tree command at ≡ true
        → bill_of view tree command at ≡ empty_bill
    by (c.Setattr path flags) is done = bill-none view tree (c.Setattr path flags) at (quiet (c.Setattr path flags) refl) refl refl refl
    by (c.Write path stream from bytes) is done =
        let parts = over-parts (cluster_bytes view.layout) (stream_parts view tree at) from (length bytes) done in
        bill-none view tree (c.Write path stream from bytes) at (quiet (c.Write path stream from bytes) refl) refl parts.0 (ap not parts.1)
    by (c.Hwrite handle from bytes) is done =
        let parts = over-parts (cluster_bytes view.layout) (stream_parts view tree at) from (length bytes) done in
        bill-none view tree (c.Hwrite handle from bytes) at (quiet (c.Hwrite handle from bytes) refl) refl parts.0 (ap not parts.1)
    by (c.Punch path stream from len) is done =
        bill-none view tree (c.Punch path stream from len) at (quiet (c.Punch path stream from len) refl) refl refl (ap not done)
    by (c.Setsec path id) is done =
        bill-none view tree (c.Setsec path id) at (quiet (c.Setsec path id) refl) refl refl (long-standard view at.file done)
    by other is done = cc

-- so it is never refused for room
pub has-room : (view : VolumeView) (tree : Tree) (command : Command) (at : Located) → edits_in_place command ≡ true → at.new ≡ NoName
    → is_done_in_place view tree command at ≡ true → no_room_for view (bill_of view tree command at) ≡ None
has-room view tree command at is new done = ap (no_room_for view) (bill-empty view tree command at is new done) ∙ bills.none-refused view

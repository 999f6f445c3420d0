-- THE COMMANDS that edit a stream alone: what they do not do, what they name of their own, and what their bill has.
use Rattle.std.proofs.Common.{◌≡◌, ◌<◌, ◌+◌, ◌==◌, ◌&&◌, not, ℕ, Bool, true, false, List, [], ◌∷◌, length, Option, Some, None, refl}
use Rattle.std.proofs.Common.{sym, ap, ◌∙◌, if◌then◌else◌}
use Rattle.std.proofs.lemmas.Bool.{and_parts, eqb-true}
use Rattle.std.specs.Prelude.{is_some, nat_le, option_and_then}
use Rattle.volume_def.specs.Files.{Part}
use Rattle.volume_def.specs.StreamSize.{told_size}
use Rattle.volume_def.specs.Table.{cluster_bytes}
use Rattle.volume_def.specs.Values.{first_part}
use Rattle.volume_def.specs.View.{VolumeView}
use Rattle.tree_model.specs.Bill.{bill_of, clusters_of, grows, touches_file}
use Rattle.tree_model.specs.NoRoom.{no_room_for}
use Rattle.tree_model.specs.StreamRoom.{initialized_size, is_in_place, new_clusters, stream_parts}
use Rattle.tree_model.specs.Subjects.{Located, NewName, NoName}
use Rattle.tree_model.specs.Tree.{Tree}
use Rattle.tree_model.specs.declared.command.Command.{Command}
use Rattle.tree_model.specs.declared.command.Command.TheVariants as c
use Rattle.tree_model.proofs.BillLaws as bills
use Rattle.edit_def.specs.Kept.{Key}
use Rattle.edit_def.specs.OneFile.{no_room_alone}
use Rattle.session_def.specs.Done.{lengthens}
use Rattle.session_def.specs.Named.{is_own_key, is_stream_key, new_directory, timed}
use Rattle.value_edits.proofs.EmptyBill.{bill-none, little-quiet}
use Rattle.value_edits.proofs.InPlaceCommands.{DoesLittle, does-little}
use Rattle.value_owed.specs.ValueOwed.{bill_asked, clusters_asked, edits_value}
use Rattle.value_owed.proofs.OneBill.{bill-one}

pub value-little : (tree : Tree) (command : Command) (at : Located) → edits_value command ≡ true → DoesLittle tree command at
value-little tree (c.Write path stream from bytes) at is = does-little tree (c.Write path stream from bytes) at refl
value-little tree (c.Hwrite handle from bytes) at is = does-little tree (c.Hwrite handle from bytes) at refl
value-little tree (c.Truncate path stream size) at is = record {
  makes = refl;
  drops = refl;
  stays = refl;
  added = refl;
  dropped = refl;
  ids = refl;
  points = λ flag. refl;
  point = λ view f. tt;
  no_point = λ view. refl;
}
value-little tree (c.Rmstream path name) at is = record {
  makes = refl;
  drops = refl;
  stays = refl;
  added = refl;
  dropped = refl;
  ids = refl;
  points = λ flag. refl;
  point = λ view f. tt;
  no_point = λ view. refl;
}
value-little tree other at is = cc

-- THE NODES of which a time is set are one
pub value-timed : (command : Command) (at : Located) (made : ℕ) → edits_value command ≡ true → at.new ≡ NoName
    → timed command at made ≡ at.file ∷ []
value-timed (c.Write path stream from bytes) at made is new = ap (λ (n : NewName). at.file ∷ new_directory n) new
value-timed (c.Hwrite handle from bytes) at made is new = ap (λ (n : NewName). at.file ∷ new_directory n) new
value-timed (c.Truncate path stream size) at made is new = ap (λ (n : NewName). at.file ∷ new_directory n) new
value-timed (c.Rmstream path name) at made is new = ap (λ (n : NewName). at.file ∷ new_directory n) new
value-timed other at made is new = cc

-- THE ATTRIBUTE OF ITS OWN is the stream.
pub value-own : (tree : Tree) (command : Command) (at : Located) (made : ℕ) (key : Key) → edits_value command ≡ true
    → is_own_key tree command at made key ≡ is_stream_key tree at key
value-own tree (c.Write path stream from bytes) at made key is = refl
value-own tree (c.Hwrite handle from bytes) at made key is = refl
value-own tree (c.Truncate path stream size) at made key is = refl
value-own tree (c.Rmstream path name) at made key is = refl
value-own tree other at made key is = cc

-- it lengthens no $STANDARD_INFORMATION
pub value-lengthens : (view : VolumeView) (command : Command) (at : Located) (f : ℕ) → edits_value command ≡ true
    → lengthens view command at f ≡ false
value-lengthens view (c.Write path stream from bytes) at f is = refl
value-lengthens view (c.Hwrite handle from bytes) at f is = refl
value-lengthens view (c.Truncate path stream size) at f is = refl
value-lengthens view (c.Rmstream path name) at f is = refl
value-lengthens view other at f is = cc

-- A WRITE IN PLACE asks for no cluster.
placed-none : (size : ℕ) (extents : List Part) (from len : ℕ) → is_in_place size extents from len ≡ true
    → new_clusters size extents from len ≡ 0
placed-none size extents from len place =
    let none = new_clusters size extents from len == 0 in
    let front = and_parts (none && nat_le from (initialized_size extents)) (nat_le (from + len) (told_size (first_part extents))) place in
    eqb-true (new_clusters size extents from len) 0 (and_parts none (nat_le from (initialized_size extents)) front.0).0

-- THE BILL: of a stream that gets longer or other bytes that file alone, with the clusters that it may come to own; else the empty one.
write-bill : (view : VolumeView) (tree : Tree) (path : List (List ℕ)) (stream : Option (List ℕ)) (from : ℕ) (bytes : List ℕ) (at : Located)
    → at.new ≡ NoName → at.file < view.layout.count → is_some at.content ≡ true → (b : Bool)
    → is_in_place (cluster_bytes view.layout) (stream_parts view tree at) from (length bytes) ≡ b
    → bill_of view tree (c.Write path stream from bytes) at
    ≡ bill_asked view at.file (clusters_asked view tree (c.Write path stream from bytes) at)
unfolding clusters_of touches_file
write-bill view tree path stream from bytes at new inside there true place =
    let size = cluster_bytes view.layout in
    let count = new_clusters size (stream_parts view tree at) from (length bytes) in
    bill-none view tree (c.Write path stream from bytes) at
    (little-quiet tree (c.Write path stream from bytes) at (value-little tree (c.Write path stream from bytes) at refl) new) refl
    (placed-none size (stream_parts view tree at) from (length bytes) place) (ap not place)
    ∙ ap (λ b. bill_asked view at.file (if b then None else Some count)) (sym place)
write-bill view tree path stream from bytes at new inside there false elsewhere =
    let size = cluster_bytes view.layout in
    let count = new_clusters size (stream_parts view tree at) from (length bytes) in
    bill-one view tree (c.Write path stream from bytes) at
    (little-quiet tree (c.Write path stream from bytes) at (value-little tree (c.Write path stream from bytes) at refl) new) refl
    count refl (ap not elsewhere) there inside
    ∙ ap (λ b. bill_asked view at.file (if b then None else Some count)) (sym elsewhere)

hwrite-bill : (view : VolumeView) (tree : Tree) (handle from : ℕ) (bytes : List ℕ) (at : Located)
    → at.new ≡ NoName → at.file < view.layout.count → is_some at.content ≡ true → (b : Bool)
    → is_in_place (cluster_bytes view.layout) (stream_parts view tree at) from (length bytes) ≡ b
    → bill_of view tree (c.Hwrite handle from bytes) at
    ≡ bill_asked view at.file (clusters_asked view tree (c.Hwrite handle from bytes) at)
unfolding clusters_of touches_file
hwrite-bill view tree handle from bytes at new inside there true place =
    let size = cluster_bytes view.layout in
    let count = new_clusters size (stream_parts view tree at) from (length bytes) in
    bill-none view tree (c.Hwrite handle from bytes) at
    (little-quiet tree (c.Hwrite handle from bytes) at (value-little tree (c.Hwrite handle from bytes) at refl) new) refl
    (placed-none size (stream_parts view tree at) from (length bytes) place) (ap not place)
    ∙ ap (λ b. bill_asked view at.file (if b then None else Some count)) (sym place)
hwrite-bill view tree handle from bytes at new inside there false elsewhere =
    let size = cluster_bytes view.layout in
    let count = new_clusters size (stream_parts view tree at) from (length bytes) in
    bill-one view tree (c.Hwrite handle from bytes) at
    (little-quiet tree (c.Hwrite handle from bytes) at (value-little tree (c.Hwrite handle from bytes) at refl) new) refl
    count refl (ap not elsewhere) there inside
    ∙ ap (λ b. bill_asked view at.file (if b then None else Some count)) (sym elsewhere)

truncate-bill : (view : VolumeView) (tree : Tree) (path : List (List ℕ)) (stream : Option (List ℕ)) (size : ℕ) (at : Located)
    → at.new ≡ NoName → at.file < view.layout.count → is_some at.content ≡ true → (b : Bool) → grows size at.content ≡ b
    → bill_of view tree (c.Truncate path stream size) at
    ≡ bill_asked view at.file (clusters_asked view tree (c.Truncate path stream size) at)
unfolding clusters_of touches_file
truncate-bill view tree path stream size at new inside there true more =
    let count = new_clusters (cluster_bytes view.layout) (stream_parts view tree at) 0 0 in
    bill-one view tree (c.Truncate path stream size) at
    (little-quiet tree (c.Truncate path stream size) at (value-little tree (c.Truncate path stream size) at refl) new) refl
    count (ap (λ b. if b then count else 0) more) more there inside
    ∙ ap (λ b. bill_asked view at.file (if b then Some count else None)) (sym more)
truncate-bill view tree path stream size at new inside there false none =
    let count = new_clusters (cluster_bytes view.layout) (stream_parts view tree at) 0 0 in
    bill-none view tree (c.Truncate path stream size) at
    (little-quiet tree (c.Truncate path stream size) at (value-little tree (c.Truncate path stream size) at refl) new) refl
    (ap (λ b. if b then count else 0) none) none
    ∙ ap (λ b. bill_asked view at.file (if b then Some count else None)) (sym none)

rmstream-bill : (view : VolumeView) (tree : Tree) (path : List (List ℕ)) (name : List ℕ) (at : Located) → at.new ≡ NoName
    → bill_of view tree (c.Rmstream path name) at
    ≡ bill_asked view at.file (clusters_asked view tree (c.Rmstream path name) at)
unfolding clusters_of touches_file
rmstream-bill view tree path name at new =
    bill-none view tree (c.Rmstream path name) at
    (little-quiet tree (c.Rmstream path name) at (value-little tree (c.Rmstream path name) at refl) new) refl refl refl

pub bill-value : (view : VolumeView) (tree : Tree) (command : Command) (at : Located) → edits_value command ≡ true → at.new ≡ NoName
    → at.file < view.layout.count → is_some at.content ≡ true
    → bill_of view tree command at ≡ bill_asked view at.file (clusters_asked view tree command at)
bill-value view tree (c.Write path stream from bytes) at is new inside there =
    write-bill view tree path stream from bytes at new inside there _ refl
bill-value view tree (c.Hwrite handle from bytes) at is new inside there =
    hwrite-bill view tree handle from bytes at new inside there _ refl
bill-value view tree (c.Truncate path stream size) at is new inside there =
    truncate-bill view tree path stream size at new inside there (grows size at.content) refl
bill-value view tree (c.Rmstream path name) at is new inside there = rmstream-bill view tree path name at new
bill-value view tree other at is new inside there = cc

-- so it is refused for room where that is
asked-room : (view : VolumeView) (f : ℕ) (o : Option ℕ)
    → no_room_for view (bill_asked view f o) ≡ option_and_then (no_room_alone view f) o
asked-room view f None = bills.none-refused view
asked-room view f (Some k) = refl

pub value-room : (view : VolumeView) (tree : Tree) (command : Command) (at : Located) → edits_value command ≡ true → at.new ≡ NoName
    → at.file < view.layout.count → is_some at.content ≡ true
    → no_room_for view (bill_of view tree command at) ≡ option_and_then (no_room_alone view at.file) (clusters_asked view tree command at)
value-room view tree command at is new inside there =
    ap (no_room_for view) (bill-value view tree command at is new inside there)
    ∙ asked-room view at.file (clusters_asked view tree command at)

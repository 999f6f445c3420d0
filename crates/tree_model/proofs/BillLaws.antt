-- Commands that ask for no room.
use Rattle.std.proofs.Common.{◌≡◌, ◌+◌, ◌*◌, ◌++◌, ◌&&◌, ◌==◌, ℕ, not, length, false, cond, filter, map, nat_lt, List, [], ◌∷◌, None}
use Rattle.std.proofs.Common.{append-nil, append_assoc, refl, sym, ap, ◌∙◌, arith}
use Rattle.std.proofs.lemmas.Bool.{le-leb, le-ltb}
use Rattle.std.specs.List.{range_with_len}
use Rattle.std.specs.Option.{option_or, option_to_list}
use Rattle.volume_def.specs.Table.{cluster_bytes}
use Rattle.volume_def.specs.View.{VolumeView}
use Rattle.tree_model.specs.Answers.{object_id}
use Rattle.tree_model.specs.Bill.{Change, bill_of, bill_with, changes_of, clusters_of, counted_drops, counted_in, counted_of}
use Rattle.tree_model.specs.Bill.{directory_change, dropped_links, is_entry_of, is_touched, new_names_in, object_id_change, point_change}
use Rattle.tree_model.specs.Bill.{removes_file, tags_added, tags_dropped, touched_file, touches_file}
use Rattle.tree_model.specs.IndexRoom.{Index, directory_index, has_entry, is_object_id_item, is_point_item, object_id_index, point_index}
use Rattle.tree_model.specs.Need.{Counted, empty_bill, need_of}
use Rattle.ntfs_def.specs.Rounded.{clusters_for}
use Rattle.tree_model.specs.NoRoom.{mft_free, mft_need, need_on, no_room_for}
use Rattle.tree_model.specs.Refusals.{when}
use Rattle.volume_def.specs.Room.{unowned_clusters, unused_records}
use Rattle.tree_model.specs.Subjects.{Located, NoName}
use Rattle.tree_model.specs.Tree.{Tree, is_in}
use Rattle.tree_model.specs.declared.command.Command.{Command}
use Rattle.tree_model.specs.declared.command.Command.TheVariants as c
use Rattle.tree_model.specs.declared.reply.No.TheVariants as no

need-empty : (size free : ℕ) → need_of size free empty_bill ≡ 0
need-empty size free =
    ap (λ fits. 0 + clusters_for 4096 size * 0 + 0 + cond fits 0 (clusters_for 0 size + 2)) (le-leb 0 free (omega arith)) ∙ omega arith

pub none-refused : (view : VolumeView) → no_room_for view empty_bill ≡ None
unfolding no_room_for
none-refused view =
    let size = cluster_bytes view.layout in
    let records = unused_records view in
    let clusters = unowned_clusters view in
    let enough : nat_lt records 0 ≡ false = le-ltb records 0 (omega arith) in
    let need : nat_lt clusters (need_on view empty_bill) ≡ false =
    ap (nat_lt clusters) (need-empty size records) ∙ le-ltb clusters 0 (omega arith) in
    ap (λ short. option_or (when (short && nat_lt (mft_free view empty_bill) (mft_need view empty_bill))
    (no.MftFull (mft_need view empty_bill) (mft_free view empty_bill)))
    (option_or (when (nat_lt clusters (need_on view empty_bill)) (no.NoRoom (need_on view empty_bill) clusters)) None)) enough
    ∙ ap (λ short. option_or (when short (no.NoRoom (need_on view empty_bill) clusters)) None) need

-- changes without entries count nothing
abbrev counts : VolumeView → List Change → List Counted
counts view changes = filter (λ (counted : Counted). nat_lt 0 counted.entries) (map (counted_in view) changes)

counts-none : {X : Type 0} (view : VolumeView) (change : X → Change) (xs : List X) (rest : List Change)
    → ((x : X) → (counted_in view (change x)).entries ≡ 0) → counts view (map change xs ++ rest) ≡ counts view rest
counts-none view change [] rest none = refl
counts-none view change (x ∷ xs) rest none =
    ap (λ entries. cond (nat_lt 0 entries) (counted_in view (change x) ∷ counts view (map change xs ++ rest))
    (counts view (map change xs ++ rest))) (none x)
    ∙ counts-none view change xs rest none

-- The command names nothing new, drops no link, takes no file away, and touches no key of a reparse point.
pub record IsQuiet (tree : Tree) (command : Command) (at : Located) : Type 0 where
  pub new : at.new ≡ NoName
  pub links : dropped_links tree command at ≡ []
  pub stays : removes_file tree command at ≡ false
  pub added : tags_added command ≡ []
  pub dropped : tags_dropped tree command at ≡ []

directory-none : (view : VolumeView) (tree : Tree) (command : Command) (at : Located) → IsQuiet tree command at → (dir : ℕ)
    → (counted_in view (directory_change tree command at dir)).entries ≡ 0
directory-none view tree command at quiet dir =
    ap (λ new. new_names_in dir new + counted_drops view (directory_change tree command at dir)) quiet.new
    ∙ ap (λ links. 0 + counted_drops view
    (record { index = directory_index dir; added = 0; dropped = map is_entry_of (filter (is_in dir) links) })) quiet.links

point-none : (view : VolumeView) (tree : Tree) (command : Command) (at : Located) → IsQuiet tree command at → (index : Index)
    → (counted_in view (point_change view tree command at index)).entries ≡ 0
point-none view tree command at quiet index =
    ap (λ tags. length (filter (λ tag. not (has_entry view index (is_point_item view at.file tag))) tags)
    + counted_drops view (point_change view tree command at index)) quiet.added
    ∙ ap (λ tags. 0 + counted_drops view
    (record { index = index; added = 0; dropped = map (is_point_item view at.file) tags })) quiet.dropped

object_id-none : (view : VolumeView) (tree : Tree) (command : Command) (at : Located) → IsQuiet tree command at → (index : Index)
    → (counted_in view (object_id_change tree command at index)).entries ≡ 0
object_id-none view tree command at quiet index =
    ap (λ goes. 0 + counted_drops view (record {
      index = index;
      added = 0;
      dropped = map is_object_id_item
          (cond goes (filter (λ id. length id == 16) (map object_id (option_to_list at.node))) []);
    })) quiet.stays

-- the bill of such a command counts no change of an index
pub counted-none : (view : VolumeView) (tree : Tree) (command : Command) (at : Located) → IsQuiet tree command at
    → counted_of view tree command at ≡ []
unfolding counted_of changes_of
counted-none view tree command at quiet =
    let points = map (point_change view tree command at) (option_to_list (point_index view)) in
    let ids = map (object_id_change tree command at) (option_to_list (object_id_index view)) in
    let directories = map (directory_change tree command at) (range_with_len 0 view.layout.count) in
    ap (counts view) (append_assoc directories points ids)
    ∙ counts-none view (directory_change tree command at) (range_with_len 0 view.layout.count) (points ++ ids)
    (directory-none view tree command at quiet)
    ∙ counts-none view (point_change view tree command at) (option_to_list (point_index view)) ids (point-none view tree command at quiet)
    ∙ ap (counts view) (sym (append-nil ids))
    ∙ counts-none view (object_id_change tree command at) (option_to_list (object_id_index view)) []
    (object_id-none view tree command at quiet)

touched-none : (file : ℕ) (files : List ℕ) → filter (is_touched false file []) files ≡ []
touched-none file [] = refl
touched-none file (f ∷ files) = touched-none file files

pub empty-setattr : (view : VolumeView) (tree : Tree) (path : List (List ℕ)) (flags : ℕ) (at : Located) → at.new ≡ NoName
    → bill_of view tree (c.Setattr path flags) at ≡ empty_bill
unfolding bill_of clusters_of touches_file
empty-setattr view tree path flags at new =
    ap (bill_with (cluster_bytes view.layout) view tree (c.Setattr path flags) at)
    (counted-none view tree (c.Setattr path flags) at
    (record { new = new; links = refl; stays = refl; added = refl; dropped = refl }))
    ∙ ap (λ files. record empty_bill { touched = map (touched_file view (c.Setattr path flags) at) files ++ [] })
    (touched-none at.file (range_with_len 0 view.layout.count))

pub empty-rmstream : (view : VolumeView) (tree : Tree) (path : List (List ℕ)) (name : List ℕ) (at : Located) → at.new ≡ NoName
    → bill_of view tree (c.Rmstream path name) at ≡ empty_bill
unfolding bill_of clusters_of touches_file
empty-rmstream view tree path name at new =
    ap (bill_with (cluster_bytes view.layout) view tree (c.Rmstream path name) at)
    (counted-none view tree (c.Rmstream path name) at
    (record { new = new; links = refl; stays = refl; added = refl; dropped = refl }))
    ∙ ap (λ files. record empty_bill { touched = map (touched_file view (c.Rmstream path name) at) files ++ [] })
    (touched-none at.file (range_with_len 0 view.layout.count))

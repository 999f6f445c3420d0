-- A STREAM THAT GOES, OR HAS ANOTHER LENGTH, is what the call does by its way, with the stream that was found.
use Rattle.std.proofs.Common.{◌≡◌, ◌≤◌, ◌<◌, ◌&&◌, ◌||◌, not, ℕ, Bool, false, true, List, None, refl, sym, ap, subst, ◌∙◌, arith}
use Rattle.std.specs.Prelude.{nat_le}
use Rattle.std.proofs.lemmas.Bool.{and_from, and_parts, eqb-true, leb-true}
use Rattle.ntfs_def.specs.Attribute.{ExtentHeader}
use Rattle.ntfs_def.specs.Rounded.{clusters_for}
use Rattle.ntfs_def.specs.declared.run_text.Run.{Run}
use Rattle.volume_def.specs.Files.{Part, all_covered}
use Rattle.volume_def.specs.Table.{cluster_bytes}
use Rattle.volume_def.specs.View.{VolumeView}
use Rattle.tree_model.specs.Reading.{read}
use Rattle.tree_model.specs.Facts.{is_whole_table}
use Rattle.tree_model.specs.Staging.{cannot_edit}
use Rattle.tree_model.specs.StreamRoom.{new_clusters, stream_parts}
use Rattle.tree_model.specs.Subjects.{content_named}
use Rattle.tree_model.specs.Tree.{node_of}
use Rattle.tree_model.specs.Ways.{ends_in_last, gets_no_longer, has_free_run, has_placed_bits, moves_into_clusters}
use Rattle.value_edits.specs.ValueEdits.{PutsStream, ResizesStream, no_gain}
use Rattle.tree_edit.specs.Below.{number_of}
use Rattle.tree_edit.specs.Alone.{IsDroppable, IsResizable, IsToDrop, IsToResize, can_end, can_get, can_give, can_go}
use Rattle.tree_edit.specs.Alone.{can_move_to, parts_there}
use Rattle.tree_edit.specs.Change.{CanChange, has_room_for}
use Rattle.tree_edit.specs.Writable.{named_in}
use Rattle.tree_edit.specs.declared.writable.Way.{Way}
use Rattle.tree_edit.specs.declared.writable.Way.TheVariants as way
use Rattle.tree_edit.specs.declared.writable.Writable.{Writable}
use Rattle.tree_edit.proofs.MovableLaws.{by-length}
use Rattle.tree_edit.proofs.PunchLaws.{punchable-can}
use Rattle.tree_edit.proofs.StreamToWrite.{content-is}
use Rattle.stream_changes.specs.Moving.{CanLengthen}
use Rattle.stream_changes.specs.Streams.{CanGive, EndsInLast}
use Rattle.stream_changes.proofs.MoveFound.{can-lengthen, can-lengthen-held, can-lengthen-name}
use Rattle.stream_changes.proofs.ResizableRoom.{resizable-room}
use Rattle.stream_changes.proofs.ValueChanged.{droppable-can, resizable-can}
use Rattle.stream_changes.proofs.WaysFound.{covered, extent-can, found-size, give-same}

-- IT GOES
module _ (v new : VolumeView) (found : Writable) (number : ℕ) (is : number ≡ number_of found.held) where
  abbrev f : ℕ
  f = number_of found.held

  go-by : (name : List ℕ) → IsToDrop v found name → (by : Way) → found.way ≡ by → can_go v name by f ≡ true
  go-by name can by so = subst (λ (w : Way). can_go v name w f ≡ true) so can.over

  pub goes-not_over : found.way ≡ way.InPlace → (name : List ℕ) → IsToDrop v found name → ⊥
  goes-not_over so name can = let never = go-by name can way.InPlace so in cc

  pub goes-not_moved : found.way ≡ way.IntoClusters → (name : List ℕ) → IsToDrop v found name → ⊥
  goes-not_moved so name can = let never = go-by name can way.IntoClusters so in cc

  goes-value : found.way ≡ way.InRecord → (name : List ℕ) → IsToDrop v found name → IsDroppable v found name
  goes-value so name can = record {
    settable = can.settable;
    held = can.held;
    stream = can.stream;
    there = can.there;
    flags = can.flags;
    over = go-by name can way.InRecord so;
    tellable = can.tellable;
  }

  pub go-value-can : found.way ≡ way.InRecord → (name : List ℕ) → IsToDrop v found name → CanChange v found.stream number
  go-value-can so name can = subst (λ k. CanChange v found.stream k) (sym is) (droppable-can v found name (goes-value so name can))

  module _ (so : found.way ≡ way.InClusters) (name : List ℕ) (can : IsToDrop v found name) where
    both : (can_give v name f ≡ true) × (has_placed_bits v ≡ true)
    both = and_parts (can_give v name f) (has_placed_bits v) (go-by name can way.InClusters so)

    go-extent : CanGive v found.stream f
    go-extent = extent-can v found name (λ file. can_go v name found.way file) can both.0 both.1

    pub go-extent-can : CanGive v found.stream number
    go-extent-can = subst (λ k. CanGive v found.stream k) (sym is) go-extent

  module _ (times : List ℕ) where
    pub go-value-puts : found.way ≡ way.InRecord → (name : List ℕ) (can : IsToDrop v found name)
        → ((c : CanChange v found.stream number) → PutsStream v new number c.value.name None no_gain 0 times found.flags)
        → PutsStream v new (number_of found.held) can.stream.is.part.name None no_gain 0 times found.flags
    unfolding punchable-can droppable-can goes-value
    go-value-puts so name can does =
        subst (λ k. (c : CanChange v found.stream k) → PutsStream v new k c.value.name None no_gain 0 times found.flags) is does
        (droppable-can v found name (goes-value so name can))

    pub go-extent-puts : found.way ≡ way.InClusters → (name : List ℕ) (can : IsToDrop v found name)
        → ((c : CanGive v found.stream number) → PutsStream v new number c.named.name None no_gain 0 times found.flags)
        → PutsStream v new (number_of found.held) can.stream.is.part.name None no_gain 0 times found.flags
    unfolding extent-can go-extent
    go-extent-puts so name can does =
        subst (λ k. (c : CanGive v found.stream k) → PutsStream v new k c.named.name None no_gain 0 times found.flags) is does
        (go-extent so name can)

-- IT HAS ANOTHER LENGTH
module _ (v new : VolumeView) (found : Writable) (number : ℕ) (is : number ≡ number_of found.held) (size : ℕ) where
  abbrev file : ℕ
  file = number_of found.held

  get-by : (name : List ℕ) → IsToResize v found name size → (by : Way) → found.way ≡ by → can_get v name size by file ≡ true
  get-by name can by so = subst (λ (w : Way). can_get v name size w file ≡ true) so can.over

  pub gets-not_over : found.way ≡ way.InPlace → (name : List ℕ) → IsToResize v found name size → ⊥
  gets-not_over so name can = let never = get-by name can way.InPlace so in cc

  gets-value : found.way ≡ way.InRecord → (name : List ℕ) → IsToResize v found name size → IsResizable v found name size
  gets-value so name can = record {
    settable = can.settable;
    held = can.held;
    stream = can.stream;
    there = can.there;
    flags = can.flags;
    over = get-by name can way.InRecord so;
    tellable = can.tellable;
  }

  pub get-value-can : found.way ≡ way.InRecord → (name : List ℕ) → IsToResize v found name size → CanChange v found.stream number
  get-value-can so name can = subst (λ k. CanChange v found.stream k) (sym is) (resizable-can v found name size (gets-value so name can))

  pub get-value-room : found.way ≡ way.InRecord → (name : List ℕ) → IsToResize v found name size
      → has_room_for v number found.stream.size size ≡ true
  get-value-room so name can =
      subst (λ k. has_room_for v k found.stream.size size ≡ true) (sym is) (resizable-room v found name size (gets-value so name can))

  module _ (so : found.way ≡ way.InClusters) (name : List ℕ) (can : IsToResize v found name size) where
    abbrev there : List Part
    there = stream_parts v (read v) (named_in (read v) name file)

    end-both : (can_end v name size file ≡ true) × (has_placed_bits v ≡ true)
    end-both = and_parts (can_end v name size file) (has_placed_bits v) (get-by name can way.InClusters so)

    give-both : (can_give v name file ≡ true)
        × ((gets_no_longer size (content_named (read v) name (node_of (read v) file)) || ends_in_last (cluster_bytes v.layout) there size)
        ≡ true)
    give-both = and_parts (can_give v name file) _ end-both.0

    get-extent : CanGive v found.stream file
    get-extent = extent-can v found name (λ k. can_get v name size found.way k) can give-both.0 end-both.1

    pub get-extent-can : CanGive v found.stream number
    get-extent-can = subst (λ k. CanGive v found.stream k) (sym is) get-extent

    -- it has as many bytes as was found
    long : found.stream.size ≡ get-extent.extent.sizes.real
    unfolding extent-can get-extent
    long = found-size v found name (λ k. can_get v name size found.way k) can give-both.0 end-both.1

    shorter : size ≤ found.stream.size → size ≤ get-extent.extent.sizes.real
    shorter less = subst (λ n. size ≤ n) long less

    -- where it gets longer it ends in its last cluster
    in-last : found.stream.size < size → ends_in_last (cluster_bytes v.layout) there size ≡ true
    in-last more = by (nat_le size found.stream.size) refl (
        sym (ap (λ b. b || ends_in_last (cluster_bytes v.layout) there size)
        (ap (gets_no_longer size) (content-is v found.held can.held name found.stream can.stream.is)
        ∙ ap (nat_le size) (sym can.stream.is.size))) ∙ give-both.1)
      where
        by : (b : Bool) → nat_le size found.stream.size ≡ b → (b || ends_in_last (cluster_bytes v.layout) there size) ≡ true
            → ends_in_last (cluster_bytes v.layout) there size ≡ true
        by true e either = let less = leb-true size found.stream.size e in absurd (omega (arith, more, less))
        by false e either = either

    ends : found.stream.size < size → EndsInLast v size get-extent.extent get-extent.runs
    unfolding extent-can get-extent
    ends more = record {
      more = subst (λ n. n ≤ size) long (omega (arith, more));
      last = eqb-true (clusters_for size (cluster_bytes v.layout)) (all_covered there) (in-last more)
          ∙ covered v found name (λ k. can_get v name size found.way k) can give-both.0 end-both.1;
    }

    -- whichever way it is told that it can give them back
    pub get-extent-ends : found.stream.size < size → (c : CanGive v found.stream number) → EndsInLast v size c.extent c.runs
    get-extent-ends more = subst (λ k. (c : CanGive v found.stream k) → EndsInLast v size c.extent c.runs) (sym is) (λ c.
        let same = give-same v found.stream file get-extent c in
        subst (λ (e : ExtentHeader). EndsInLast v size e c.runs) same.0
        (subst (λ (rs : List Run). EndsInLast v size get-extent.extent rs) same.1 (ends more)))

    pub get-extent-short : {P : Type 0} → size ≤ found.stream.size
        → ((c : CanGive v found.stream number) → size ≤ c.extent.sizes.real → P) → P
    get-extent-short {P} less does =
        subst (λ k. (c : CanGive v found.stream k) → size ≤ c.extent.sizes.real → P) is does get-extent (shorter less)

    pub get-extent-long : {P : Type 0} → found.stream.size < size
        → ((c : CanGive v found.stream number) → EndsInLast v size c.extent c.runs → P) → P
    get-extent-long {P} more does =
        subst (λ k. (c : CanGive v found.stream k) → EndsInLast v size c.extent c.runs → P) is does get-extent (ends more)

  -- .. or it is a value that moves
  module _ (so : found.way ≡ way.IntoClusters) (name : List ℕ) (can : IsToResize v found name size) where
    abbrev count : ℕ
    count = new_clusters (cluster_bytes v.layout) (parts_there v name file) 0 0

    moves-both : (can_move_to v name size file ≡ true) × ((has_placed_bits v && has_free_run v count) ≡ true)
    moves-both = and_parts (can_move_to v name size file) _ (get-by name can way.IntoClusters so)

    bits-both : (has_placed_bits v ≡ true) × (has_free_run v count ≡ true)
    bits-both = and_parts (has_placed_bits v) (has_free_run v count) moves-both.1

    moves-so : moves_into_clusters v (read v) (named_in (read v) name file) size count ≡ true
    moves-so =
        (and_parts (not (cannot_edit (is_whole_table v) (read v) file))
        (moves_into_clusters v (read v) (named_in (read v) name file) size count)
        (sym (by-length v name file size) ∙ and_from (can_move_to v name size file) (has_placed_bits v) moves-both.0 bits-both.0)).1

    get-moving : CanLengthen v found.stream file size
    get-moving = can-lengthen v found name (λ k. can_get v name size found.way k) can size moves-so bits-both.1

    get-moving-name : get-moving.leave.named.name ≡ can.stream.is.part.name
    unfolding get-moving
    get-moving-name = can-lengthen-name v found name (λ k. can_get v name size found.way k) can size moves-so bits-both.1

    get-moving-held : get-moving.leave.named.held ≡ can.stream.bytes
    unfolding get-moving
    get-moving-held = can-lengthen-held v found name (λ k. can_get v name size found.way k) can size moves-so bits-both.1

    pub get-moving-can : CanLengthen v found.stream number size
    get-moving-can = subst (λ k. CanLengthen v found.stream k size) (sym is) get-moving

  module _ (times : List ℕ) where
    pub get-moving-puts : found.way ≡ way.IntoClusters → (name : List ℕ) (can : IsToResize v found name size)
        → ((c : CanLengthen v found.stream number size)
        → ResizesStream v new number c.leave.named.name size c.leave.named.held times found.flags)
        → ResizesStream v new (number_of found.held) can.stream.is.part.name size can.stream.bytes times found.flags
    get-moving-puts so name can does =
        let m = get-moving so name can in
        subst (λ (held : List ℕ). ResizesStream v new (number_of found.held) can.stream.is.part.name size held times found.flags)
        (get-moving-held so name can)
        (subst (λ (own : List ℕ). ResizesStream v new (number_of found.held) own size m.leave.named.held times found.flags)
        (get-moving-name so name can)
        (subst (λ k. (c : CanLengthen v found.stream k size)
        → ResizesStream v new k c.leave.named.name size c.leave.named.held times found.flags) is does m))

    pub get-value-puts : found.way ≡ way.InRecord → (name : List ℕ) (can : IsToResize v found name size)
        → ((c : CanChange v found.stream number) → has_room_for v number found.stream.size size ≡ true
        → ResizesStream v new number c.value.name size c.value.held times found.flags)
        → ResizesStream v new (number_of found.held) can.stream.is.part.name size can.stream.bytes times found.flags
    unfolding punchable-can droppable-can resizable-can gets-value
    get-value-puts so name can does =
        subst (λ k. (c : CanChange v found.stream k) → has_room_for v k found.stream.size size ≡ true
        → ResizesStream v new k c.value.name size c.value.held times found.flags) is does
        (resizable-can v found name size (gets-value so name can)) (resizable-room v found name size (gets-value so name can))

    pub get-extent-puts : found.way ≡ way.InClusters → (name : List ℕ) (can : IsToResize v found name size) → size ≤ found.stream.size
        → ((c : CanGive v found.stream number) → size ≤ c.extent.sizes.real
        → ResizesStream v new number c.named.name size c.named.held times found.flags)
        → ResizesStream v new (number_of found.held) can.stream.is.part.name size can.stream.bytes times found.flags
    unfolding extent-can get-extent
    get-extent-puts so name can less does =
        subst (λ k. (c : CanGive v found.stream k) → size ≤ c.extent.sizes.real
        → ResizesStream v new k c.named.name size c.named.held times found.flags) is does
        (get-extent so name can) (shorter so name can less)

    pub get-longer-puts : found.way ≡ way.InClusters → (name : List ℕ) (can : IsToResize v found name size) → found.stream.size < size
        → ((c : CanGive v found.stream number) → EndsInLast v size c.extent c.runs
        → ResizesStream v new number c.named.name size c.named.held times found.flags)
        → ResizesStream v new (number_of found.held) can.stream.is.part.name size can.stream.bytes times found.flags
    unfolding extent-can get-extent
    get-longer-puts so name can more does =
        subst (λ k. (c : CanGive v found.stream k) → EndsInLast v size c.extent c.runs
        → ResizesStream v new k c.named.name size c.named.held times found.flags) is does
        (get-extent so name can) (ends so name can more)

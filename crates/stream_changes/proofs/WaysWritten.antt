-- BYTES THAT ARE WRITTEN into a stream are what the call does by its way, with the stream that was found.
use Rattle.std.proofs.Common.{◌≡◌, ◌+◌, ◌≤◌, ◌<◌, ◌==◌, ◌&&◌, ◌||◌, not, ℕ, List, [], ◌∷◌, Option, Some, length, false, true, inl, inr}
use Rattle.std.proofs.Common.{sym, ap, subst, ◌∙◌, arith}
use Rattle.std.proofs.lemmas.Bool.{and_from, and_parts, cases_eq, eq-eqb, le-leb, leb-true}
use Rattle.std.specs.Prelude.{IsTrue, is_some, max, nat_le, option_and_then}
use Rattle.std.specs.List.{range_with_len}
use Rattle.std.specs.Option.{option_map_or}
use Rattle.list_laws.proofs.FindLaws.{count-none, find-yes}
use Rattle.ntfs_def.specs.Rounded.{clusters_for}
use Rattle.volume_def.specs.CaseClause.{case_parts}
use Rattle.volume_def.specs.Files.{Content, Part, content_extent, content_value}
use Rattle.volume_def.specs.StreamSize.{real_size, told_size}
use Rattle.volume_def.specs.Table.{cluster_bytes}
use Rattle.volume_def.specs.Values.{first_part, first_vcn_of, is_first, spot_at, value_on}
use Rattle.volume_def.specs.View.{VolumeView}
use Rattle.tree_model.specs.Reading.{read}
use Rattle.tree_model.specs.Facts.{is_whole_table}
use Rattle.tree_model.specs.Staging.{cannot_edit}
use Rattle.tree_model.specs.StreamRoom.{goes_over, initialized_in, initialized_size, is_cluster, is_in_place, new_clusters, stream_parts}
use Rattle.tree_model.specs.StreamRoom.{stream_value_len, touches}
use Rattle.tree_model.specs.Ways.{goes_behind, has_free_run, has_placed_bits, moves_by_write}
use Rattle.sparse_io.specs.declared.find.FoundStream.{FoundStream}
use Rattle.value_edits.specs.Below.{WritesOver}
use Rattle.value_edits.specs.ValueEdits.{PutsBytes}
use Rattle.tree_edit.specs.Below.{number_of}
use Rattle.tree_edit.specs.Alone.{IsResizable, can_give, can_resize, parts_there}
use Rattle.tree_edit.specs.Change.{CanChange, has_room_for}
use Rattle.tree_edit.specs.Over.{CanWriteOver}
use Rattle.tree_edit.specs.Writable.{IsFoundToEdit, can_write_over, named_in}
use Rattle.tree_edit.specs.Movable.{can_move_there}
use Rattle.tree_edit.specs.Write.{IsWritable, can_go_behind, can_write, can_write_behind, can_write_moving}
use Rattle.tree_edit.specs.declared.writable.Way.{Way}
use Rattle.tree_edit.specs.declared.writable.Way.TheVariants as way
use Rattle.tree_edit.specs.declared.writable.Writable.{Writable}
use Rattle.tree_edit.proofs.OverLaws.{found-over}
use Rattle.tree_edit.proofs.PunchLaws.{punchable-can}
use Rattle.tree_edit.proofs.MovableLaws.{by-bytes}
use Rattle.stream_changes.specs.Moving.{CanMove}
use Rattle.stream_changes.specs.Streams.{CanGive, CanReach, WritesSo}
use Rattle.stream_changes.proofs.ExtentCovers.{extent-fits}
use Rattle.stream_changes.proofs.MoveFound.{can-move, can-move-held, can-move-name}
use Rattle.stream_changes.proofs.ResizableRoom.{resizable-room}
use Rattle.stream_changes.proofs.ValueChanged.{droppable-can, resizable-can}
use Rattle.stream_changes.proofs.WaysFound.{extent-can, there-are}

-- WHERE NO BYTE IS WRITTEN behind those of a stream in clusters, none goes there: it goes over bytes.
module _ (v : VolumeView) (found : FoundStream) (f at : ℕ) (can : CanGive v found f)
    (goes : can_go_behind v f (can.part ∷ []) at 0 ≡ true) where
  abbrev one : List Part
  one = can.part ∷ []

  abbrev size : ℕ
  size = cluster_bytes v.layout

  first : first_part one ≡ Some can.part
  first = find-yes is_first can.part (eq-eqb (first_vcn_of can.part.content) 0 (ap first_vcn_of can.is ∙ can.first))

  initialized : initialized_size one ≡ can.extent.sizes.initialized
  initialized =
      ap (λ (o : Option Part). option_map_or initialized_in o 0) first
      ∙ ap (λ (c : Content). option_map_or (λ extent. extent.sizes.initialized) (content_extent c) (real_size c)) can.is

  told : told_size (first_part one) ≡ can.extent.sizes.real
  told = ap told_size first ∙ ap real_size can.is

  no-value : stream_value_len one ≡ 0
  no-value =
      ap (λ (o : Option Part). option_map_or length (option_and_then (λ part. content_value part.content) o) 0) first
      ∙ ap (λ (c : Content). option_map_or length (content_value c) 0) can.is

  none-new : new_clusters size one at 0 ≡ 0
  none-new =
      count-none (λ vcn. (touches size at 0 vcn || touches size 0 (stream_value_len one) vcn) && not (is_cluster (spot_at one vcn)))
      (range_with_len 0 (clusters_for (max (at + 0) (stream_value_len one)) size))
      (λ vcn among. ap (λ len. (touches size at 0 vcn || touches size 0 len vcn) && not (is_cluster (spot_at one vcn))) no-value)

  begins : nat_le at (initialized_size one) ≡ true
  begins = (and_parts (nat_le at (initialized_size one)) _ (and_parts (goes_behind size one at 0) _ goes).0).0

  within : at ≤ can.extent.sizes.initialized
  within = subst (λ n. at ≤ n) initialized (leb-true at (initialized_size one) begins)

  nothing-over : goes_over size one at 0 ≡ true
  nothing-over =
      let fits = (extent-fits v found f can).initialized in
      and_from (is_some (first_part one)) _ (ap (λ (o : Option Part). is_some o) first)
      (and_from (is_in_place size one at 0) (nat_le (at + 0) (initialized_size one))
      (and_from ((new_clusters size one at 0 == 0) && nat_le at (initialized_size one)) (nat_le (at + 0) (told_size (first_part one)))
      (and_from (new_clusters size one at 0 == 0) (nat_le at (initialized_size one))
      (eq-eqb (new_clusters size one at 0) 0 none-new) begins)
      (le-leb (at + 0) (told_size (first_part one)) (omega (arith, within, fits, told))))
      (le-leb (at + 0) (initialized_size one) (omega (arith, within, initialized))))

-- A STREAM THAT IS FOUND FOR A WRITE, by the way that it is written
module _ (v : VolumeView) (found : Writable) (name : List ℕ) (at len : ℕ) (w : IsWritable v found name at len) where
  abbrev f : ℕ
  f = number_of found.held

  write-by : (by : Way) → found.way ≡ by → can_write v name at len by f ≡ true
  write-by by so = subst (λ (x : Way). can_write v name at len x f ≡ true) so w.over

  over-found : found.way ≡ way.InPlace → IsFoundToEdit v found name (λ file. can_write_over v name at len file)
  over-found so = record {
    settable = w.settable;
    held = w.held;
    stream = w.stream;
    there = w.there;
    flags = w.flags;
    over = write-by way.InPlace so;
    tellable = w.tellable;
  }

  value-found : found.way ≡ way.InRecord → IsResizable v found name (at + len)
  value-found so = record {
    settable = w.settable;
    held = w.held;
    stream = w.stream;
    there = w.there;
    flags = w.flags;
    over = (and_parts (not (can_write_over v name at len f)) (can_resize v name (at + len) f) (write-by way.InRecord so)).1;
    tellable = w.tellable;
  }

  module _ (so : found.way ≡ way.InClusters) where
    abbrev there : List Part
    there = stream_parts v (read v) (named_in (read v) name f)

    give : (can_give v name f ≡ true) × ((has_placed_bits v && can_go_behind v f there at len) ≡ true)
    give = and_parts (can_give v name f) _
        (and_parts (not (can_write_over v name at len f)) (can_write_behind v name at len f) (write-by way.InClusters so)).1

    goes : (has_placed_bits v ≡ true) × (can_go_behind v f there at len ≡ true)
    goes = and_parts (has_placed_bits v) (can_go_behind v f there at len) give.1

    reach : CanReach v found.stream f at len
    unfolding extent-can
    reach = record {
      give = extent-can v found name (λ file. can_write v name at len found.way file) w give.0 goes.0;
      goes = subst (λ (ps : List Part). can_go_behind v f ps at len ≡ true)
          (there-are v found name (λ file. can_write v name at len found.way file) w give.0 goes.0) goes.1;
    }

    -- there is some byte
    same-parts : there ≡ reach.give.part ∷ []
    unfolding extent-can reach
    same-parts = there-are v found name (λ file. can_write v name at len found.way file) w give.0 goes.0 ∙ reach.give.alone

    none-over : len ≡ 0 → can_write_over v name at len f ≡ true
    none-over none =
        let behind : can_go_behind v f (reach.give.part ∷ []) at 0 ≡ true =
        subst (λ n. can_go_behind v f (reach.give.part ∷ []) at n ≡ true) none
        (subst (λ (ps : List Part). can_go_behind v f ps at len ≡ true) same-parts goes.1) in
        and_from (not (cannot_edit (is_whole_table v) (read v) f)) (goes_over (cluster_bytes v.layout) there at len)
        (and_parts (not (cannot_edit (is_whole_table v) (read v) f)) _ give.0).0
        (subst (λ n. goes_over (cluster_bytes v.layout) there at n ≡ true) (sym none)
        (subst (λ (ps : List Part). goes_over (cluster_bytes v.layout) ps at 0 ≡ true) (sym same-parts)
        (nothing-over v found.stream f at reach.give behind)))

    some : 0 < len
    some = elim (cases_eq len 0) [
      | inr more ↦ omega (arith, more)
      | inl none ↦
          let not_over = (and_parts (not (can_write_over v name at len f)) (can_write_behind v name at len f)
          (write-by way.InClusters so)).0 in
          let never : false ≡ true = sym (ap not (none-over none)) ∙ not_over in
          absurd (cc)
    ]

  -- .. or a value that moves
  module _ (so : found.way ≡ way.IntoClusters) where
    moving-so : can_write_moving v name at len f ≡ true
    moving-so =
        (and_parts (not (can_write_over v name at len f)) (can_write_moving v name at len f) (write-by way.IntoClusters so)).1

    moving-both : (can_move_there v name at len f ≡ true) × ((has_placed_bits v
        && has_free_run v (new_clusters (cluster_bytes v.layout) (parts_there v name f) at len)) ≡ true)
    moving-both = and_parts (can_move_there v name at len f) _ moving-so

    moving-bits : (has_placed_bits v ≡ true) × (has_free_run v (new_clusters (cluster_bytes v.layout) (parts_there v name f) at len) ≡ true)
    moving-bits =
        and_parts (has_placed_bits v) (has_free_run v (new_clusters (cluster_bytes v.layout) (parts_there v name f) at len)) moving-both.1

    by-words : moves_by_write v (read v) (named_in (read v) name f) at len ≡ true
    by-words =
        (and_parts (not (cannot_edit (is_whole_table v) (read v) f)) (moves_by_write v (read v) (named_in (read v) name f) at len)
        (sym (by-bytes v name f at len) ∙ and_from (can_move_there v name at len f) (has_placed_bits v) moving-both.0 moving-bits.0)).1

    moving : CanMove v found.stream f at len
    moving = can-move v found name (λ file. can_write v name at len found.way file) w at len by-words moving-bits.1

    moving-name : moving.leave.named.name ≡ w.stream.is.part.name
    unfolding moving
    moving-name = can-move-name v found name (λ file. can_write v name at len found.way file) w at len by-words moving-bits.1

    moving-held : moving.leave.named.held ≡ w.stream.bytes
    unfolding moving
    moving-held = can-move-held v found name (λ file. can_write v name at len found.way file) w at len by-words moving-bits.1

module _ (v new : VolumeView) (found : Writable) (number : ℕ) (is : number ≡ number_of found.held) (at : ℕ) (bytes : List ℕ) where
  abbrev pub CanWrite : Type 0
  CanWrite = IsTrue v.told → (name : List ℕ) × IsWritable v found name at (length bytes)

  pub over-can : (case : List ℕ) → case ≡ value_on v (case_parts v) → found.way ≡ way.InPlace → (name : List ℕ)
      → IsWritable v found name at (length bytes) → CanWriteOver v case found.held.parts found.stream number at (length bytes)
  over-can case of_volume so name w =
      subst (λ k. CanWriteOver v case found.held.parts found.stream k at (length bytes)) (sym is)
      (found-over v found name case at (length bytes) (over-found v found name at (length bytes) w so) of_volume)

  pub value-can : found.way ≡ way.InRecord → CanWrite → IsTrue v.told → CanChange v found.stream number
  value-can so can told =
      let w = can told in
      subst (λ k. CanChange v found.stream k) (sym is)
      (resizable-can v found w.0 (at + length bytes) (value-found v found w.0 at (length bytes) w.1 so))

  -- there is room for what goes into a value
  pub value-room : found.way ≡ way.InRecord → CanWrite → IsTrue v.told
      → has_room_for v number found.stream.size (at + length bytes) ≡ true
  value-room so can told =
      let w = can told in
      subst (λ k. has_room_for v k found.stream.size (at + length bytes) ≡ true) (sym is)
      (resizable-room v found w.0 (at + length bytes) (value-found v found w.0 at (length bytes) w.1 so))

  pub reach-can : found.way ≡ way.InClusters → CanWrite → IsTrue v.told → CanReach v found.stream number at (length bytes)
  reach-can so can told =
      let w = can told in
      subst (λ k. CanReach v found.stream k at (length bytes)) (sym is) (reach v found w.0 at (length bytes) w.1 so)

  pub moving-can : found.way ≡ way.IntoClusters → CanWrite → IsTrue v.told → CanMove v found.stream number at (length bytes)
  moving-can so can told =
      let w = can told in
      subst (λ k. CanMove v found.stream k at (length bytes)) (sym is) (moving v found w.0 at (length bytes) w.1 so)

  -- .. some byte
  pub write-some : found.way ≡ way.InClusters → CanWrite → IsTrue v.told → 0 < length bytes
  write-some so can told = let w = can told in some v found w.0 at (length bytes) w.1 so

  module _ (times : List ℕ) where
    abbrev pub WasWritten : Type 0
    WasWritten = IsTrue v.told → (name : List ℕ) → (can : IsWritable v found name at (length bytes))
        → WritesSo found.way at bytes v new (number_of found.held) can.stream.is.part.name can.stream.bytes times found.flags

    pub over-writes : (case : List ℕ) → (IsTrue v.told → case ≡ value_on v (case_parts v)) → found.way ≡ way.InPlace
        → (IsTrue v.told → (can : CanWriteOver v case found.held.parts found.stream number at (length bytes))
        → WritesOver v new number can.is.part.name at bytes times found.flags) → WasWritten
    unfolding over-found
    over-writes case of_volume so does told name can =
        subst (λ w. WritesSo w at bytes v new (number_of found.held) can.stream.is.part.name can.stream.bytes times found.flags) (sym so)
        (subst (λ k. (can : CanWriteOver v case found.held.parts found.stream k at (length bytes))
        → WritesOver v new k can.is.part.name at bytes times found.flags) is (does told)
        (found-over v found name case at (length bytes) (over-found v found name at (length bytes) can so) (of_volume told)))

    pub value-writes : found.way ≡ way.InRecord → (IsTrue v.told → (can : CanChange v found.stream number)
        → has_room_for v number found.stream.size (at + length bytes) ≡ true
        → PutsBytes v new number can.value.name at bytes can.value.held times found.flags) → WasWritten
    unfolding punchable-can droppable-can resizable-can value-found
    value-writes so does told name can =
        let value = value-found v found name at (length bytes) can so in
        subst (λ w. WritesSo w at bytes v new (number_of found.held) can.stream.is.part.name can.stream.bytes times found.flags) (sym so)
        (subst (λ k. (can : CanChange v found.stream k) → has_room_for v k found.stream.size (at + length bytes) ≡ true
        → PutsBytes v new k can.value.name at bytes can.value.held times found.flags) is (does told)
        (resizable-can v found name (at + length bytes) value) (resizable-room v found name (at + length bytes) value))

    pub behind-writes : found.way ≡ way.InClusters → (IsTrue v.told → (can : CanReach v found.stream number at (length bytes))
        → PutsBytes v new number can.give.named.name at bytes can.give.named.held times found.flags) → WasWritten
    unfolding extent-can reach
    behind-writes so does told name can =
        subst (λ w. WritesSo w at bytes v new (number_of found.held) can.stream.is.part.name can.stream.bytes times found.flags) (sym so)
        (subst (λ k. (can : CanReach v found.stream k at (length bytes))
        → PutsBytes v new k can.give.named.name at bytes can.give.named.held times found.flags) is (does told)
        (reach v found name at (length bytes) can so))

    pub moving-writes : found.way ≡ way.IntoClusters → (IsTrue v.told → (can : CanMove v found.stream number at (length bytes))
        → PutsBytes v new number can.leave.named.name at bytes can.leave.named.held times found.flags) → WasWritten
    moving-writes so does told name can =
        let m = moving v found name at (length bytes) can so in
        subst (λ w. WritesSo w at bytes v new (number_of found.held) can.stream.is.part.name can.stream.bytes times found.flags) (sym so)
        (subst (λ (held : List ℕ). PutsBytes v new (number_of found.held) can.stream.is.part.name at bytes held times found.flags)
        (moving-held v found name at (length bytes) can so)
        (subst (λ (own : List ℕ). PutsBytes v new (number_of found.held) own at bytes m.leave.named.held times found.flags)
        (moving-name v found name at (length bytes) can so)
        (subst (λ k. (can : CanMove v found.stream k at (length bytes))
        → PutsBytes v new k can.leave.named.name at bytes can.leave.named.held times found.flags) is (does told) m)))

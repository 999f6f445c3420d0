-- WHAT WAS FOUND OF A STREAM that moves into clusters, by the words for that, where as many clusters are free: it can be written into so,
-- or have another length.
use Rattle.std.proofs.Common.{◌≡◌, ◌==◌, ◌&&◌, ◌||◌, ◌+◌, ◌-◌, ◌<◌, ◌≤◌, not, ℕ, Bool, true, false, max, List, [], ◌∷◌, length, Option}
use Rattle.std.proofs.Common.{Some, refl, sym, ap, subst, ◌∙◌, arith}
use Rattle.std.specs.List.{Contains, list_any, range_with_len}
use Rattle.std.specs.Option.{option_map_or}
use Rattle.std.specs.Prelude.{IsTrue, is_some, nat_le, option_and_then, slice_get}
use Rattle.std.proofs.Math.Nat.{div-mul-le_self, le-div_iff_mul-le}
use Rattle.std.proofs.lemmas.Bool.{and_parts, eqb-true, leb-false, leb-true, not-true, or_parts}
use Rattle.std.proofs.lemmas.List.FromFn.{length-range_with_len}
use Rattle.std.proofs.lemmas.List.Sums.{count_by-le-length}
use Rattle.list_laws.proofs.FindLaws.{find-found, none-counted}
use Rattle.list_laws.proofs.MemberLaws.{Contains-from_filter}
use Rattle.list_laws.proofs.OptionLaws.{some-is}
use Rattle.ntfs_def.specs.Rounded.{clusters_for}
use Rattle.ntfs_def.specs.declared.kinds.TheConstants.{DATA}
use Rattle.volume_def.specs.CaseClause.{case_parts, volume_fold}
use Rattle.volume_def.specs.Files.{Clusters, Content, Part, Record, Value, content_value, is_base, is_of, parts, parts_at, records_of}
use Rattle.volume_def.specs.ListsClause.{is_list}
use Rattle.volume_def.specs.Readable.{IsFile}
use Rattle.volume_def.specs.Room.{free_bytes}
use Rattle.volume_def.specs.Table.{cluster_bytes}
use Rattle.volume_def.specs.Values.{first_part, is_first, spot_at, value_on}
use Rattle.volume_def.specs.View.{VolumeView}
use Rattle.volume_def.proofs.PartLaws.{record_at-block}
use Rattle.volume_def.proofs.SoundLaws.{readable-sound}
use Rattle.edit_def.specs.Kept.{key_of}
use Rattle.tree_model.specs.Reading.{read, streams_of}
use Rattle.tree_model.specs.StreamRoom.{is_cluster, new_clusters, parts_named, stream_parts, stream_value, stream_value_len, touches}
use Rattle.tree_model.specs.Tree.{sought_stream}
use Rattle.tree_model.specs.Ways.{can_leave, fits_as_extent, fits_in_record, gets_no_longer, has_free_run, has_no_flags, has_no_list}
use Rattle.tree_model.specs.Ways.{has_placed_bits, has_run_if_room, is_value_alone, moved_bytes}
use Rattle.tree_model.specs.Ways.{moves_by_write, moves_into_clusters, stays_value}
use Rattle.tree_model.specs.declared.tree.Stream.{Stream}
use Rattle.sparse_io.specs.Held.{IsHeldWith, IsStream}
use Rattle.sparse_io.proofs.OverwriteLaws.{found-first, found-parts}
use Rattle.stream_overwrites.proofs.Below.{value-alone}
use Rattle.stream_overwrites.proofs.FoundStream as shown
use Rattle.value_edits.proofs.Below.{file, may-edit, named-same, node-streams}
use Rattle.value_edits.proofs.ValueCalls.{plain-one}
use Rattle.value_edits.proofs.ValueShown.{alone-first, alone-shown}
use Rattle.tree_edit.specs.Below.{number_of}
use Rattle.tree_edit.proofs.Below.{held-with}
use Rattle.tree_edit.specs.Writable.{IsFoundToEdit, named_in}
use Rattle.tree_edit.specs.declared.writable.Writable.{Writable}
use Rattle.tree_edit.proofs.EditableLaws.{parts-are}
use Rattle.tree_edit.proofs.StreamToWrite.{content-is}
use Rattle.stream_changes.specs.Streams.{FindsNamed}
use Rattle.stream_changes.specs.Moving.{CanLeave, CanLengthen, CanMove}

-- a value, of what is one
content-is-value : (content : Content) (value : List ℕ) → content_value content ≡ Some value → content ≡ Value value
content-is-value (Value other) value e = let same : other ≡ value = cc in ap Value same
content-is-value (Clusters extent runs) value e = cc

-- more bytes need no fewer clusters
clusters-rise : (few many size : ℕ) → 0 < size → few ≤ many → clusters_for few size ≤ clusters_for many size
clusters-rise few many size some le =
    let low = div-mul-le_self (few + (size - 1)) size in
    (le-div_iff_mul-le some).1 (omega (arith, low, le))

-- A VALUE takes no more clusters than it fills.
few-new : (size : ℕ) (extents : List Part) → new_clusters size extents 0 0 ≤ clusters_for (stream_value_len extents) size
few-new size extents =
    let most : max (0 + 0) (stream_value_len extents) ≡ stream_value_len extents = omega arith in
    let all = ap (λ n. clusters_for n size) most in
    let count = count_by-le-length
    (λ vcn. (touches size 0 0 vcn || touches size 0 (stream_value_len extents) vcn) && not (is_cluster (spot_at extents vcn)))
    (range_with_len 0 (clusters_for (max (0 + 0) (stream_value_len extents)) size)) in
    let long = length-range_with_len 0 (clusters_for (max (0 + 0) (stream_value_len extents)) size) in
    omega (arith, count, long, all)

module _ (v : VolumeView) (found : Writable) (name : List ℕ) (can : ℕ → Bool) (is : IsFoundToEdit v found name can) where
  abbrev f : ℕ
  f = number_of found.held

  abbrev s : IsStream v found.held.parts name found.stream
  s = is.stream.is

  abbrev table : List ℕ
  table = value_on v (case_parts v)

  abbrev there : List Part
  there = stream_parts v (read v) (named_in (read v) name f)

  abbrev bytes : List ℕ
  bytes = is.stream.bytes

  h : IsHeldWith v table found.held.parts
  h = held-with v found.held is.held table refl

  is-file : IsFile v f
  is-file = file v f is.settable.can.node is.settable.can.can.there

  -- the parts that are asked of are those of the stream
  there-are : there ≡ parts_at v f DATA s.part.name
  there-are = parts-are v found.held is.held name found.stream s ∙ ap (parts_named v f) (ap (λ (stream : Stream). stream.name) s.is)
      ∙ named-same v f s.part.name is.held.readable h.is_file is.there is.tellable

  first : first_part (parts_at v f DATA s.part.name) ≡ Some s.part
  first = ap first_part (sym (found-parts v table name found.held.parts found.stream h s))
      ∙ found-first v table name found.held.parts found.stream h s

  first-there : first_part there ≡ Some s.part
  first-there = ap first_part there-are ∙ first

  among : Contains (parts (records_of v) f) s.part × (is_of DATA s.part.name s.part ≡ true)
  among = Contains-from_filter (is_of DATA s.part.name) (parts (records_of v) f) s.part
      (find-found is_first (parts_at v f DATA s.part.name) s.part first).0

  kind : s.part.kind ≡ DATA
  kind = eqb-true s.part.kind DATA (and_parts (s.part.kind == DATA) _ among.1).0

  -- WHAT IS SHOWN of it
  named : FindsNamed v f
  named = record {
    can = is.settable.can;
    asked = name;
    name = s.part.name;
    held = bytes;
    finds = record {
      stream = s.stream;
      sought = ap (λ ss. sought_stream (volume_fold v) ss name)
          (node-streams v f is.settable.can.node is.settable.can.can.there ∙ ap (streams_of v) (sym is.held.parts.parts)) ∙ s.sought;
      spelt = ap (λ (stream : Stream). stream.name) s.is;
      content = is.stream.holds;
      there = is.there;
      tellable = is.tellable;
    };
  }

  -- IT IS A VALUE, of a file without an attribute list.
  module _ (value : is_value_alone v (read v) (named_in (read v) name f) ≡ true) where
    value-both : (is_some (stream_value there) ≡ true) × (has_no_list v f ≡ true)
    value-both = and_parts (is_some (stream_value there)) (has_no_list v f) value

    its : (held : List ℕ) × (content_value s.part.content ≡ Some held)
    its = some-is (content_value s.part.content)
        (sym (ap (λ (o : Option Part). is_some (option_and_then (λ (part : Part). content_value part.content) o)) first-there)
        ∙ value-both.0)

    is-value : s.part.content ≡ Value its.0
    is-value = content-is-value s.part.content its.0 its.1

    alone : parts_at v f DATA s.part.name ≡ s.part ∷ []
    alone =
        ap (λ k. parts_at v f k s.part.name) (sym kind)
        ∙ value-alone v f s.part ((readable-sound v is.settable.can.can.sound).extents f) is-file among.0
        (ap (λ (o : Option (List ℕ)). is_some o) its.1)
        (λ e. absurd (omega (arith, e, kind)))

    -- .. which is shown
    held-is : its.0 ≡ bytes
    unfolding named
    held-is =
        let node = is.settable.can.node in
        let set = is.settable.can.can in
        let plain = plain-one v f node name s.part.name bytes set named.finds s.part alone (alone-first s.part its.0 is-value) kind in
        let shows = alone-shown v (key_of f DATA s.part.name) s.part its.0 alone is-value plain in
        sym shows.value
        ∙ shown.value v f node name s.part.name bytes (readable-sound v set.sound) is-file set.there named.finds

    had : stream_value_len there ≡ length bytes
    had =
        ap (λ (o : Option Part). option_map_or length (option_and_then (λ (part : Part). content_value part.content) o) 0) first-there
        ∙ ap (λ (o : Option (List ℕ)). option_map_or length o 0) its.1 ∙ ap length held-is

    -- IT CAN LEAVE.
    module _ (size count : ℕ) (leaves : can_leave v f there size count ≡ true) (free : has_free_run v count ≡ true)
        (placed : has_placed_bits v ≡ true) where
      counted : clusters_for size (cluster_bytes v.layout) ≡ count
      counted = eqb-true (clusters_for size (cluster_bytes v.layout)) count
          (and_parts (clusters_for size (cluster_bytes v.layout) == count) _ leaves).0

      rest : (has_no_flags there && (fits_as_extent v f there && has_run_if_room v count)) ≡ true
      rest = (and_parts (clusters_for size (cluster_bytes v.layout) == count) _ leaves).1

      no-flags : s.part.flags ≡ 0
      no-flags = eqb-true s.part.flags 0
          (sym (ap (λ (o : Option Part). option_map_or (λ (part : Part). part.flags == 0) o false) first-there)
          ∙ (and_parts (has_no_flags there) _ rest).0)

      room : 72 + length s.part.name ≤ length bytes + free_bytes v f
      room =
          let fits = leb-true (moved_bytes there) (stream_value_len there + free_bytes v f)
          (and_parts (fits_as_extent v f there) _ (and_parts (has_no_flags there) _ rest).1).0 in
          let named_so : moved_bytes there ≡ 72 + length s.part.name =
          ap (λ (o : Option Part). 72 + option_map_or (λ (part : Part). length part.name) o 0) first-there in
          omega (arith, fits, named_so, had)

      leave-can : CanLeave v found.stream f size
      unfolding named
      leave-can = record {
        named = named;
        one = record {
          base = subst (λ (r : Record). IsTrue (is_base r)) (sym (record_at-block v f is.held.base is.held.on)) is.held.is_base;
          may = may-edit v f is.settable.can.node is.settable.can.can.there;
          no_list = none-counted is_list (parts (records_of v) f) (not-true (list_any is_list (parts (records_of v) f)) value-both.1);
        };
        part = s.part;
        at = ap (λ (ps : List Part). slice_get ps found.stream.part) (sym is.held.parts.parts) ∙ s.at;
        alone = alone;
        is = is-value ∙ ap Value held-is;
        flags = no-flags;
        fits = room;
        free = ap (has_free_run v) counted ∙ free;
        placed = placed;
      }

  -- BY THE WORDS of what moves: it does not stay in its record.
  module _ (size count : ℕ) (moves : moves_into_clusters v (read v) (named_in (read v) name f) size count ≡ true)
      (free : has_free_run v count ≡ true) where
    value-is : is_value_alone v (read v) (named_in (read v) name f) ≡ true
    value-is = (and_parts (is_value_alone v (read v) (named_in (read v) name f)) _ moves).0

    behind : (not (stays_value v (read v) (named_in (read v) name f) size) && (can_leave v f there size count && has_placed_bits v)) ≡ true
    behind = (and_parts (is_value_alone v (read v) (named_in (read v) name f)) _ moves).1

    last : (can_leave v f there size count ≡ true) × (has_placed_bits v ≡ true)
    last = and_parts (can_leave v f there size count) (has_placed_bits v)
        (and_parts (not (stays_value v (read v) (named_in (read v) name f) size)) _ behind).1

    leave-so : CanLeave v found.stream f size
    leave-so = leave-can value-is size count last.0 free last.1

    longer : length bytes < size
    longer =
        let stays = not-true (stays_value v (read v) (named_in (read v) name f) size)
        (and_parts (not (stays_value v (read v) (named_in (read v) name f) size)) _ behind).0 in
        let either = sym (ap (λ b. b && (gets_no_longer size (named_in (read v) name f).content || fits_in_record v f there size)) value-is)
        ∙ stays in
        let short = (or_parts (gets_no_longer size (named_in (read v) name f).content) (fits_in_record v f there size) either).0 in
        leb-false size (length bytes)
        (sym (ap (gets_no_longer size) (content-is v found.held is.held name found.stream s ∙ ap Some is.stream.holds)) ∙ short)

  -- BYTES CAN BE WRITTEN INTO IT so ..
  pub can-move : (at len : ℕ) → moves_by_write v (read v) (named_in (read v) name f) at len ≡ true
      → has_free_run v (new_clusters (cluster_bytes v.layout) there at len) ≡ true → CanMove v found.stream f at len
  unfolding leave-so leave-can named
  can-move at len moves free =
      let both = and_parts (nat_le at (stream_value_len there)) _ moves in
      let count = new_clusters (cluster_bytes v.layout) there at len in
      let begins = leb-true at (stream_value_len there) both.0 in
      let long = had (value-is (at + len) count both.1 free) in
      record {
        leave = leave-so (at + len) count both.1 free;
        begins = omega (arith, begins, long);
        longer = longer (at + len) count both.1 free;
      }

  -- .. by the name that it has, and the bytes that it shows,
  module _ (at len : ℕ) (moves : moves_by_write v (read v) (named_in (read v) name f) at len ≡ true)
      (free : has_free_run v (new_clusters (cluster_bytes v.layout) there at len) ≡ true) where
    pub can-move-name : (can-move at len moves free).leave.named.name ≡ s.part.name
    unfolding can-move leave-so leave-can named
    can-move-name = refl

    pub can-move-held : (can-move at len moves free).leave.named.held ≡ bytes
    unfolding can-move leave-so leave-can named
    can-move-held = refl

  -- .. or it can have so many bytes.
  pub can-lengthen : (size : ℕ)
      → moves_into_clusters v (read v) (named_in (read v) name f) size (new_clusters (cluster_bytes v.layout) there 0 0) ≡ true
      → has_free_run v (new_clusters (cluster_bytes v.layout) there 0 0) ≡ true → CanLengthen v found.stream f size
  unfolding leave-so leave-can named
  can-lengthen size moves free =
      let cluster = cluster_bytes v.layout in
      let count = new_clusters cluster there 0 0 in
      let some = is.settable.can.can.apart.some in
      let more = longer size count moves free in
      let all = counted (value-is size count moves free) size count (last size count moves free).0 free (last size count moves free).1 in
      let few = few-new cluster there in
      let long = had (value-is size count moves free) in
      let same = ap (λ n. clusters_for n cluster) long in
      let rise = clusters-rise (length bytes) size cluster (omega (arith, some)) (omega (arith, more)) in
      record {
        leave = leave-so size count moves free;
        longer = more;
        last = omega (arith, all, few, same, rise);
      }

  module _ (size : ℕ)
      (moves : moves_into_clusters v (read v) (named_in (read v) name f) size (new_clusters (cluster_bytes v.layout) there 0 0) ≡ true)
      (free : has_free_run v (new_clusters (cluster_bytes v.layout) there 0 0) ≡ true) where
    pub can-lengthen-name : (can-lengthen size moves free).leave.named.name ≡ s.part.name
    unfolding can-lengthen leave-so leave-can named
    can-lengthen-name = refl

    pub can-lengthen-held : (can-lengthen size moves free).leave.named.held ≡ bytes
    unfolding can-lengthen leave-so leave-can named
    can-lengthen-held = refl

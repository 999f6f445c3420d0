-- A root that was made longer says what it said.
use Rattle.std.proofs.Common.{◌≡◌, ◌≢◌, ℕ, ◌+◌, ◌%◌, ◌==◌, ◌<◌, ◌≤◌, List, [], ◌∷◌, Some, None, Bool, length, slice_index, refl, sym}
use Rattle.std.proofs.Common.{ap, ◌∙◌, arith, suc}
use Rattle.std.specs.Prelude.{All, nat_eq, codes, if◌then◌else◌}
use Rattle.std.specs.List.{starts_with}
use Rattle.std.specs.Option.{option_and_then}
use Rattle.std.proofs.lemmas.Bool.{le-leb, leb-true}
use Rattle.vol_bytes.specs.Field.{u32_at}
use Rattle.vol_bytes.proofs.FieldLaws.{u32_at-same}
use Rattle.ntfs_def.specs.Node.{Node, Whole, are_short, entries_end, first_entry, first_offset, has_children, most_len, node_header}
use Rattle.ntfs_def.specs.Node.{node_header_failing, node_in, room_end, short_node, whole_of, entry_place}
use Rattle.ntfs_def.specs.declared.index.NodeForm.{NodeForm}
use Rattle.index_node.specs.Edit.{EditsShort, HasSpan, IsWidened, HasRoomFor}
use Rattle.index_node.specs.LayOut.{AreEntries, HoldsPieces, node_from, node_listed, total_len}
use Rattle.index_node.specs.Pieces.{pieces_from}
use Rattle.index_node.proofs.NodeLaws.{are_short-is, entry_place-next, place_whole, scan_node-is}
use Rattle.index_node.proofs.LayOutLaws.{few_entries, has_array, right_of as is_right, scan_listed, short_listed, six_right}
use Rattle.index_node.proofs.PieceLaws.{from_entries, from_holds, from_said, from_short, from_total, pieces_place}
use Rattle.index_node.proofs.SpliceLaws.{Holds-moved, begins, ends, said_facts, short_said, said_now}
use Rattle.index_node.proofs.RootLaws.{root_header, not_record}

-- A node by its pieces.
module _ (form : NodeForm) (new : List ℕ) (children : Bool) (end first : ℕ) (right : node_header_failing new ≡ None) (c : children ≡
    has_children new)
    (e : end ≡ entries_end new) (f : first ≡ first_entry new) (inside : end ≤ length new) where
  pub says_node : (pieces : List (List ℕ)) → AreEntries form children pieces → HoldsPieces new first pieces → first + total_len pieces ≤ end
      → node_in form new ≡ Some (node_listed children pieces)
  says_node [] are holds all = absurd are
  says_node (entry ∷ entries) are holds all =
      let few = few_entries form children entry entries are in
      ap whole_of (scan_node-is form new children end first (Whole (node_from children entry entries)) right c e f
      (scan_listed form new children end entry entries (length new) first (omega arith) are holds all))

  pub says_short : (pieces : List (List ℕ)) → AreEntries form children pieces → HoldsPieces new first pieces → first + total_len pieces
      ≤ end
      → All (λ piece. length piece ≤ most_len children) pieces → short_node form new ≡ Some (node_listed children pieces)
  says_short [] are holds all short = absurd are
  says_short (entry ∷ entries) are holds all short =
      let n = length (node_from children entry entries).entries in
      ap (option_and_then (λ (said : Node). if are_short new (length said.entries) then Some said else None)) (says_node (entry ∷
      entries) are holds all)
      ∙ ap (λ b. if b then Some (node_from children entry entries) else None)
      (sym (are_short-is new n n (most_len children) first refl (ap most_len c) f)
      ∙ short_listed form new children (most_len children) first entry entries are holds short)

module _ (form : NodeForm) (old new : List ℕ) (i at behind fin : ℕ) (h : HasSpan form old i at behind fin) (wide : IsWidened old new) where
  ne_old : length old ≢ 4096
  ne_old e = let l = wide.long in let s = wide.short in absurd (omega arith)

  ne_new : length new ≢ 4096
  ne_new e = let s = wide.short in absurd (omega arith)

  header_old : node_header old ≡ 0x10
  header_old = root_header old ne_old

  header_new : node_header new ≡ 0x10
  header_new = root_header new ne_new

  first_begins : 0x20 ≤ first_entry old
  first_begins = let b = begins old h.right in let o = header_old in omega arith

  ends_in : (entries_end old ≤ room_end old) × (room_end old ≤ length old)
  ends_in = ends old h.right

  places : (first_entry old ≤ entries_end old) × (at ≤ length old)
  places =
      let w = place_whole form old (has_children old) (entries_end old) (first_entry old) h.count h.each h.last 0 (omega arith) in
      let v = place_whole form old (has_children old) (entries_end old) (first_entry old) h.count h.each h.last i h.within in
      let e = ends_in.0 in let g = ends_in.1 in let a = h.is_at in
      (omega (arith, w.header), omega (arith, v.header))

  long_old : 0x20 ≤ length old
  long_old = let a = first_begins in let p = places.0 in let e = ends_in.0 in let g = ends_in.1 in omega arith

  same : (k : ℕ) → k < length old → (k < 0x18) × (0 ≤ k) → slice_index new k ≡ slice_index old k
  same k lt low = wide.low k low.0

  first_off_same : first_offset new ≡ first_offset old
  first_off_same =
      ap (u32_at new) header_new ∙ u32_at-same old new 0x10 (λ k from to. wide.low k (omega arith)) ∙ ap (u32_at old) (sym header_old)

  first_same : first_entry new ≡ first_entry old
  first_same = let a = header_new in let b = header_old in let o = first_off_same in omega arith

  end_same : entries_end new ≡ entries_end old
  end_same =
      ap (λ x. x + u32_at new (x + 0x04)) header_new
      ∙ ap (λ n. 0x10 + n) (u32_at-same old new 0x14 (λ k from to. wide.low k (omega arith)))
      ∙ ap (λ x. x + u32_at old (x + 0x04)) (sym header_old)

  room_is : room_end new ≡ length new
  room_is =
      let l = long_old in let n = wide.long in
      ap (λ x. x + u32_at new (x + 0x08)) header_new ∙ ap (λ n. 0x10 + n) wide.room ∙ omega arith

  pub wide_children : has_children new ≡ has_children old
  wide_children =
      let l = long_old in
      ap (λ x. slice_index new (x + 0x0C) % 2 == 1) header_new
      ∙ ap (λ n. n % 2 == 1) (wide.high 0x1C (omega arith) (omega arith))
      ∙ ap (λ x. slice_index old (x + 0x0C) % 2 == 1) (sym header_old)

  pub wide_right : node_header_failing new ≡ None
  wide_right =
      let a = header_new in let b = first_off_same in let e = end_same in let r = room_is in let l = long_old in let n = wide.long in
      let p = ends_in.0 in let q = ends_in.1 in let o = leb-true 16 (first_offset old) (is_right old h.right).offset in
      six_right 0x00 0x00 0x04 (node_header new) (node_header new + 0x04) (node_header new + 0x08)
      (le-leb (node_header new + 16) (length new) (omega arith))
      (not_record new (starts_with nat_eq new (codes "INDX")) ne_new)
      (not_record new (has_array new (first_entry new)) ne_new)
      (le-leb 16 (first_offset new) (omega arith))
      (le-leb (entries_end new) (room_end new) (omega arith))
      (le-leb (room_end new) (length new) (omega arith))

  abbrev pieces : List (List ℕ)
  pieces = pieces_from old (first_entry old) h.count

  inside_old : entries_end old ≤ length old
  inside_old = let p = ends_in.0 in let q = ends_in.1 in omega arith

  total : first_entry old + total_len pieces ≤ entries_end old
  total =
      let t = from_total form old (has_children old) (entries_end old) inside_old (first_entry old) h.count h.each h.last in
      let w = place_whole form old (has_children old) (entries_end old) (first_entry old) h.count h.each h.last h.count (omega arith) in
      let n = entry_place-next old (first_entry old) h.count in
      omega (arith, w.inside)

  are : AreEntries form (has_children old) pieces
  are = from_entries form old (has_children old) (entries_end old) inside_old (first_entry old) h.count h.each h.last

  holds : HoldsPieces new (first_entry old) pieces
  holds =
      let t = total in let i = inside_old in let l = wide.long in let b = first_begins in
      Holds-moved old new (first_entry old) (first_entry old) pieces (omega arith) (omega arith)
      (λ k lt. wide.high (first_entry old + k) (omega arith) (omega arith))
      (from_holds form old (has_children old) (entries_end old) inside_old (first_entry old) h.count h.each h.last)

  wide_inside : entries_end old ≤ length new
  wide_inside = let i = inside_old in let l = wide.long in omega arith

  pub wide_node : (said : Node) → node_in form old ≡ Some said → node_in form new ≡ Some said
  wide_node said is =
      says_node form new (has_children old) (entries_end old) (first_entry old) wide_right (sym wide_children) (sym end_same) (sym
      first_same) wide_inside pieces are holds total
      ∙ ap (λ m. Some m) (from_said form old (has_children old) (entries_end old) inside_old (first_entry old) h.count h.each h.last
      ∙ said_facts form old i at behind fin h said is)

  pub wide_short : EditsShort form old new (λ said. said)
  wide_short said is =
      let s = short_said form old i at behind fin h said is in
      says_short form new (has_children old) (entries_end old) (first_entry old) wide_right (sym wide_children) (sym end_same) (sym
      first_same) wide_inside pieces are holds total
      (from_short form old (has_children old) (entries_end old) inside_old (most_len (has_children old)) (first_entry old) h.count
      h.each h.last s.1)
      ∙ ap (λ m. Some m) (from_said form old (has_children old) (entries_end old) inside_old (first_entry old) h.count h.each h.last
      ∙ said_facts form old i at behind fin h said s.0)

  -- and it has room for as many bytes as it was made longer by
  pub wide_room : (len : ℕ) → length new ≡ length old + len → HasRoomFor form new len
  wide_room len long said is =
      let here : node_in form new ≡ Some (said_now form old i at behind fin h) = wide_node (said_now form old i at behind fin h) h.said in
      let same : said_now form old i at behind fin h ≡ said = some_same (sym here ∙ is) in
      let listed = from_said form old (has_children old) (entries_end old) inside_old (first_entry old) h.count h.each h.last in
      let p = pieces_place form (has_children old) new (first_entry old) pieces are holds in
      let q : entry_place new (first_entry new) (suc (length said.entries)) ≡ entry_place new (first_entry old) (suc (length
      (node_listed (has_children old) pieces).entries)) =
      ap (λ a. entry_place new a (suc (length said.entries))) first_same
      ∙ ap (λ (m : Node). entry_place new (first_entry old) (suc (length m.entries))) (sym (listed ∙ same)) in
      let t = total in let r = room_is in let f = first_same in let l = inside_old in
      omega arith
    where
      some_same : {m n : Node} → Some m ≡ Some n → m ≡ n
      some_same e = cc

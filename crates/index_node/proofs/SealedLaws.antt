-- A node whose update sequence array alone differs says the same.
use Rattle.std.proofs.Common.{◌≡◌, ℕ, zero, suc, ◌+◌, ◌-◌, ◌<◌, ◌≤◌, ◌==◌, ◌/◌, ◌%◌, ◌*◌, List, [], ◌∷◌, Option, Some, None, Bool}
use Rattle.std.proofs.Common.{true, false, length, take, get_or, slice_range, slice_index, refl, sym, ap, ◌∙◌, arith, rules}
use Rattle.std.specs.Prelude.{codes, nat_eq, nat_le, ◌&&◌, ◌||◌, if◌then◌else◌}
use Rattle.std.specs.List.{starts_with}
use Rattle.std.specs.Option.{option_and_then}
use Rattle.std.specs.Cmp.Lexicographic.{pointwise}
use Rattle.std.proofs.lemmas.Bool.{leb-true}
use Rattle.vol_bytes.specs.Field.{SameOutside, u16_at, u32_at, u64_at}
use Rattle.vol_bytes.proofs.FieldLaws.{u16_at-same, u32_at-same, u64_at-same}
use Rattle.ntfs_def.specs.First.{first_failing}
use Rattle.ntfs_def.specs.Fixup.{array_place, array_end}
use Rattle.ntfs_def.specs.Node.{Node, Whole, IsWholeEntry, are_short, are_short_from, child_at, child_len, entries_end, entry_and}
use Rattle.ntfs_def.specs.Node.{entry_at, entry_len, first_entry, first_offset, has_children, holds_data, is_entry, is_index_record}
use Rattle.ntfs_def.specs.Node.{is_last_entry, is_whole, item_at, key_len, most_len, node_header, node_header_failing, node_in}
use Rattle.ntfs_def.specs.Node.{own_vcn, room_end, scan_behind, scan_from, scan_node, short_node, whole_of}
use Rattle.ntfs_def.specs.declared.index.NodeForm.{NodeForm}
use Rattle.ntfs_def.specs.declared.index.NodeForm.TheVariants.{Names, View}
use Rattle.index_node.proofs.NodeLaws.{child_at-none, child_at-some, entry_whole, items_same, last_whole, scan_at_bad, scan_at_entry}
use Rattle.index_node.proofs.NodeLaws.{scan_at_last, scan_node-wrong}
use Rattle.index_node.proofs.LayOutLaws.{entry_eq, has_array, node_eq, node_header-same, range_same, right_array}
use Rattle.index_node.specs.Sealed.{HasArrayApart}

header_most : (node : List ℕ) → node_header node ≤ 0x18
unfolding node_header
header_most node = go (is_index_record node)
  where
    go : (b : Bool) → (if b then 0x18 else 0x10) ≤ 0x18
    go true = omega arith
    go false = omega arith

six_same : {a1 a2 a3 a4 a5 a6 b1 b2 b3 b4 b5 b6 : Bool} {p4 p5 p6 q4 q5 q6 : ℕ}
    → b1 ≡ a1 → b2 ≡ a2 → b3 ≡ a3 → b4 ≡ a4 → b5 ≡ a5 → b6 ≡ a6 → q4 ≡ p4 → q5 ≡ p5 → q6 ≡ p6
    → first_failing ((b1, 0x00) ∷ (b2, 0x00) ∷ (b3, 0x04) ∷ (b4, q4) ∷ (b5, q5) ∷ (b6, q6) ∷ [])
    ≡ first_failing ((a1, 0x00) ∷ (a2, 0x00) ∷ (a3, 0x04) ∷ (a4, p4) ∷ (a5, p5) ∷ (a6, p6) ∷ [])
six_same h1 h2 h3 h4 h5 h6 e4 e5 e6 = rw (h1, h2, h3, h4, h5, h6, e4, e5, e6) refl

le_same : {a b c d : ℕ} → c ≡ a → d ≡ b → nat_le c d ≡ nat_le a b
le_same e f = rw (e, f) refl

pub three_same : {a b c d e f : Bool} → d ≡ a → e ≡ b → f ≡ c → (d && e && f) ≡ (a && b && c)
three_same h i j = rw (h, i, j) refl

-- what is a whole entry, and where its data lies, by its fields
abbrev pub whole_by : Bool → ℕ → ℕ → ℕ → ℕ → ℕ → Bool
whole_by children end at len key flags =
    nat_le (at + 16) end && (len % 8 == 0) && nat_le (16 + key + child_len children) len && nat_le (at + len) end
    && (flags % 2 == (if children then 1 else 0))

pub whole_by-same : (children : Bool) (end at : ℕ) {len key flags len' key' flags' : ℕ} → len' ≡ len → key' ≡ key → flags' ≡ flags
    → whole_by children end at len' key' flags' ≡ whole_by children end at len key flags
whole_by-same children end at e f g = rw (e, f, g) refl

abbrev pub data_by : Bool → ℕ → ℕ → ℕ → ℕ → Bool
data_by children bytes from key len = (bytes == 0) || nat_le (16 + key) from && nat_le (from + bytes + child_len children) len

pub data_by-same : (children : Bool) {bytes from key len bytes' from' key' len' : ℕ} → bytes' ≡ bytes → from' ≡ from → key' ≡ key →
    len' ≡ len
    → data_by children bytes' from' key' len' ≡ data_by children bytes from key len
data_by-same children e f g h = rw (e, f, g, h) refl

module _ (old new : List ℕ) (apart : HasArrayApart old) (same : SameOutside old new (array_place old) (array_end old)) where
  front : (k : ℕ) → k < 0x28 → get_or new k 0 ≡ get_or old k 0
  front k lt = let a = apart.low in same.below k (omega arith)

  behind : (k : ℕ) → first_entry old ≤ k → get_or new k 0 ≡ get_or old k 0
  behind k from = let a = apart.high in same.above k (omega arith)

  -- the header
  header_same : node_header new ≡ node_header old
  header_same = node_header-same old new same.len

  front_u32 : (at : ℕ) → at < 0x25 → u32_at new at ≡ u32_at old at
  front_u32 at lt = u32_at-same old new at (λ k from to. front k (omega arith))

  offset_same : first_offset new ≡ first_offset old
  offset_same = let m = header_most old in ap (u32_at new) header_same ∙ front_u32 (node_header old) (omega arith)

  first_same : first_entry new ≡ first_entry old
  first_same = ap (λ h. h + first_offset new) header_same ∙ ap (λ o. node_header old + o) offset_same

  end_same : entries_end new ≡ entries_end old
  end_same =
      let m = header_most old in
      ap (λ h. h + u32_at new (h + 0x04)) header_same ∙ ap (λ o. node_header old + o) (front_u32 (node_header old + 0x04) (omega arith))

  room_same : room_end new ≡ room_end old
  room_same =
      let m = header_most old in
      ap (λ h. h + u32_at new (h + 0x08)) header_same ∙ ap (λ o. node_header old + o) (front_u32 (node_header old + 0x08) (omega arith))

  children_same : has_children new ≡ has_children old
  children_same =
      let m = header_most old in
      ap (λ h. slice_index new (h + 0x0C) % 2 == 1) header_same
      ∙ ap (λ n. n % 2 == 1) (front (node_header old + 0x0C) (omega arith))

  mark_same : (if is_index_record new then starts_with nat_eq new (codes "INDX") else true)
      ≡ (if is_index_record old then starts_with nat_eq old (codes "INDX") else true)
  mark_same =
      let four : take 4 new ≡ take 4 old = range_same old new 0 4 same.len (λ k from to. front k (omega arith)) in
      ap (λ n. if n == 4096 then starts_with nat_eq new (codes "INDX") else true) same.len
      ∙ ap (λ xs. if is_index_record old then pointwise nat_eq (codes "INDX") xs else true) four

  array_same : (if is_index_record new then has_array new (first_entry new) else true)
      ≡ (if is_index_record old then has_array old (first_entry old) else true)
  array_same =
      let place : array_place new ≡ array_place old = u16_at-same old new 0x04 (λ k from to. front k (omega arith)) in
      let count : u16_at new 0x06 ≡ u16_at old 0x06 = u16_at-same old new 0x06 (λ k from to. front k (omega arith)) in
      ap (λ n. if n == 4096 then has_array new (first_entry new) else true) same.len
      ∙ ap (λ f. if is_index_record old then has_array new f else true) first_same
      ∙ ap (λ p. if is_index_record old then nat_le 0x28 p && nat_le (p + 2 * u16_at new 0x06) (first_entry old) else true) place
      ∙ ap (λ c. if is_index_record old then nat_le 0x28 (array_place old) && nat_le (array_place old + 2 * c)
      (first_entry old) else true) count

  failing_same : node_header_failing new ≡ node_header_failing old
  failing_same =
      six_same
      (le_same (ap (λ h. h + 16) header_same) same.len)
      mark_same array_same
      (ap (λ o. nat_le 16 o) offset_same)
      (le_same end_same room_same)
      (le_same room_same same.len)
      header_same
      (ap (λ h. h + 0x04) header_same)
      (ap (λ h. h + 0x08) header_same)

  -- an entry
  field : (at k : ℕ) → first_entry old ≤ at → u16_at new (at + k) ≡ u16_at old (at + k)
  field at k from = u16_at-same old new (at + k) (λ j f t. behind j (omega arith))

  len_same : (at : ℕ) → first_entry old ≤ at → entry_len new at ≡ entry_len old at
  len_same at from = field at 0x08 from

  whole_same : (children : Bool) (end at : ℕ) → first_entry old ≤ at → is_whole new children end at ≡ is_whole old children end at
  whole_same children end at from = whole_by-same children end at (field at 0x08 from) (field at 0x0A from) (field at 0x0C from)

  data_same : (form : NodeForm) (children : Bool) (at : ℕ) → first_entry old ≤ at
      → holds_data form new children at ≡ holds_data form old children at
  data_same Names children at from = refl
  data_same View children at from =
      data_by-same children (field at 0x02 from) (u16_at-same old new at (λ j f t. behind j (omega arith))) (field at 0x0A from)
      (field at 0x08 from)

  entry_same : (form : NodeForm) (children : Bool) (end at : ℕ) → first_entry old ≤ at
      → is_entry form new children end at ≡ is_entry form old children end at
  unfolding is_entry
  entry_same form children end at from =
      three_same (whole_same children end at from) (ap (λ f. f / 2 % 2 == 0) (field at 0x0C from)) (data_same form children at from)

  last_same : (children : Bool) (end at : ℕ) → first_entry old ≤ at → is_last_entry new children end at ≡ is_last_entry old children end at
  unfolding is_last_entry
  last_same children end at from =
      three_same (whole_same children end at from) (ap (λ f. f / 2 % 2 == 1) (field at 0x0C from)) (ap (λ n. n == 0) (field at 0x0A from))

  piece_same : (a b : ℕ) → first_entry old ≤ a → slice_range new a b ≡ slice_range old a b
  piece_same a b from = range_same old new a b same.len (λ k f t. behind k (omega arith))

  item_same : (children : Bool) (at : ℕ) → first_entry old ≤ at → item_at new children at ≡ item_at old children at
  unfolding item_at
  item_same children at from =
      let key = field at 0x0A from in
      let len = field at 0x08 from in
      items_same
      (piece_same at (at + 8) from)
      (ap (λ n. slice_range new (at + 16) (at + 16 + n)) key ∙ piece_same (at + 16) (at + 16 + key_len old at) (omega arith))
      (ap (λ n. slice_range new (at + 16 + n) (at + entry_len new at - child_len children)) key
      ∙ ap (λ n. slice_range new (at + 16 + key_len old at) (at + n - child_len children)) len
      ∙ piece_same (at + 16 + key_len old at) (at + entry_len old at - child_len children) (omega arith))

  child_same : (children : Bool) (end at : ℕ) → first_entry old ≤ at → IsWholeEntry old children end at
      → child_at new children at ≡ child_at old children at
  child_same false end at from w = child_at-none new false at refl ∙ sym (child_at-none old false at refl)
  child_same true end at from w =
      let holds = w.holds in
      child_at-some new true at refl
      ∙ ap (λ n. Some (u64_at new (at + n - 8))) (len_same at from)
      ∙ ap (λ n. Some n) (u64_at-same old new (at + entry_len old at - 8) (λ k f t. behind k (omega arith)))
      ∙ sym (child_at-some old true at refl)

  -- the entries
  module _ (form : NodeForm) (children : Bool) (end most at : ℕ) (from : first_entry old ≤ at) (rest : scan_from form new children end
      most (at + entry_len old at) ≡ scan_from form old children end most (at + entry_len old at)) where
    by_entry : (b : Bool) → is_last_entry old children end at ≡ false → is_entry form old children end at ≡ b
        → scan_from form new children end (suc most) at ≡ scan_from form old children end (suc most) at
    by_entry true other is =
        scan_at_entry form new children end most at (entry_same form children end at from ∙ is)
        ∙ ap (λ n. entry_and (entry_at new children at) (scan_from form new children end most (at + n))) (len_same at from)
        ∙ ap (entry_and (entry_at new children at)) rest
        ∙ ap (λ e. entry_and e (scan_from form old children end most (at + entry_len old at)))
        (entry_eq (item_same children at from) (child_same children end at from (entry_whole form old children end at is)))
        ∙ sym (scan_at_entry form old children end most at is)
    by_entry false other is =
        scan_at_bad form new children end most at (last_same children end at from ∙ other) (entry_same form children end at from ∙ is)
        ∙ sym (scan_at_bad form old children end most at other is)

    by_last : (b : Bool) → is_last_entry old children end at ≡ b
        → scan_from form new children end (suc most) at ≡ scan_from form old children end (suc most) at
    by_last true is =
        scan_at_last form new children end most at (last_same children end at from ∙ is)
        ∙ ap (λ n. Whole n) (node_eq (child_same children end at from (last_whole old children end at is)))
        ∙ sym (scan_at_last form old children end most at is)
    by_last false is = by_entry (is_entry form old children end at) is refl

  scan_same : (form : NodeForm) (children : Bool) (end most at : ℕ) → first_entry old ≤ at
      → scan_from form new children end most at ≡ scan_from form old children end most at
  scan_same form children end zero at from = refl
  scan_same form children end (suc most) at from =
      by_last form children end most at from (scan_same form children end most (at + entry_len old at) (omega arith))
      (is_last_entry old children end at) refl

  behind_same : (form : NodeForm) (place : Option ℕ) → scan_behind form new place ≡ scan_behind form old place
  behind_same form (Some place) = refl
  behind_same form None =
      ap (λ c. scan_from form new c (entries_end new) (length new) (first_entry new)) children_same
      ∙ ap (λ e. scan_from form new (has_children old) e (length new) (first_entry new)) end_same
      ∙ ap (λ n. scan_from form new (has_children old) (entries_end old) n (first_entry new)) same.len
      ∙ ap (λ f. scan_from form new (has_children old) (entries_end old) (length old) f) first_same
      ∙ scan_same form (has_children old) (entries_end old) (length old) (first_entry old) (omega arith)

  scan_node-same : (form : NodeForm) → scan_node form new ≡ scan_node form old
  unfolding scan_node
  scan_node-same form = ap (scan_behind form new) failing_same ∙ behind_same form (node_header_failing old)

  pub node_in-same : (form : NodeForm) → node_in form new ≡ node_in form old
  node_in-same form = ap whole_of (scan_node-same form)

  short_from-same : (most at n : ℕ) → first_entry old ≤ at → are_short_from new most at n ≡ are_short_from old most at n
  short_from-same most at zero from = ap (λ l. nat_le l most) (len_same at from)
  short_from-same most at (suc n) from =
      ap (λ l. nat_le l most && are_short_from new most (at + l) n) (len_same at from)
      ∙ ap (λ b. nat_le (entry_len old at) most && b) (short_from-same most (at + entry_len old at) n (omega arith))

  are_short-same : (count : ℕ) → are_short new count ≡ are_short old count
  unfolding are_short
  are_short-same count =
      ap (λ c. are_short_from new (most_len c) (first_entry new) count) children_same
      ∙ ap (λ f. are_short_from new (most_len (has_children old)) f count) first_same
      ∙ short_from-same (most_len (has_children old)) (first_entry old) count (omega arith)

  pub short_node-same : (form : NodeForm) → short_node form new ≡ short_node form old
  short_node-same form =
      ap (option_and_then (λ (said : Node). if are_short new (length said.entries) then Some said else None)) (node_in-same form)
      ∙ go (node_in form old)
    where
      go : (node : Option Node)
          → option_and_then (λ (said : Node). if are_short new (length said.entries) then Some said else None) node
          ≡ option_and_then (λ (said : Node). if are_short old (length said.entries) then Some said else None) node
      go None = refl
      go (Some said) = ap (λ b. if b then Some said else None) (are_short-same (length said.entries))

  pub own_vcn-same : own_vcn new ≡ own_vcn old
  own_vcn-same = u64_at-same old new 0x10 (λ k from to. front k (omega arith))

-- where the array of a node stands
pub node_array : (form : NodeForm) (node : List ℕ) (said : Node) → length node ≡ 4096 → node_in form node ≡ Some said
    → HasArrayApart node
node_array form node said len is = by_header (node_header_failing node) refl
  where
    and_parts : {a b : Bool} → (a && b) ≡ true → (a ≡ true) × (b ≡ true)
    and_parts h = search rules

    by_header : (place : Option ℕ) → node_header_failing node ≡ place → HasArrayApart node
    by_header None right =
        let array : has_array node (first_entry node) ≡ true = right_array node right len in
        let parts = and_parts array in
        record {
          low = leb-true 0x28 (array_place node) parts.0;
          high = leb-true (array_end node) (first_entry node) parts.1;
        }
    by_header (Some place) wrong =
        let none : node_in form node ≡ None = ap whole_of (scan_node-wrong form node place wrong) in
        absurd (cc)

-- What is laid out is read again: bytes that hold pieces, and the node that entries say.
use Rattle.std.proofs.Math.Nat.{min-eq_left, min-eq_right}
use Rattle.std.proofs.Common.{◌^◌, min, inl, inr, ◌≡◌, ℕ, zero, suc, ◌+◌, ◌-◌, ◌*◌, ◌/◌, ◌%◌, ◌<◌, ◌≤◌, ◌==◌, List, [], ◌∷◌, ◌++◌}
use Rattle.std.proofs.Common.{Option, Some, None, Bool, true, false, length, take, drop, get_or, slice_range, slice_index, refl, sym}
use Rattle.std.proofs.Common.{ap, subst, ◌∙◌, arith, rules, length-drop, length-take}
use Rattle.std.specs.Prelude.{All, IsTrue, ◌↔◌, codes, nat_eq, nat_le, ◌&&◌, if◌then◌else◌}
use Rattle.std.specs.List.{starts_with}
use Rattle.std.specs.Cmp.Lexicographic.{pointwise}
use Rattle.std.proofs.lemmas.List.{get_or-take, get_or-drop}
use Rattle.std.proofs.lemmas.List.Elements.{All-nil, All-cons, All-head, All-tail}
use Rattle.std.specs.Option.{option_and_then}
use Rattle.std.proofs.lemmas.Grind.{same_number_lists}
use Rattle.std.proofs.lemmas.Bool.{cases_order, le-leb, leb-true, and_parts}
use Rattle.std.proofs.lemmas.List.Sums.{sum_by-cons}
use Rattle.vol_bytes.specs.Field.{SameOutside, u16_at, u32_at, u64_at}
use Rattle.vol_bytes.proofs.FieldLaws.{u16_at-same, u32_at-same}
use Rattle.ntfs_def.specs.First.{first_failing}
use Rattle.ntfs_def.specs.Fixup.{array_place, array_end}
use Rattle.ntfs_def.specs.Node.{Item, Entry, Node, Whole, IsWholeEntry, are_short, are_short_from, child_at, child_len, data_len}
use Rattle.ntfs_def.specs.Node.{data_offset, entries_end, entry_at, entry_flags, entry_len, first_entry, first_offset, has_children}
use Rattle.ntfs_def.specs.Node.{holds_data, is_entry, is_index_record, is_last_entry, is_whole, item_at, item_in, key_len, most_len}
use Rattle.ntfs_def.specs.Node.{node_header, node_header_failing, node_in, room_end, scan_from, short_node, whole_of, entry_and}
use Rattle.ntfs_def.specs.Node.{is_one_entry, is_one_last}
use Rattle.ntfs_def.specs.declared.index.NodeForm.{NodeForm}
use Rattle.ntfs_def.specs.declared.index.NodeForm.TheVariants.{Names, View}
use Rattle.index_node.proofs.NodeLaws.{are_short-is, short_next, u16_within, u64_within, item_in-own, entry_whole, flag_is}
use Rattle.index_node.proofs.NodeLaws.{scan_at_entry, scan_at_last, scan_node-is, child_at-some, child_at-none}
use Rattle.index_node.specs.LayOut.{AreEntries, AreEntriesFrom, AreShort, HoldsPieces, KeepsHeader, SetsHeader, node_from}
use Rattle.index_node.specs.LayOut.{node_listed, total_len, with_entry}
use Rattle.list_laws.proofs.BoolLaws.{true_if}

-- The bytes that entries take, where they fit.
pub need_is : (total need free room first : ℕ) → need ≡ min total (2 ^ 64 - 1) → need ≤ free → free ≡ room - first → room < 2 ^ 33
    → need ≡ total
need_is total need free room first e h f short = elim (cases_order total (2 ^ 64 - 1)) [
  | inl is ↦ go (omega (arith, is))
  | inr w ↦ elim w [
    | inl lt ↦ go (omega arith)
    | inr gt ↦ let m = min-eq_right {n = 2 ^ 64 - 1} {m = total} (omega arith) in absurd (omega (arith, e, m))
  ]
]
  where
    go : total ≤ 2 ^ 64 - 1 → need ≡ total
    go le = let m = min-eq_left le in omega (arith, e, m)

-- Bytes that are the same.
pub range_same : (old new : List ℕ) (a b : ℕ) → length new ≡ length old → ((k : ℕ) → a ≤ k → k < b → get_or new k 0 ≡ get_or old k 0)
    → slice_range new a b ≡ slice_range old a b
range_same old new a b len same =
    let m = length-take (b - a) (drop a new) in
    let n = length-take (b - a) (drop a old) in
    let p = length-drop a new in
    let q = length-drop a old in
    same_number_lists (slice_range new a b) (slice_range old a b) (omega (arith, m, n, p, q))
    (λ k lt.
    get_or-take (b - a) (drop a new) k 0 (omega (arith, m, lt)) ∙ get_or-drop a new k 0
    ∙ same (a + k) (omega arith) (omega (arith, m, lt))
    ∙ sym (get_or-take (b - a) (drop a old) k 0 (omega (arith, m, lt)) ∙ get_or-drop a old k 0))

pub HoldsPieces-same : (old new : List ℕ) (at : ℕ) (pieces : List (List ℕ)) → length new ≡ length old
    → ((k : ℕ) → at ≤ k → k < at + total_len pieces → get_or new k 0 ≡ get_or old k 0) → HoldsPieces old at pieces → HoldsPieces new at
    pieces
HoldsPieces-same old new at [] len same holds = tt
HoldsPieces-same old new at (piece ∷ pieces) len same holds =
    let sum : total_len (piece ∷ pieces) ≡ length piece + total_len pieces = sum_by-cons length piece pieces in (
      range_same old new at (at + length piece) len (λ k from to. same k from (omega arith)) ∙ holds.0,
      HoldsPieces-same old new (at + length piece) pieces len (λ k from to. same k (omega arith) (omega arith)) holds.1,
    )

pub HoldsPieces-more : (node : List ℕ) (at place : ℕ) (pieces : List (List ℕ)) (piece : List ℕ) → place ≡ at + total_len pieces
    → HoldsPieces node at pieces → HoldsPieces node place (piece ∷ [])
    → HoldsPieces node at (pieces ++ piece ∷ [])
HoldsPieces-more node at place [] piece is holds more = subst (λ p. HoldsPieces node p (piece ∷ [])) (omega arith) more
HoldsPieces-more node at place (first ∷ pieces) piece is holds more =
    let sum : total_len (first ∷ pieces) ≡ length first + total_len pieces = sum_by-cons length first pieces in
    (holds.0, HoldsPieces-more node (at + length first) place pieces piece (omega arith) holds.1 more)

sixteen : (n : ℕ) → 0 + 16 ≤ n → 16 ≤ n
sixteen n h = omega arith

-- A piece is an entry of the node as it is by itself.
module _ (node entry : List ℕ) (at : ℕ) (is : slice_range node (at) (at + length entry) ≡ entry) where
  pub field : (k : ℕ) → k + 1 < length entry → u16_at node (at + k) ≡ u16_at entry k
  field k h = sym (u16_within node at (length entry) k h) ∙ ap (λ bytes. u16_at bytes k) is

  pub len_same : 16 ≤ length entry → entry_len node at ≡ entry_len entry 0
  len_same h = field 0x08 (omega arith)

  key_same : 16 ≤ length entry → key_len node at ≡ key_len entry 0
  key_same h = field 0x0A (omega arith)

  flags_same : 16 ≤ length entry → entry_flags node at ≡ entry_flags entry 0
  flags_same h = field 0x0C (omega arith)

  data_len_same : 16 ≤ length entry → data_len node at ≡ data_len entry 0
  data_len_same h = field 0x02 (omega arith)

  data_offset_same : 16 ≤ length entry → data_offset node at ≡ data_offset entry 0
  data_offset_same h = ap (u16_at node) (omega arith) ∙ field 0 (omega arith)

  whole_moved : (children : Bool) (end : ℕ) → is_whole entry children (length entry) 0 ≡ true → entry_len entry 0 ≡ length entry
      → at + length entry ≤ end
      → is_whole node children end at ≡ true
  whole_moved children end h len inside =
      let long : 0 + 16 ≤ length entry = search rules in
      let multiple : (entry_len entry 0 % 8 == 0) ≡ true = search rules in
      let holds : 16 + key_len entry 0 + child_len children ≤ entry_len entry 0 = search rules in
      let flag : (entry_flags entry 0 % 2 == (if children then 1 else 0)) ≡ true = search rules in
      let size = len_same (omega arith) in
      let key = key_same (omega arith) in
      all_five
      (le-leb (at + 16) end (omega arith))
      (ap (λ n. n % 8 == 0) size ∙ multiple)
      (le-leb (16 + key_len node at + child_len children) (entry_len node at) (omega arith))
      (le-leb (at + entry_len node at) end (omega arith))
      (ap (λ n. n % 2 == (if children then 1 else 0)) (flags_same (omega arith)) ∙ flag)
    where
      all_five : {a b c d e : Bool} → a ≡ true → b ≡ true → c ≡ true → d ≡ true → e ≡ true → (a && b && c && d && e) ≡ true
      all_five h i j k l = rw (h, i, j, k, l)

  data_moved : (form : NodeForm) (children : Bool) → 16 ≤ length entry → holds_data form entry children 0 ≡ true
      → holds_data form node children at ≡ true
  data_moved Names children h holds = refl
  data_moved View children h holds = rw (data_len_same h, data_offset_same h, key_same h, len_same h) holds

  entry_moved : (form : NodeForm) (children : Bool) (end : ℕ) → IsTrue (is_one_entry form children entry) → at + length entry ≤ end
      → is_entry form node children end at ≡ true
  unfolding is_entry
  entry_moved form children end h inside =
      let whole : is_whole entry children (length entry) 0 ≡ true = search rules in
      let more : (entry_flags entry 0 / 2 % 2 == 0) ≡ true = search rules in
      let apart : holds_data form entry children 0 ≡ true = search rules in
      let len : entry_len entry 0 ≡ length entry = search rules in
      let long : 16 ≤ length entry = sixteen (length entry) (search rules) in
      three
      (whole_moved children end whole len inside)
      (ap (λ n. n / 2 % 2 == 0) (flags_same long) ∙ more)
      (data_moved form children long apart)
    where
      three : {a b c : Bool} → a ≡ true → b ≡ true → c ≡ true → (a && b && c) ≡ true
      three h i j = rw (h, i, j)

  last_moved : (children : Bool) (end : ℕ) → IsTrue (is_one_last children entry) → at + length entry ≤ end
      → is_last_entry node children end at ≡ true
  unfolding is_last_entry
  last_moved children end h inside =
      let whole : is_whole entry children (length entry) 0 ≡ true = search rules in
      let last : (entry_flags entry 0 / 2 % 2 == 1) ≡ true = search rules in
      let none : (key_len entry 0 == 0) ≡ true = search rules in
      let len : entry_len entry 0 ≡ length entry = search rules in
      let long : 16 ≤ length entry = sixteen (length entry) (search rules) in
      three
      (whole_moved children end whole len inside)
      (ap (λ n. n / 2 % 2 == 1) (flags_same long) ∙ last)
      (ap (λ n. n == 0) (key_same long) ∙ none)
    where
      three : {a b c : Bool} → a ≡ true → b ≡ true → c ≡ true → (a && b && c) ≡ true
      three h i j = rw (h, i, j)

  pub child_moved : (children : Bool) → 16 + child_len children ≤ length entry → entry_len entry 0 ≡ length entry
      → child_at node children at ≡ child_at entry children 0
  child_moved false h len = child_at-none node false at refl ∙ sym (child_at-none entry false 0 refl)
  child_moved true h len =
      let size = len_same (omega arith) in
      child_at-some node true at refl
      ∙ ap (λ n. Some (u64_at node (at + n - 8))) (size ∙ len)
      ∙ ap (λ n. Some (u64_at node n)) (omega arith)
      ∙ ap (λ n. Some n) (sym (u64_within node at (length entry) (length entry - 8) (omega arith)))
      ∙ ap (λ bytes. Some (u64_at bytes (length entry - 8))) is
      ∙ ap (λ n. Some (u64_at entry n)) (omega arith)
      ∙ ap (λ n. Some (u64_at entry (0 + n - 8))) (sym len)
      ∙ sym (child_at-some entry true 0 refl)

  pub item_moved : (children : Bool) (end : ℕ) → 16 ≤ length entry → IsWholeEntry node children end at → entry_len entry 0 ≡ length entry
      → item_at node children at ≡ item_at entry children 0
  item_moved children end long w len =
      sym (item_in-own node children end at w)
      ∙ ap (λ n. item_in (slice_range node at (at + n))) (len_same long ∙ len)
      ∙ ap item_in is
      ∙ ap (λ b. item_at entry b 0) (flag_is children (entry_flags entry 0 % 2) (ap (λ n. n % 2) (sym (flags_same long)) ∙ w.flag))

-- what the tests of one entry give
pub entry_facts : (form : NodeForm) (children : Bool) (entry : List ℕ) → IsTrue (is_one_entry form children entry)
    → (entry_len entry 0 ≡ length entry) × (16 + child_len children ≤ length entry)
unfolding is_entry
entry_facts form children entry h =
    let len : entry_len entry 0 ≡ length entry = search rules in
    let holds : 16 + key_len entry 0 + child_len children ≤ entry_len entry 0 = search rules in
    (len, short_of (key_len entry 0) (child_len children) (entry_len entry 0) (length entry) holds len)
  where
    short_of : (k c n m : ℕ) → 16 + k + c ≤ n → n ≡ m → 16 + c ≤ m
    short_of k c n m h e = omega arith

pub last_facts : (children : Bool) (entry : List ℕ) → IsTrue (is_one_last children entry)
    → (entry_len entry 0 ≡ length entry) × (16 + child_len children ≤ length entry)
unfolding is_last_entry
last_facts children entry h =
    let len : entry_len entry 0 ≡ length entry = search rules in
    let holds : 16 + key_len entry 0 + child_len children ≤ entry_len entry 0 = search rules in
    (len, short_of (key_len entry 0) (child_len children) (entry_len entry 0) (length entry) holds len)
  where
    short_of : (k c n m : ℕ) → 16 + k + c ≤ n → n ≡ m → 16 + c ≤ m
    short_of k c n m h e = omega arith

pub sixteen_of : (c n : ℕ) → 16 + c ≤ n → 16 ≤ n
sixteen_of c n h = omega arith

pub entry_eq : {i j : Item} {c d : Option ℕ} → i ≡ j → c ≡ d
    → (let e : Entry = record { item = i; child = c } in e) ≡ record { item = j; child = d }
entry_eq e f = cc

pub node_eq : {c d : Option ℕ} → c ≡ d → (let n : Node = record { entries = []; last = c } in n) ≡ record { entries = []; last = d }
node_eq e = cc

-- entries have bytes
pub few_entries : (form : NodeForm) (children : Bool) (entry : List ℕ) (entries : List (List ℕ))
    → AreEntriesFrom form children entry entries → length entries < total_len (entry ∷ entries)
few_entries form children entry [] h =
    let sum = sum_by-cons length entry [] in
    let long = sixteen_of (child_len children) (length entry) (last_facts children entry h).1 in
    omega arith
few_entries form children entry (next ∷ entries) h =
    let sum = sum_by-cons length entry (next ∷ entries) in
    let long = sixteen_of (child_len children) (length entry) (entry_facts form children entry h.0).1 in
    let more = few_entries form children next entries h.1 in
    omega arith

-- The entries are read again, one behind the other.
pub scan_listed : (form : NodeForm) (node : List ℕ) (children : Bool) (end : ℕ) (entry : List ℕ) (entries : List (List ℕ))
    (most at : ℕ) → length entries < most
    → AreEntriesFrom form children entry entries → HoldsPieces node at (entry ∷ entries) → at + total_len (entry ∷ entries) ≤ end
    → scan_from form node children end most at ≡ Whole (node_from children entry entries)
scan_listed form node children end entry entries zero at few each holds inside = absurd (omega arith)
scan_listed form node children end entry [] (suc most) at few each holds inside =
    let facts = last_facts children entry each in
    let sum = sum_by-cons length entry [] in
    let last = last_moved node entry at holds.0 children end each (omega arith) in
    scan_at_last form node children end most at last
    ∙ ap (λ n. Whole n) (node_eq (child_moved node entry at holds.0 children facts.1 facts.0))
scan_listed form node children end entry (next ∷ entries) (suc most) at few each holds inside =
    let facts = entry_facts form children entry each.0 in
    let long = sixteen_of (child_len children) (length entry) facts.1 in
    let sum = sum_by-cons length entry (next ∷ entries) in
    let is = entry_moved node entry at holds.0 form children end each.0 (omega arith) in
    scan_at_entry form node children end most at is
    ∙ ap (λ n. entry_and (entry_at node children at) (scan_from form node children end most (at + n)))
    (len_same node entry at holds.0 long ∙ facts.0)
    ∙ ap (entry_and (entry_at node children at)) (scan_listed form node children end next entries most (at + length entry)
    (omega arith) each.1 holds.1 (omega arith))
    ∙ ap (λ e. Whole (with_entry e (node_from children next entries)))
    (entry_eq (item_moved node entry at holds.0 children end long (entry_whole form node children end at is) facts.0)
    (child_moved node entry at holds.0 children facts.1 facts.0))

-- The entries of the node are short exactly where the pieces are.
pub short_listed : (form : NodeForm) (node : List ℕ) (children : Bool) (most at : ℕ) (entry : List ℕ) (entries : List (List ℕ))
    → AreEntriesFrom form children entry entries → HoldsPieces node at (entry ∷ entries)
    → All (λ piece. length piece ≤ most) (entry ∷ entries)
    → are_short_from node most at (length (node_from children entry entries).entries) ≡ true
short_listed form node children most at entry [] each holds short =
    let facts = last_facts children entry each in
    let long = sixteen_of (child_len children) (length entry) facts.1 in
    let len = len_same node entry at holds.0 long in
    let le = All-head (λ piece. length piece ≤ most) entry [] short in
    le-leb (entry_len node at) most (omega (arith, facts.0))
short_listed form node children most at entry (next ∷ entries) each holds short =
    let facts = entry_facts form children entry each.0 in
    let long = sixteen_of (child_len children) (length entry) facts.1 in
    let len = len_same node entry at holds.0 long ∙ facts.0 in
    let le = All-head (λ piece. length piece ≤ most) entry (next ∷ entries) short in
    short_next node most at (length (node_from children next entries).entries) (omega arith)
    ∙ ap (λ n. are_short_from node most (at + n) (length (node_from children next entries).entries)) len
    ∙ short_listed form node children most (at + length entry) next entries each.1 holds.1
    (All-tail (λ piece. length piece ≤ most) entry (next ∷ entries) short)

listed_short : (form : NodeForm) (node : List ℕ) (children : Bool) (most at : ℕ) (entry : List ℕ) (entries : List (List ℕ))
    → AreEntriesFrom form children entry entries → HoldsPieces node at (entry ∷ entries)
    → are_short_from node most at (length (node_from children entry entries).entries) ≡ true
    → All (λ piece. length piece ≤ most) (entry ∷ entries)
listed_short form node children most at entry [] each holds short =
    let facts = last_facts children entry each in
    let long = sixteen_of (child_len children) (length entry) facts.1 in
    let len = len_same node entry at holds.0 long in
    let le = leb-true (entry_len node at) most short in
    All-cons (λ piece. length piece ≤ most) entry [] (omega (arith, facts.0)) (All-nil (λ piece. length piece ≤ most))
listed_short form node children most at entry (next ∷ entries) each holds short =
    let facts = entry_facts form children entry each.0 in
    let long = sixteen_of (child_len children) (length entry) facts.1 in
    let len = len_same node entry at holds.0 long ∙ facts.0 in
    let rest = length (node_from children next entries).entries in
    let parts = and_parts (nat_le (entry_len node at) most) (are_short_from node most (at + entry_len node at) rest) short in
    let le = leb-true (entry_len node at) most parts.0 in
    All-cons (λ piece. length piece ≤ most) entry (next ∷ entries) (omega arith)
    (listed_short form node children most (at + length entry) next entries each.1 holds.1
    (ap (λ n. are_short_from node most (at + n) rest) (sym len) ∙ parts.1))

-- The header of a node that is laid out.
pub node_header-same : (old new : List ℕ) → length new ≡ length old → node_header new ≡ node_header old
unfolding node_header
node_header-same old new len = ap (λ n. if n == 4096 then 0x18 else 0x10) len

pub six_right : (p1 p2 p3 p4 p5 p6 : ℕ) {b1 b2 b3 b4 b5 b6 : Bool} → b1 ≡ true → b2 ≡ true → b3 ≡ true → b4 ≡ true → b5 ≡ true → b6 ≡ true
    → first_failing ((b1, p1) ∷ (b2, p2) ∷ (b3, p3) ∷ (b4, p4) ∷ (b5, p5) ∷ (b6, p6) ∷ []) ≡ None
six_right p1 p2 p3 p4 p5 p6 h1 h2 h3 h4 h5 h6 = rw (h1, h2, h3, h4, h5, h6)

pub header_is : (node : List ℕ) → length node ≡ 4096 → node_header node ≡ 0x18
unfolding node_header
header_is node len = ap (λ n. if n == 4096 then 0x18 else 0x10) len

pub header_low : (node : List ℕ) → 16 ≤ node_header node
unfolding node_header
header_low node = go (is_index_record node)
  where
    go : (b : Bool) → 16 ≤ (if b then 0x18 else 0x10)
    go true = omega arith
    go false = omega arith

abbrev pub has_array : List ℕ → ℕ → Bool
has_array node first = nat_le 0x28 (array_place node) && nat_le (array_end node) first

head_right : (b : Bool) (p : ℕ) (tests : List (Bool × ℕ)) → first_failing ((b, p) ∷ tests) ≡ None
    → (b ≡ true) × (first_failing tests ≡ None)
head_right true p tests h = (refl, h)
head_right false p tests h = let f : Some p ≡ None = h in absurd (cc)

-- what a right header has
pub record IsRight (node : List ℕ) : Type 0 where
  pub long : nat_le (node_header node + 16) (length node) ≡ true
  pub mark : (if is_index_record node then starts_with nat_eq node (codes "INDX") else true) ≡ true
  pub array : (if is_index_record node then has_array node (first_entry node) else true) ≡ true
  pub offset : nat_le 16 (first_offset node) ≡ true
  pub used : nat_le (entries_end node) (room_end node) ≡ true
  pub inside : nat_le (room_end node) (length node) ≡ true

six_facts : (p1 p2 p3 p4 p5 p6 : ℕ) (b1 b2 b3 b4 b5 b6 : Bool)
    → first_failing ((b1, p1) ∷ (b2, p2) ∷ (b3, p3) ∷ (b4, p4) ∷ (b5, p5) ∷ (b6, p6) ∷ []) ≡ None
    → (b1 ≡ true) × (b2 ≡ true) × (b3 ≡ true) × (b4 ≡ true) × (b5 ≡ true) × (b6 ≡ true)
six_facts p1 p2 p3 p4 p5 p6 b1 b2 b3 b4 b5 b6 h =
    let a = head_right b1 p1 ((b2, p2) ∷ (b3, p3) ∷ (b4, p4) ∷ (b5, p5) ∷ (b6, p6) ∷ []) h in
    let b = head_right b2 p2 ((b3, p3) ∷ (b4, p4) ∷ (b5, p5) ∷ (b6, p6) ∷ []) a.1 in
    let c = head_right b3 p3 ((b4, p4) ∷ (b5, p5) ∷ (b6, p6) ∷ []) b.1 in
    let d = head_right b4 p4 ((b5, p5) ∷ (b6, p6) ∷ []) c.1 in
    let e = head_right b5 p5 ((b6, p6) ∷ []) d.1 in
    let f = head_right b6 p6 [] e.1 in
    (a.0, b.0, c.0, d.0, e.0, f.0)

pub right_of : (node : List ℕ) → node_header_failing node ≡ None → IsRight node
right_of node h =
    let facts = six_facts 0x00 0x00 0x04 (node_header node) (node_header node + 0x04) (node_header node + 0x08)
    (nat_le (node_header node + 16) (length node))
    (if is_index_record node then starts_with nat_eq node (codes "INDX") else true)
    (if is_index_record node then has_array node (first_entry node) else true)
    (nat_le 16 (first_offset node)) (nat_le (entries_end node) (room_end node)) (nat_le (room_end node) (length node)) h in
    record { long = facts.0; mark = facts.1; array = facts.2; offset = facts.3; used = facts.4; inside = facts.5 }

-- the array of an index record ends before the first entry
pub right_array : (node : List ℕ) → node_header_failing node ≡ None → length node ≡ 4096
    → has_array node (first_entry node) ≡ true
right_array node right len =
    true_if (is_index_record node) (has_array node (first_entry node)) (right_of node right).array (ap (λ n. n == 4096) len)

-- `mid` has a new header, and `new` has new entries behind it.
module _ (old mid new : List ℕ) (children : Bool) (end first : ℕ) (sets : SetsHeader old mid children end) (at : first
    ≡ first_entry old) (rest : SameOutside mid new first end)
    (right : node_header_failing old ≡ None) (order : first ≤ end) (room : end ≤ room_end old) where
  len : length new ≡ length old
  len = rest.len ∙ sets.len

  is_right : IsRight old
  is_right = right_of old right

  offset : 16 ≤ first_offset old
  offset = leb-true 16 (first_offset old) is_right.offset

  inside : room_end old ≤ length old
  inside = leb-true (room_end old) (length old) is_right.inside

  begins : node_header old + 16 ≤ first
  begins = let o = offset in omega arith

  header_same : node_header new ≡ node_header old
  header_same = node_header-same old new len

  before_same : (k : ℕ) → k < node_header old + 0x04 → get_or new k 0 ≡ get_or old k 0
  before_same k lt = let b = begins in rest.below k (omega arith) ∙ sets.before k lt

  room_same : (k : ℕ) → node_header old + 0x08 ≤ k → k < node_header old + 0x0C → get_or new k 0 ≡ get_or old k 0
  room_same k from to = let b = begins in rest.below k (omega arith) ∙ sets.room k from to

  pub first_same : first_entry new ≡ first_entry old
  first_same =
      let n = u32_at-same old new (node_header old) (λ k from to. before_same k (omega arith)) in
      ap (λ h. h + u32_at new h) header_same ∙ ap (λ o. node_header old + o) n

  room_end_same : room_end new ≡ room_end old
  room_end_same =
      let n = u32_at-same old new (node_header old + 0x08) (λ k from to. room_same k from (omega arith)) in
      ap (λ h. h + u32_at new (h + 0x08)) header_same ∙ ap (λ o. node_header old + o) n

  pub laid_end : entries_end new ≡ end
  laid_end =
      let b = begins in
      let n = u32_at-same mid new (node_header old + 0x04) (λ k from to. rest.below k (omega arith)) in
      let u = sets.used in
      ap (λ h. h + u32_at new (h + 0x04)) header_same ∙ ap (λ o. node_header old + o) n ∙ omega arith

  laid_flag : slice_index new (node_header old + 0x0C) ≡ slice_index old (node_header old + 0x0C) / 2 * 2 + (if children then 1 else 0)
  laid_flag = let b = begins in rest.below (node_header old + 0x0C) (omega arith) ∙ sets.flags

  pub laid_children : has_children new ≡ children
  laid_children =
      ap (λ h. slice_index new (h + 0x0C) % 2 == 1) header_same ∙ ap (λ n. n % 2 == 1) laid_flag
      ∙ go children (slice_index old (node_header old + 0x0C) / 2)
    where
      go : (b : Bool) (n : ℕ) → ((n * 2 + (if b then 1 else 0)) % 2 == 1) ≡ b
      go true n = let e : (n * 2 + 1) % 2 ≡ 1 = omega arith in ap (λ m. m == 1) e
      go false n = let e : (n * 2 + 0) % 2 ≡ 0 = omega arith in ap (λ m. m == 1) e

  mark_same : (if is_index_record new then starts_with nat_eq new (codes "INDX") else true)
      ≡ (if is_index_record old then starts_with nat_eq old (codes "INDX") else true)
  mark_same =
      let low = header_low old in
      let four : take 4 new ≡ take 4 old = range_same old new 0 4 len (λ k from to. before_same k (omega arith)) in
      ap (λ n. if n == 4096 then starts_with nat_eq new (codes "INDX") else true) len
      ∙ ap (λ xs. if is_index_record old then pointwise nat_eq (codes "INDX") xs else true) four

  array_same : (if is_index_record new then has_array new (first_entry new) else true)
      ≡ (if is_index_record old then has_array old (first_entry old) else true)
  array_same =
      let low = header_low old in
      let place : array_place new ≡ array_place old = u16_at-same old new 0x04 (λ k from to. before_same k (omega arith)) in
      let count : u16_at new 0x06 ≡ u16_at old 0x06 = u16_at-same old new 0x06 (λ k from to. before_same k (omega arith)) in
      ap (λ n. if n == 4096 then has_array new (first_entry new) else true) len
      ∙ ap (λ f. if is_index_record old then has_array new f else true) first_same
      ∙ ap (λ p. if is_index_record old then nat_le 0x28 p && nat_le (p + 2 * u16_at new 0x06) (first_entry old) else true) place
      ∙ ap (λ c. if is_index_record old then nat_le 0x28 (array_place old) && nat_le (array_place old + 2 * c)
      (first_entry old) else true) count

  pub laid_right : node_header_failing new ≡ None
  laid_right =
      let long = leb-true (node_header old + 16) (length old) is_right.long in
      let within = inside in
      let f = first_same in
      let h = header_same in
      let r = room_end_same in
      let e = laid_end in
      let l = len in
      let o = offset in
      six_right 0x00 0x00 0x04 (node_header new) (node_header new + 0x04) (node_header new + 0x08)
      (le-leb (node_header new + 16) (length new) (omega arith))
      (mark_same ∙ is_right.mark)
      (array_same ∙ is_right.array)
      (le-leb 16 (first_offset new) (omega arith))
      (le-leb (entries_end new) (room_end new) (omega arith))
      (le-leb (room_end new) (length new) (omega arith))

  pub laid_keeps : KeepsHeader old new
  laid_keeps =
      let b = begins in
      let e = laid_end in
      record {
        len = len;
        before = before_same;
        room = room_same;
        flags = ap (λ n. n / 2) laid_flag ∙ half (slice_index old (node_header old + 0x0C) / 2) children;
        between = λ k from to. rest.below k (omega arith) ∙ sets.behind k from;
        behind = λ k from. rest.above k (omega arith) ∙ sets.behind k (omega arith);
      }
    where
      half : (n : ℕ) (b : Bool) → (n * 2 + (if b then 1 else 0)) / 2 ≡ n
      half n true = omega arith
      half n false = omega arith

  pub laid_node : (form : NodeForm) (entries : List (List ℕ)) → AreEntries form children entries → HoldsPieces new first entries
      → end ≡ first + total_len entries
      → node_in form new ≡ Some (node_listed children entries)
  laid_node form [] are holds all = absurd are
  laid_node form (entry ∷ entries) are holds all =
      let b = begins in
      let within = inside in
      let few = few_entries form children entry entries are in
      let l = len in
      ap whole_of (scan_node-is form new children end first (Whole (node_from children entry entries)) laid_right (sym laid_children)
      (sym laid_end) (at ∙ sym first_same)
      (scan_listed form new children end entry entries (length new) first (omega arith) are holds (omega arith)))

  laid_are_short : (entry : List ℕ) (entries : List (List ℕ))
      → are_short new (length (node_from children entry entries).entries)
      ≡ are_short_from new (most_len children) first (length (node_from children entry entries).entries)
  laid_are_short entry entries =
      sym (are_short-is new _ _ (most_len children) first refl (ap most_len (sym laid_children)) (at ∙ sym first_same))

  pub laid_short : (form : NodeForm) (entries : List (List ℕ)) → AreEntries form children entries → HoldsPieces new first entries
      → node_in form new ≡ Some (node_listed children entries)
      → (short_node form new ≡ Some (node_listed children entries)) ↔ AreShort children entries
  laid_short form [] are holds is = absurd are
  laid_short form (entry ∷ entries) are holds is =
      let n = length (node_from children entry entries).entries in
      let e : short_node form new ≡ (if are_short new n then Some (node_from children entry entries) else None) =
      ap (option_and_then (λ (said : Node). if are_short new (length said.entries) then Some said else None)) is in (
        λ s. listed_short form new children (most_len children) first entry entries are holds
            (sym (laid_are_short entry entries) ∙ if_some (are_short new n) (node_from children entry entries) (sym e ∙ s)),
        λ s. e ∙ ap (λ b. if b then Some (node_from children entry entries) else None)
            (laid_are_short entry entries ∙ short_listed form new children (most_len children) first entry entries are holds s),
      )
    where
      if_some : (b : Bool) (said : Node) → (if b then Some said else None) ≡ Some said → b ≡ true
      if_some true said h = refl
      if_some false said h = let f : None ≡ Some said = h in absurd (cc)

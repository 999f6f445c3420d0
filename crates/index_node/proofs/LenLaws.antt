-- The bytes that the entries of an edited node take.
use Rattle.std.proofs.Common.{◌≡◌, ◌≢◌, ℕ, zero, suc, ◌+◌, ◌-◌, ◌*◌, ◌/◌, ◌%◌, ◌<◌, ◌≤◌, List, [], ◌++◌, Some, Bool, true, false}
use Rattle.std.proofs.Common.{length, take, slice_range, refl, sym, ap, ◌∙◌, arith, rules}
use Rattle.index_node.specs.declared.NodeNo.TheVariants.{Shape, Full}
use Rattle.index_node.specs.declared.NodeNo.{NodeNo}
use Rattle.std.specs.Prelude.{IsTrue, ◌&&◌}
use Rattle.std.proofs.lemmas.Bool.{leb-true}
use Rattle.vol_bytes.specs.Field.{u32_at}
use Rattle.vol_bytes.proofs.FieldLaws.{u32_at-same}
use Rattle.list_laws.proofs.PieceLaws.{length_within}
use Rattle.ntfs_def.specs.Fixup.{array_end, array_place}
use Rattle.ntfs_def.specs.Node.{Node, entries_end, entry_len, entry_place, first_entry, has_children, is_one_entry, most_len}
use Rattle.ntfs_def.specs.Node.{node_header, node_in, room_end, short_node, child_len}
use Rattle.ntfs_def.specs.declared.index.NodeForm.{NodeForm}
use Rattle.index_node.specs.Edit.{HasSpan, IsOpened, Splices, entries_len, entry_in, front_len, right_of, with_entry_at, LacksRoomFor}
use Rattle.index_node.specs.LayOut.{KeepsHeader, room_len}
use Rattle.index_node.proofs.NodeLaws.{place_whole, entry_place-next}
use Rattle.index_node.proofs.LayOutLaws.{has_array, header_low, node_header-same, right_array}
use Rattle.index_node.proofs.ReplaceLaws.{short_at}
use Rattle.index_node.proofs.SpanLaws.{at_within, count_said, entries_len-is, inside, low, order, place_low, room_ends}
use Rattle.index_node.proofs.SpliceLaws.{begins, closed_len, ends, front_size, inserted_ok, put_len, right_ok, short_said}

-- A header that was kept.
pub keeps_first : (old new : List ℕ) → KeepsHeader old new → first_entry new ≡ first_entry old
keeps_first old new keeps =
    let n = u32_at-same old new (node_header old) (λ k from to. keeps.before k (omega arith)) in
    ap (λ h. h + u32_at new h) (node_header-same old new keeps.len) ∙ ap (λ o. node_header old + o) n

pub keeps_room : (old new : List ℕ) → KeepsHeader old new → room_len new ≡ room_len old
keeps_room old new keeps =
    let n = u32_at-same old new (node_header old + 0x08) (λ k from to. keeps.room k (omega arith) (omega arith)) in
    let r : room_end new ≡ room_end old = ap (λ h. h + u32_at new (h + 0x08)) (node_header-same old new keeps.len) ∙ ap (λ o.
    node_header old + o) n in
    let f = keeps_first old new keeps in
    omega arith

module _ (form : NodeForm) (old : List ℕ) (i at behind end : ℕ) (h : HasSpan form old i at behind end) where
  pub front_at : first_entry old + front_len old i ≡ at
  front_at = let a = low form old i at behind end h in let e = h.is_at in omega arith

  pub front_behind : first_entry old + front_len old (suc i) ≡ behind
  front_behind = let a = low form old i at behind end h in let b = order form old i at behind end h in let e = h.is_behind in omega arith

  module _ (new entry : List ℕ) (sp : Splices old new at at end entry) (room : at + length entry + (end - at) ≤ room_end old)
      (one : IsTrue (is_one_entry form (has_children old) entry)) (keeps : KeepsHeader old new) where
    pub inserted_len : (said : Node) → node_in form old ≡ Some said → entries_len new (with_entry_at said i (entry_in entry)) ≡
        entries_len old said + length entry
    inserted_len said is =
        let a = put_len form old new h.right h.count h.each h.last at at end entry sp room i h.within h.is_at i h.within h.is_at
        h.is_end one
        (with_entry_at said i (entry_in entry)) (inserted_ok form old i at behind end h new entry sp room one said is) in
        let b = entries_len-is form old i at behind end h said is in
        let f = keeps_first old new keeps in
        let c = order form old i at behind end h in let d = inside form old i at behind end h in
        omega arith

  module _ (new : List ℕ) (first_at : ℕ) (is_first : first_at ≡ first_entry old) (sp : Splices old new first_at behind end [])
      (room : first_at + 0 + (end - behind) ≤ room_end old) (inner : i < h.count) (keeps : KeepsHeader old new) where
    pub right_len : (said : Node) → node_in form old ≡ Some said → entries_len new (right_of i said) + front_len old (suc i) ≡
        entries_len old said
    right_len said is =
        let a = closed_len form old new h.right h.count h.each h.last first_at behind end [] sp room 0 (omega arith) is_first (suc i)
        (omega arith) h.is_behind h.is_end refl
        (right_of i said) (right_ok form old i at behind end h new first_at is_first sp room inner said is) in
        let b = entries_len-is form old i at behind end h said is in
        let f = keeps_first old new keeps in
        let g = front_behind in
        let d = inside form old i at behind end h in
        omega arith

-- The entries of another node in front.
module _ (form : NodeForm) (old other : List ℕ) (at behind end : ℕ) (h : HasSpan form old 0 at behind end)
    (i at' behind' end' start : ℕ) (k : HasSpan form other i at' behind' end') (is_start : start ≡ first_entry other)
    (same : has_children old ≡ has_children other) (new : List ℕ) (sp : Splices old new at at end (slice_range other start at'))
    (room : at + length (slice_range other start at') + (end - at) ≤ room_end old) (keeps : KeepsHeader old new) where
  pub fronted_len : (said from : Node) → node_in form old ≡ Some said → node_in form other ≡ Some from
      → entries_len new (record { entries = take i from.entries ++ said.entries; last = said.last }) ≡ entries_len old said + front_len
      other i
  fronted_len said from e f =
      let a = front_size form old other at behind end h i at' behind' end' start k is_start same new sp room said from e f in
      let b = entries_len-is form old 0 at behind end h said e in
      let g = keeps_first old new keeps in
      let c = order form old 0 at behind end h in let d = inside form old 0 at behind end h in
      let l = low form other i at' behind' end' k in
      let w = at_within form other i at' behind' end' k in
      let x = k.is_at in
      let n : length (slice_range other start at') ≡ at' - start =
      ap (λ x. length (slice_range other start x)) {x = at'} {y = start + (at' - start)} (omega arith) ∙ length_within other start (at'
      - start) (omega arith) in
      omega arith

-- why bytes do not fit
pub lacks_more : (form : NodeForm) (node : List ℕ) (len : ℕ) (no : NodeNo) → LacksRoomFor form node len no → (said : Node) → node_in
    form node ≡ Some said
    → room_len node < entries_len node said + len
lacks_more form node len (Shape at) lacks said is = absurd lacks
lacks_more form node len (Full need free) lacks said is = let a = lacks.0 in let b = lacks.1 in let c = lacks.2 said is in omega
    (arith, a, b, c)

pub child_most : (b : Bool) → child_len b ≤ 8
child_most true = omega arith
child_most false = omega arith

-- Entries are multiples of eight bytes.
eights : (node : List ℕ) (at n : ℕ) → ((i : ℕ) → i < n → entry_len node (entry_place node at i) % 8 ≡ 0) → (q : ℕ) × (entry_place node
    at n ≡ at + 8 * q)
eights node at zero each = (0, omega arith)
eights node at (suc n) each =
    let more = eights node (at + entry_len node at) n (λ i lt. each (suc i) (omega arith)) in
    let m = each 0 (omega arith) in
    (entry_len node at / 8 + more.0, let e = more.1 in omega (arith, e, m))

module _ (form : NodeForm) (node : List ℕ) (i at behind end : ℕ) (h : HasSpan form node i at behind end) where
  -- An opened record has nine numbers in its array, so its entries take 4,032 bytes at most.
  pub opened_len : (own : ℕ) → IsOpened own node → (said : Node) → node_in form node ≡ Some said → entries_len node said ≤ 4032
  opened_len own opened said is =
      let array : has_array node (first_entry node) ≡ true = right_array node h.right opened.len in
      let parts = and_parts array in
      let a = leb-true 0x28 (array_place node) parts.0 in
      let b = leb-true (array_end node) (first_entry node) parts.1 in
      let count = opened.array.count in
      let len = opened.len in
      let r = room_ends form node i at behind end h in
      let e = (ends node h.right).1 in
      let s = entries_len-is form node i at behind end h said is in
      let q = eights node (first_entry node) (suc h.count) each in
      let p = q.1 in
      let f = h.is_end in
      let nine : 9 ≡ length node / 512 + 1 = ap (λ n. n / 512 + 1) (sym len) in
      omega arith
    where
      and_parts : {a b : Bool} → (a && b) ≡ true → (a ≡ true) × (b ≡ true)
      and_parts e = search rules

      each : (k : ℕ) → k < suc h.count → entry_len node (entry_place node (first_entry node) k) % 8 ≡ 0
      each k lt = (place_whole form node (has_children node) (entries_end node) (first_entry node) h.count h.each h.last k (omega
          arith)).multiple

  -- A value of an $INDEX_ROOT has 32 bytes before its entries.
  pub root_len : length node ≢ 4096 → (said : Node) → node_in form node ≡ Some said → entries_len node said + 32 ≤ length node
  root_len ne said is =
      let r = room_ends form node i at behind end h in
      let e = (ends node h.right).1 in
      let s = entries_len-is form node i at behind end h said is in
      let b = begins node h.right in
      let l = header_low node in
      omega arith

  pub node_enough : 0x20 ≤ length node
  node_enough =
      let r = room_ends form node i at behind end h in
      let e = (ends node h.right).1 in
      let b = begins node h.right in
      let l = header_low node in
      let a = low form node i at behind end h in
      let o = order form node i at behind end h in
      let d = inside form node i at behind end h in
      omega arith

  pub room_most : (said : Node) → node_in form node ≡ Some said → entries_len node said ≤ room_len node
  room_most said is =
      let r = room_ends form node i at behind end h in
      let s = entries_len-is form node i at behind end h said is in
      omega arith

  -- the last entry takes the bytes of its header at least, and of its child's number
  pub last_room : (said : Node) → node_in form node ≡ Some said
      → front_len node (length said.entries) + (16 + child_len (has_children node)) ≤ entries_len node said
  last_room said is =
      let s = entries_len-is form node i at behind end h said is in
      let n = count_said form node i at behind end h said is in
      let e : front_len node (length said.entries) ≡ front_len node h.count = ap (front_len node) n in
      let w = place_whole form node (has_children node) (entries_end node) (first_entry node) h.count h.each h.last h.count (omega arith) in
      let b = entry_place-next node (first_entry node) h.count in
      let c = place_low node (first_entry node) h.count in
      let f = h.is_end in
      omega (arith, w.holds, e, s, b, c, f)

  -- the middle of the entries, by the place behind entry i
  pub some_len : at + 16 ≤ behind
  some_len =
      let w = place_whole form node (has_children node) (entries_end node) (first_entry node) h.count h.each h.last i h.within in
      let n = entry_place-next node (first_entry node) i in
      let a = h.is_at in let b = h.is_behind in
      omega (arith, w.holds)

  pub before_first : i ≡ 0 → (said : Node) → node_in form node ≡ Some said → 2 * front_len node 0 < entries_len node said
  before_first e said is =
      let s = entries_len-is form node i at behind end h said is in
      let l = some_len in
      let d = inside form node i at behind end h in
      let b = low form node i at behind end h in
      omega arith

  pub upto_half : (first : ℕ) → first ≡ first_entry node → end - behind ≤ behind - first → (said : Node) → node_in form node ≡ Some said
      → entries_len node said ≤ 2 * front_len node (suc i)
  upto_half first e le said is =
      let s = entries_len-is form node i at behind end h said is in
      let g = front_behind form node i at behind end h in
      let d = inside form node i at behind end h in
      omega arith

  pub below_half : (first : ℕ) → first ≡ first_entry node → behind - first < end - behind → (said : Node) → node_in form node ≡ Some said
      → 2 * front_len node (suc i) < entries_len node said
  below_half first e lt said is =
      let s = entries_len-is form node i at behind end h said is in
      let g = front_behind form node i at behind end h in
      omega arith

  -- no entry of a short node is longer than an entry in an index may be, the last one neither
  pub long_at : (said : Node) → short_node form node ≡ Some said → (k : ℕ) → k ≤ length said.entries
      → front_len node (suc k) ≤ front_len node k + most_len (has_children node)
  long_at said short k le =
      let s = short_said form node i at behind end h said short in
      let n = count_said form node i at behind end h said s.0 in
      let a = short_at node (most_len (has_children node)) (first_entry node) h.count k (omega arith) s.1 in
      let b = entry_place-next node (first_entry node) k in
      let c = place_low node (first_entry node) k in
      omega arith

-- A standard record that has no room for an entry more has a middle entry, and each of its parts has room for the entry.
use Rattle.std.proofs.Common.{◌≡◌, ℕ, zero, suc, ◌+◌, ◌<◌, ◌≤◌, List, Some, Bool, true, false, length, refl, sym, ap, subst, ◌∙◌, arith}
use Rattle.std.specs.Prelude.{IsTrue, slice_index_or}
use Rattle.ntfs_def.specs.Node.{Entry, Node, entries_end, entry_at, entry_place, first_entry, has_children, item_in, is_one_entry}
use Rattle.ntfs_def.specs.Node.{most_len, node_in, short_node}
use Rattle.ntfs_def.specs.declared.index.NodeForm.{NodeForm}
use Rattle.index_node.specs.Edit.{IsHalf, IsMiddle, LacksMiddle, entries_len, front_len, item_len}
use Rattle.index_node.specs.LayOut.{room_len}
use Rattle.index_node.proofs.FoundLaws.{has_first}
use Rattle.index_node.proofs.LenLaws.{long_at, room_most}
use Rattle.index_node.proofs.NodeLaws.{entry_place-next, get_or-entries_from, place_whole}
use Rattle.index_node.proofs.ReplaceLaws.{item_len-at, item_len-one}
use Rattle.index_node.proofs.SpanLaws.{count_said, place_low}
use Rattle.index_node.proofs.SplitLaws.{inner_of, short_in}
use Rattle.index_node.proofs.SpliceLaws.{ends, said_facts}

pub most_most : (b : Bool) → most_len b ≤ 640
most_most true = omega arith
most_most false = omega arith

module _ (form : NodeForm) (node : List ℕ) (said : Node) (short : short_node form node ≡ Some said) where
  is : node_in form node ≡ Some said
  is = short_in form node said short

  -- no entry is longer than 640 bytes
  pub step : (k : ℕ) → k ≤ length said.entries → front_len node (suc k) ≤ front_len node k + 640
  step k le =
      let f = has_first form node said is in
      let a = long_at form node 0 (first_entry node) f.behind f.end f.span said short k le in
      let b = most_most (has_children node) in
      omega arith

  all_front : front_len node (suc (length said.entries)) ≡ entries_len node said
  all_front = refl

  -- as many bytes as a half has hold a key
  pub has_key : 1024 ≤ entries_len node said → 0 < length said.entries
  has_key many = go (length said.entries) refl
    where
      go : (n : ℕ) → length said.entries ≡ n → 0 < length said.entries
      go (suc n) e = omega arith
      go zero e =
          let a = step 0 (omega arith) in
          let b : front_len node (suc (length said.entries)) ≡ front_len node 1 = ap (λ k. front_len node (suc k)) e in
          let c : front_len node 0 ≡ 0 = omega arith in
          absurd (omega arith)

  module _ (len : ℕ) (fits : len ≤ 640) where
    -- crowded or not, the middle entry is there once the entries are many
    pub no_middle : 1280 ≤ entries_len node said → LacksMiddle form node → ⊥
    no_middle many none =
        let a = none said is in
        let b = step (length said.entries) (omega arith) in
        absurd (omega arith)

    module _ (m : ℕ) (mid : IsMiddle form node m) where
      inner : m < length said.entries
      inner = inner_of form node m mid.entry said is

      -- the bytes before the middle entry, and behind it
      pub left_many : 4000 ≤ entries_len node said + len → 1024 ≤ front_len node m
      left_many many =
          let a = mid.upto said is in
          let b = step m (let w = inner in omega arith) in
          omega arith

      pub right_many : 4000 ≤ entries_len node said + len → 1024 + front_len node (suc m) ≤ entries_len node said
      right_many many =
          let a = mid.before said is in
          let b = step m (let w = inner in omega arith) in
          omega arith

-- what is known of the entry in the middle
pub short_entry : (form : NodeForm) (node : List ℕ) (said : Node) (short : short_node form node ≡ Some said) (m : ℕ) (inner : m <
    length said.entries)
    (entry : List ℕ) → IsTrue (is_one_entry form (has_children node) entry) → ((d : Entry) → item_in entry ≡ (slice_index_or
    said.entries m d).item)
    → length entry ≤ most_len (has_children node)
short_entry form node said short m inner entry one item =
    let is = short_in form node said short in
    let f = has_first form node said is in
    let h = f.span in
    let n = count_said form node 0 (first_entry node) f.behind f.end h said is in
    let d = entry_at node (has_children node) 0 in
    let w = place_whole form node (has_children node) (entries_end node) (first_entry node) h.count h.each h.last m (omega arith) in
    let e0 = (ends node h.right).0 in
    let e1 = (ends node h.right).1 in
    let a = item_len-at node (has_children node) (entries_end node) (entry_place node (first_entry node) m) w (omega arith) in
    let b = item_len-one form (has_children node) entry one in
    let same : item_len (item_in entry) ≡ item_len (entry_at node (has_children node) (entry_place node (first_entry node) m)).item =
    ap item_len (item d ∙ ap (λ (x : Node). (slice_index_or x.entries m d).item) (sym (said_facts form node 0 (first_entry node)
    f.behind f.end h said is))
    ∙ ap (λ (x : Entry). x.item) (get_or-entries_from node (has_children node) (first_entry node) h.count m d (omega arith))) in
    let l = long_at form node 0 (first_entry node) f.behind f.end h said short m (omega arith) in
    let p = entry_place-next node (first_entry node) m in
    let q = place_low node (first_entry node) m in
    omega (arith, a, b, same, l, p, q)

-- a part that has so many bytes is a half
pub half_by : (form : NodeForm) (part : List ℕ) (n : Node) → node_in form part ≡ Some n → 1024 ≤ entries_len part n → IsHalf form part
half_by form part n is many = record { many = enough; key = λ said short. has_key form part said short (enough said short) }
  where
    one_node : {x y : Node} → Some x ≡ Some y → x ≡ y
    one_node e = cc

    enough : (said : Node) → short_node form part ≡ Some said → 1024 ≤ entries_len part said
    enough said short = subst (λ (x : Node). 1024 ≤ entries_len part x) (one_node (sym is ∙ short_in form part said short)) many

-- a node takes no more than its record
pub record_most : (form : NodeForm) (node : List ℕ) (said : Node) → node_in form node ≡ Some said → entries_len node said ≤ room_len node
record_most form node said is = let f = has_first form node said is in room_most form node 0 (first_entry node) f.behind f.end f.span
    said is

pub node_most : (form : NodeForm) (node : List ℕ) (said : Node) → node_in form node ≡ Some said → entries_len node said ≤ length node
node_most form node said is =
    let f = has_first form node said is in
    let e = (ends node f.span.right).1 in
    let m = record_most form node said is in
    omega arith

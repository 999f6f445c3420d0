-- An entry in place of another one that is as long.
use Rattle.std.proofs.Common.{◌≡◌, ℕ, zero, suc, ◌+◌, ◌-◌, ◌<◌, ◌≤◌, List, Some, Bool, true, length, slice_range, refl, sym, ap, ◌∙◌}
use Rattle.std.proofs.Common.{arith, insert, remove, rules}
use Rattle.std.specs.Prelude.{IsTrue, ◌&&◌, nat_le, slice_index_or}
use Rattle.std.proofs.lemmas.Bool.{leb-true}
use Rattle.list_laws.proofs.PieceLaws.{length_within}
use Rattle.ntfs_def.specs.Node.{Entry, IsWholeEntry, Node, are_short_from, child_at, child_len, entries_end, entries_from, entry_at}
use Rattle.ntfs_def.specs.Node.{entry_len, entry_place, first_entry, has_children, is_one_entry, item_at, item_in, key_len, most_len}
use Rattle.ntfs_def.specs.Node.{node_in}
use Rattle.ntfs_def.specs.declared.index.NodeForm.{NodeForm}
use Rattle.index_node.specs.Edit.{CanSplice, EditsNode, EditsShort, HasEntry, HasSpan, Splices, entry_in, item_len, replaced}
use Rattle.index_node.specs.LayOut.{KeepsHeader}
use Rattle.index_node.specs.Pieces.{EditsPieces}
use Rattle.index_node.proofs.EditedPieces.{other_pieces}
use Rattle.index_node.proofs.NodeLaws.{entry_place-next, get_or-entries_from, place_whole}
use Rattle.index_node.proofs.LeadLaws.{is_one}
use Rattle.index_node.proofs.PieceLaws.{put_over}
use Rattle.index_node.proofs.SpanLaws.{inner_in, inside, low, order, room_ends}
use Rattle.index_node.proofs.SpliceLaws.{edits_node, edits_pieces, edits_short, ends, entry_in-is, put_node, put_pieces, put_said}
use Rattle.index_node.proofs.SpliceLaws.{put_short, said_now, spliced_children, spliced_keeps}

-- what is known of one entry's length by its item
pub item_len-at : (node : List ℕ) (children : Bool) (end at : ℕ) → IsWholeEntry node children end at → end ≤ length node
    → item_len (item_at node children at) + child_len children ≡ entry_len node at
unfolding item_at
item_len-at node children end at w inside =
    let h = w.holds in
    let i = w.inside in
    let key : length (slice_range node (at + 16) (at + 16 + key_len node at)) ≡ key_len node at = length_within node (at + 16) (key_len
    node at) (omega arith) in
    let rest : length (slice_range node (at + 16 + key_len node at) (at + entry_len node at - child_len children)) ≡ entry_len node at
    - child_len children - (16 + key_len node at) =
    ap (λ x. length (slice_range node (at + 16 + key_len node at) x)) {x = at + entry_len node at - child_len children}
    {y = at + 16 + key_len node at + (entry_len node at - child_len children - (16 + key_len node at))} (omega arith)
    ∙ length_within node (at + 16 + key_len node at) (entry_len node at - child_len children - (16 + key_len node at)) (omega arith) in
    omega (arith, key, rest)

pub item_len-one : (form : NodeForm) (children : Bool) (entry : List ℕ) → IsTrue (is_one_entry form children entry)
    → item_len (item_in entry) + child_len children ≡ length entry
item_len-one form children entry one =
    let o = is_one form children entry one in
    ap (λ (e : Entry). item_len e.item + child_len children) (entry_in-is form children entry one)
    ∙ item_len-at entry children (length entry) 0 o.whole (omega arith)
    ∙ o.len

-- no entry of a node whose entries are short is longer
pub short_at : (node : List ℕ) (most at n i : ℕ) → i ≤ n → are_short_from node most at n ≡ true → entry_len node (entry_place node at
    i) ≤ most
short_at node most at zero zero h short = leb-true (entry_len node at) most short
short_at node most at zero (suc i) h short = absurd (omega arith)
short_at node most at (suc n) zero h short = leb-true (entry_len node at) most (left (nat_le (entry_len node at) most) (are_short_from
    node most (at + entry_len node at) n) short)
  where
    left : (a b : Bool) → (a && b) ≡ true → a ≡ true
    left a b e = search rules
short_at node most at (suc n) (suc i) h short =
    short_at node most (at + entry_len node at) n i (omega arith) (right (nat_le (entry_len node at) most) (are_short_from node most
    (at + entry_len node at) n) short)
  where
    right : (a b : Bool) → (a && b) ≡ true → b ≡ true
    right a b e = search rules

module _ (form : NodeForm) (old : List ℕ) (i at behind end : ℕ) (h : HasSpan form old i at behind end) (entry : List ℕ)
    (one : IsTrue (is_one_entry form (has_children old) entry)) (has : HasEntry form old i)
    (alike : (said : Node) → node_in form old ≡ Some said → (d : Entry) → item_len (slice_index_or said.entries i d).item ≡ item_len
    (item_in entry)) where
  inner : i < h.count
  inner = inner_in form old i at behind end h has

  here : IsWholeEntry old (has_children old) (entries_end old) (entry_place old (first_entry old) i)
  here = place_whole form old (has_children old) (entries_end old) (first_entry old) h.count h.each h.last i h.within

  -- the entry is as long as the one that it replaces
  pub as_long : at + length entry ≡ behind
  as_long =
      let e = ends old h.right in let e0 = e.0 in let e1 = e.1 in
      let there : (said_now form old i at behind end h).entries ≡ entries_from old (has_children old) (first_entry old) h.count = refl in
      let d = entry_at old (has_children old) 0 in
      let same : item_len (item_at old (has_children old) (entry_place old (first_entry old) i)) ≡ item_len (item_in entry) =
      ap (λ (x : Entry). item_len x.item) (sym (get_or-entries_from old (has_children old) (first_entry old) h.count i d inner))
      ∙ alike (said_now form old i at behind end h) h.said d in
      let a = item_len-at old (has_children old) (entries_end old) (entry_place old (first_entry old) i) here (omega arith) in
      let b = item_len-one form (has_children old) entry one in
      let n = entry_place-next old (first_entry old) i in
      let p = h.is_at in let q = h.is_behind in
      omega (arith, same, a, b)

  pub can_replace : CanSplice old at behind end (length entry)
  can_replace =
      let a = low form old i at behind end h in let b = order form old i at behind end h in let d = inside form old i at behind end h in
      let r = room_ends form old i at behind end h in let l = as_long in
      record { right = h.right; low = a; order = b; inside = d; room = r; fits = omega arith }

  module _ (new : List ℕ) (sp : Splices old new at behind end entry) where
    replaced_is : put_said form old new h.right h.count h.each h.last at behind end entry sp can_replace.fits i h.within h.is_at (suc
        i) (omega (arith, inner)) h.is_behind h.is_end one
        ≡ replaced (said_now form old i at behind end h) i (entry_in entry)
    replaced_is = ap (λ es. let m : Node = record {
      entries = es;
      last = child_at old (has_children old) (entry_place old (first_entry
          old) h.count);
    } in m)
        (sym (put_over old (has_children old) (first_entry old) h.count i (entry_in entry) inner))

    pub replaced_node : EditsNode form old new (λ said. replaced said i (entry_in entry))
    replaced_node = edits_node form old i at behind end h new (λ said. replaced said i (entry_in entry)) _ replaced_is
        (put_node form old new h.right h.count h.each h.last at behind end entry sp can_replace.fits i h.within h.is_at (suc i) (omega
        (arith, inner)) h.is_behind h.is_end one)

    pub replaced_short : EditsShort form old new (λ said. replaced said i (entry_in entry))
    replaced_short = edits_short form old i at behind end h new (λ said. replaced said i (entry_in entry)) _ replaced_is
        (λ short. put_short form old new h.right h.count h.each h.last at behind end entry sp can_replace.fits i h.within h.is_at (suc
        i) (omega (arith, inner)) h.is_behind h.is_end one short (fits short))
      where
        fits : are_short_from old (most_len (has_children old)) (first_entry old) h.count ≡ true → length entry ≤ most_len
            (has_children old)
        fits short =
            let l = as_long in
            let s = short_at old (most_len (has_children old)) (first_entry old) h.count i h.within short in
            let n = entry_place-next old (first_entry old) i in
            let p = h.is_at in let q = h.is_behind in
            omega arith

    pub replaced_pieces : EditsPieces form old new (λ before now. now ≡ insert (remove before i) i entry)
    replaced_pieces = edits_pieces form old i at behind end h new (λ before now. now ≡ insert (remove before i) i entry) _
        (put_pieces form old new h.right h.count h.each h.last at behind end entry sp can_replace.fits i h.within h.is_at (suc i) (omega
        (arith, inner)) h.is_behind h.is_end one)
        (sym (other_pieces old (first_entry old) h.count i entry inner))

    pub replaced_children : has_children new ≡ has_children old
    replaced_children = spliced_children form old new h.right h.count h.each h.last at behind end entry sp can_replace.fits i h.within
        h.is_at

    pub replaced_keeps : KeepsHeader old new
    replaced_keeps = spliced_keeps form old new h.right h.count h.each h.last at behind end entry sp can_replace.fits i h.within h.is_at

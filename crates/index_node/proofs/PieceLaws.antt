-- A node in pieces: its entries as they stand in it, one behind the other, and the last one.
use Rattle.std.proofs.Common.{◌≡◌, ℕ, zero, suc, ◌+◌, ◌-◌, ◌<◌, ◌≤◌, ◌==◌, ◌/◌, ◌%◌, List, [], ◌∷◌, ◌++◌, Bool, true, length, take}
use Rattle.std.proofs.Common.{drop, insert, remove, slice_range, refl, sym, ap, subst, ◌∙◌, arith, rules}
use Rattle.std.specs.Prelude.{All, IsTrue, ◌&&◌, nat_le}
use Rattle.std.proofs.lemmas.Bool.{leb-true}
use Rattle.std.proofs.lemmas.List.Elements.{All-nil, All-cons, All-head, All-tail}
use Rattle.std.proofs.lemmas.List.Sums.{sum_by-cons}
use Rattle.ntfs_def.specs.Node.{Entry, Node, HasEntries, IsWholeEntry, are_short_from, child_at, child_len, entries_from, entry_at}
use Rattle.ntfs_def.specs.Node.{entry_flags, entry_len, entry_place, is_last_entry, is_one_entry, is_one_last, key_len}
use Rattle.ntfs_def.specs.IndexTree.{Each}
use Rattle.ntfs_def.specs.declared.index.NodeForm.{NodeForm}
use Rattle.list_laws.proofs.PieceLaws.{length_within}
use Rattle.index_node.specs.LayOut.{AreEntries, HoldsPieces, node_listed, total_len, with_entry}
use Rattle.index_node.specs.Pieces.{piece_at, pieces_from}
use Rattle.index_node.proofs.NodeLaws.{entry_whole, last_whole, last_flag, whole_is, entry-own, u16_within}
use Rattle.index_node.proofs.LayOutLaws.{child_moved, item_moved, entry_facts, last_facts, sixteen_of, entry_eq, len_same}

-- so many entries from a place on, without the last one
abbrev pub pieces_before : List ℕ → ℕ → ℕ → List (List ℕ)
pieces_before node at zero = []
pieces_before node at (suc n) = piece_at node at ∷ pieces_before node (at + entry_len node at) n

-- each of them is an entry with a key
abbrev pub AreKeyed : NodeForm → Bool → List (List ℕ) → Type 0
AreKeyed form children = Each (λ (piece : List ℕ). IsTrue (is_one_entry form children piece))

-- what they say
abbrev pub entries_said : Bool → List (List ℕ) → List Entry
entries_said children [] = []
entries_said children (piece ∷ pieces) = entry_at piece children 0 ∷ entries_said children pieces

-- Pieces in lists.

pub AreEntries-cons : (form : NodeForm) (children : Bool) (piece : List ℕ) (pieces : List (List ℕ)) → IsTrue (is_one_entry form
    children piece)
    → AreEntries form children pieces → AreEntries form children (piece ∷ pieces)
AreEntries-cons form children piece [] one h = absurd h
AreEntries-cons form children piece (next ∷ pieces) one h = (one, h)

pub AreEntries-++ : (form : NodeForm) (children : Bool) (front pieces : List (List ℕ)) → AreKeyed form children front
    → AreEntries form children pieces → AreEntries form children (front ++ pieces)
AreEntries-++ form children [] pieces keyed h = h
AreEntries-++ form children (piece ∷ front) pieces keyed h =
    AreEntries-cons form children piece (front ++ pieces) keyed.0 (AreEntries-++ form children front pieces keyed.1 h)

pub listed-cons : (form : NodeForm) (children : Bool) (piece : List ℕ) (pieces : List (List ℕ)) → AreEntries form children pieces
    → node_listed children (piece ∷ pieces) ≡ with_entry (entry_at piece children 0) (node_listed children pieces)
listed-cons form children piece [] h = absurd h
listed-cons form children piece (next ∷ pieces) h = refl

pub listed-++ : (form : NodeForm) (children : Bool) (front pieces : List (List ℕ)) → AreKeyed form children front
    → AreEntries form children pieces
    → node_listed children (front ++ pieces)
    ≡ record { entries = entries_said children front ++ (node_listed children pieces).entries; last = (node_listed children pieces).last }
listed-++ form children [] pieces keyed h = refl
listed-++ form children (piece ∷ front) pieces keyed h =
    listed-cons form children piece (front ++ pieces) (AreEntries-++ form children front pieces keyed.1 h)
    ∙ ap (with_entry (entry_at piece children 0)) (listed-++ form children front pieces keyed.1 h)

pub total-++ : (xs ys : List (List ℕ)) → total_len (xs ++ ys) ≡ total_len xs + total_len ys
total-++ [] ys = omega arith
total-++ (x ∷ xs) ys =
    let a = sum_by-cons length x (xs ++ ys) in
    let b = sum_by-cons length x xs in
    let c = total-++ xs ys in
    omega arith

pub Holds-++ : (node : List ℕ) (at : ℕ) (xs ys : List (List ℕ)) → HoldsPieces node at xs → HoldsPieces node (at + total_len xs) ys
    → HoldsPieces node at (xs ++ ys)
Holds-++ node at [] ys h k = subst (λ p. HoldsPieces node p ys) (omega arith) k
Holds-++ node at (x ∷ xs) ys h k =
    let a = sum_by-cons length x xs in
    (h.0, Holds-++ node (at + length x) xs ys h.1 (subst (λ p. HoldsPieces node p ys) (omega arith) k))

pub All-++ : (P : List ℕ → Type 0) (xs ys : List (List ℕ)) → All P xs → All P ys → All P (xs ++ ys)
All-++ P [] ys h k = k
All-++ P (x ∷ xs) ys h k = All-cons P x (xs ++ ys) (All-head P x xs h) (All-++ P xs ys (All-tail P x xs h) k)

-- the places behind a place
pub place-place : (node : List ℕ) (at i k : ℕ) → entry_place node (entry_place node at i) k ≡ entry_place node at (i + k)
place-place node at zero k = ap (entry_place node at) {x = k} {y = 0 + k} (omega arith)
place-place node at (suc i) k = place-place node (at + entry_len node at) i k ∙ ap (entry_place node at) {x = suc (i + k)} {y = suc i +
    k} (omega arith)

-- where they end, by the places of the node that holds them
pub pieces_place : (form : NodeForm) (children : Bool) (node : List ℕ) (at : ℕ) (pieces : List (List ℕ)) → AreEntries form children pieces
    → HoldsPieces node at pieces → entry_place node at (suc (length (node_listed children pieces).entries)) ≡ at + total_len pieces
pieces_place form children node at [] are holds = absurd are
pieces_place form children node at (piece ∷ []) are holds =
    let facts = last_facts children piece are in
    let len = len_same node piece at holds.0 (sixteen_of (child_len children) (length piece) facts.1) in
    let size = facts.0 in
    let sum = sum_by-cons length piece [] in
    omega arith
pieces_place form children node at (piece ∷ next ∷ pieces) are holds =
    let facts = entry_facts form children piece are.0 in
    let len = len_same node piece at holds.0 (sixteen_of (child_len children) (length piece) facts.1) in
    let size = facts.0 in
    let sum = sum_by-cons length piece (next ∷ pieces) in
    let there : at + entry_len node at ≡ at + length piece = omega arith in
    ap (λ a. entry_place node a (suc (length (node_listed children (next ∷ pieces)).entries))) there
    ∙ pieces_place form children node (at + length piece) (next ∷ pieces) are.1 holds.1
    ∙ omega arith

-- The last entry cut out of its node is a last entry.
last-own : (node : List ℕ) (children : Bool) (end at : ℕ) → IsTrue (is_last_entry node children end at) → end ≤ length node
    → IsTrue (is_one_last children (piece_at node at))
unfolding is_last_entry
last-own node children end at is inside =
    let w = last_whole node children end at is in
    let len = entry_len node at in
    let own = slice_range node at (at + len) in
    let flags : entry_flags own 0 ≡ entry_flags node at = u16_within node at len 0x0C (omega (arith, w.holds)) in
    let key : key_len own 0 ≡ key_len node at = u16_within node at len 0x0A (omega (arith, w.holds)) in
    let all : entry_len own 0 ≡ len = u16_within node at len 0x08 (omega (arith, w.holds)) in
    let size : length own ≡ len = length_within node at len (omega (arith, w.inside)) in
    let none : key_len node at ≡ 0 = no_key node at is in
    five
    (whole_is own children (length own) 0 (record {
      header = omega (arith, size, w.holds);
      multiple = ap (λ n. n % 8) all ∙ w.multiple;
      holds = omega (arith, key, all, w.holds);
      inside = omega (arith, all, size);
      flag = ap (λ f. f % 2) flags ∙ w.flag;
    }))
    (ap (λ f. f / 2 % 2 == 1) flags ∙ ap (λ n. n == 1) (last_flag node children end at is))
    (ap (λ n. n == 0) (key ∙ none))
    (same_length (entry_len own 0) (length own) (all ∙ sym size))
  where
    no_key : (node : List ℕ) (at : ℕ) → IsTrue (is_last_entry node children end at) → key_len node at ≡ 0
    no_key node at is = search rules

    five : {a b c d : Bool} → a ≡ true → b ≡ true → c ≡ true → d ≡ true → ((a && b && c) && d) ≡ true
    five h i j k = rw (h, i, j, k)

    same_length : (n m : ℕ) → n ≡ m → (n == m) ≡ true
    same_length n m e = search rules

-- Of a node that holds so many entries from a place on, and the last one behind them.
module _ (form : NodeForm) (node : List ℕ) (children : Bool) (end : ℕ) (inside : end ≤ length node) where
  piece_size : (at : ℕ) → IsWholeEntry node children end at → length (piece_at node at) ≡ entry_len node at
  piece_size at w = length_within node at (entry_len node at) (omega (arith, w.inside))

  piece_holds : (at : ℕ) → IsWholeEntry node children end at → slice_range node at (at + length (piece_at node at)) ≡ piece_at node at
  piece_holds at w = ap (λ n. slice_range node at (at + n)) (piece_size at w)

  piece_said : (at : ℕ) → IsWholeEntry node children end at → entry_len (piece_at node at) 0 ≡ length (piece_at node at)
      → 16 + child_len children ≤ length (piece_at node at)
      → entry_at (piece_at node at) children 0 ≡ entry_at node children at
  piece_said at w len long =
      entry_eq (sym (item_moved node (piece_at node at) at (piece_holds at w) children end (sixteen_of (child_len children) (length
      (piece_at node at)) long) w len))
      (sym (child_moved node (piece_at node at) at (piece_holds at w) children long len))

  -- what holds behind the first entry
  each-next : (at n : ℕ) → HasEntries form node children end at (suc n) → HasEntries form node children end (at + entry_len node at) n
  each-next at n each i lt = each (suc i) (omega arith)

  pub before_keyed : (at n : ℕ) → HasEntries form node children end at n → AreKeyed form children (pieces_before node at n)
  before_keyed at zero each = tt
  before_keyed at (suc n) each =
      (entry-own form node children end at (each 0 (omega arith)) inside, before_keyed (at + entry_len node at) n (each-next at n each))

  pub before_total : (at n : ℕ) → HasEntries form node children end at n → at + total_len (pieces_before node at n) ≡ entry_place node at n
  before_total at zero each = omega arith
  before_total at (suc n) each =
      let size = piece_size at (entry_whole form node children end at (each 0 (omega arith))) in
      let sum = sum_by-cons length (piece_at node at) (pieces_before node (at + entry_len node at) n) in
      let more = before_total (at + entry_len node at) n (each-next at n each) in
      omega arith

  pub before_holds : (at n : ℕ) → HasEntries form node children end at n → HoldsPieces node at (pieces_before node at n)
  before_holds at zero each = tt
  before_holds at (suc n) each =
      let w = entry_whole form node children end at (each 0 (omega arith)) in (
        piece_holds at w,
        subst (λ k. HoldsPieces node (at + k) (pieces_before node (at + entry_len node at) n)) (sym (piece_size at w))
            (before_holds (at + entry_len node at) n (each-next at n each)),
      )

  pub before_said : (at n : ℕ) → HasEntries form node children end at n
      → entries_said children (pieces_before node at n) ≡ entries_from node children at n
  before_said at zero each = refl
  before_said at (suc n) each =
      let facts = entry_facts form children (piece_at node at) (entry-own form node children end at (each 0 (omega arith)) inside) in
      ap (λ e. e ∷ entries_said children (pieces_before node (at + entry_len node at) n))
      (piece_said at (entry_whole form node children end at (each 0 (omega arith))) facts.0 facts.1)
      ∙ ap (λ es. entry_at node children at ∷ es) (before_said (at + entry_len node at) n (each-next at n each))

  pub from_entries : (at n : ℕ) → HasEntries form node children end at n → IsTrue (is_last_entry node children end (entry_place node at n))
      → AreEntries form children (pieces_from node at n)
  from_entries at zero each last = last-own node children end at last inside
  from_entries at (suc n) each last =
      AreEntries-cons form children (piece_at node at) (pieces_from node (at + entry_len node at) n)
      (entry-own form node children end at (each 0 (omega arith)) inside)
      (from_entries (at + entry_len node at) n (each-next at n each) last)

  pub from_total : (at n : ℕ) → HasEntries form node children end at n → IsTrue (is_last_entry node children end (entry_place node at n))
      → at + total_len (pieces_from node at n) ≡ entry_place node at (suc n)
  from_total at zero each last =
      let size = piece_size at (last_whole node children end at last) in
      let sum = sum_by-cons length (piece_at node at) [] in
      omega arith
  from_total at (suc n) each last =
      let size = piece_size at (entry_whole form node children end at (each 0 (omega arith))) in
      let sum = sum_by-cons length (piece_at node at) (pieces_from node (at + entry_len node at) n) in
      let more = from_total (at + entry_len node at) n (each-next at n each) last in
      omega arith

  pub from_holds : (at n : ℕ) → HasEntries form node children end at n → IsTrue (is_last_entry node children end (entry_place node at n))
      → HoldsPieces node at (pieces_from node at n)
  from_holds at zero each last = (piece_holds at (last_whole node children end at last), tt)
  from_holds at (suc n) each last =
      let w = entry_whole form node children end at (each 0 (omega arith)) in (
        piece_holds at w,
        subst (λ k. HoldsPieces node (at + k) (pieces_from node (at + entry_len node at) n)) (sym (piece_size at w))
            (from_holds (at + entry_len node at) n (each-next at n each) last),
      )

  pub from_said : (at n : ℕ) → HasEntries form node children end at n → IsTrue (is_last_entry node children end (entry_place node at n))
      → node_listed children (pieces_from node at n)
      ≡ record { entries = entries_from node children at n; last = child_at node children (entry_place node at n) }
  from_said at zero each last =
      let facts = last_facts children (piece_at node at) (last-own node children end at last inside) in
      ap (λ c. let m : Node = record { entries = []; last = c } in m)
      (sym (child_moved node (piece_at node at) at (piece_holds at (last_whole node children end at last)) children facts.1 facts.0))
  from_said at (suc n) each last =
      let facts = entry_facts form children (piece_at node at) (entry-own form node children end at (each 0 (omega arith)) inside) in
      listed-cons form children (piece_at node at) (pieces_from node (at + entry_len node at) n)
      (from_entries (at + entry_len node at) n (each-next at n each) last)
      ∙ ap (λ e. with_entry e (node_listed children (pieces_from node (at + entry_len node at) n)))
      (piece_said at (entry_whole form node children end at (each 0 (omega arith))) facts.0 facts.1)
      ∙ ap (with_entry (entry_at node children at)) (from_said (at + entry_len node at) n (each-next at n each) last)

  pub before_short : (most at n i : ℕ) → HasEntries form node children end at n → i ≤ n → are_short_from node most at n ≡ true
      → All (λ piece. length piece ≤ most) (pieces_before node at i)
  before_short most at n zero each within short = All-nil (λ piece. length piece ≤ most)
  before_short most at zero (suc i) each within short = absurd (omega arith)
  before_short most at (suc n) (suc i) each within short =
      let size = piece_size at (entry_whole form node children end at (each 0 (omega arith))) in
      let parts = both (nat_le (entry_len node at) most) (are_short_from node most (at + entry_len node at) n) short in
      let le = leb-true (entry_len node at) most parts.0 in
      All-cons (λ piece. length piece ≤ most) (piece_at node at) (pieces_before node (at + entry_len node at) i) (omega arith)
      (before_short most (at + entry_len node at) n i (each-next at n each) (omega arith) parts.1)
    where
      both : (a b : Bool) → (a && b) ≡ true → (a ≡ true) × (b ≡ true)
      both a b h = search rules

  pub from_short : (most at n : ℕ) → HasEntries form node children end at n → IsTrue (is_last_entry node children end (entry_place node
      at n))
      → are_short_from node most at n ≡ true → All (λ piece. length piece ≤ most) (pieces_from node at n)
  from_short most at zero each last short =
      let size = piece_size at (last_whole node children end at last) in
      let le = leb-true (entry_len node at) most short in
      All-cons (λ piece. length piece ≤ most) (piece_at node at) [] (omega arith) (All-nil (λ piece. length piece ≤ most))
  from_short most at (suc n) each last short =
      let size = piece_size at (entry_whole form node children end at (each 0 (omega arith))) in
      let parts = both (nat_le (entry_len node at) most) (are_short_from node most (at + entry_len node at) n) short in
      let le = leb-true (entry_len node at) most parts.0 in
      All-cons (λ piece. length piece ≤ most) (piece_at node at) (pieces_from node (at + entry_len node at) n) (omega arith)
      (from_short most (at + entry_len node at) n (each-next at n each) last parts.1)
    where
      both : (a b : Bool) → (a && b) ≡ true → (a ≡ true) × (b ≡ true)
      both a b h = search rules

  pub short_behind : (most at n i : ℕ) → i ≤ n → are_short_from node most at n ≡ true
      → are_short_from node most (entry_place node at i) (n - i) ≡ true
  short_behind most at n zero within short = ap (are_short_from node most at) {x = n - 0} {y = n} (omega arith) ∙ short
  short_behind most at zero (suc i) within short = absurd (omega arith)
  short_behind most at (suc n) (suc i) within short =
      ap (are_short_from node most (entry_place node (at + entry_len node at) i)) {x = suc n - suc i} {y = n - i} (omega arith)
      ∙ short_behind most (at + entry_len node at) n i (omega arith)
      (both (nat_le (entry_len node at) most) (are_short_from node most (at + entry_len node at) n) short).1
    where
      both : (a b : Bool) → (a && b) ≡ true → (a ≡ true) × (b ≡ true)
      both a b h = search rules

-- The entries by their numbers, where one is put in or taken out.
module _ (node : List ℕ) (children : Bool) where
  pub put_in : (at n i : ℕ) (e : Entry) → i ≤ n
      → insert (entries_from node children at n) i e
      ≡ entries_from node children at i ++ e ∷ entries_from node children (entry_place node at i) (n - i)
  put_in at zero zero e h = ap (λ k. e ∷ entries_from node children at k) {x = 0} {y = 0 - 0} (omega arith)
  put_in at zero (suc i) e h = absurd (omega arith)
  put_in at (suc n) zero e h = ap (λ k. e ∷ entries_from node children at k) {x = suc n} {y = suc n - 0} (omega arith)
  put_in at (suc n) (suc i) e h =
      ap (λ es. entry_at node children at ∷ es) (put_in (at + entry_len node at) n i e (omega arith))
      ∙ ap (λ k. entry_at node children at ∷ entries_from node children (at + entry_len node at) i ++ e ∷ entries_from node children
      (entry_place node (at + entry_len node at) i) k) {x = n - i} {y = suc n - suc i} (omega arith)

  pub taken_out : (at n i : ℕ) → i < n
      → remove (entries_from node children at n) i
      ≡ entries_from node children at i ++ entries_from node children (entry_place node at (suc i)) (n - suc i)
  taken_out at zero i h = absurd (omega arith)
  taken_out at (suc n) zero h = ap (entries_from node children (at + entry_len node at)) {x = n} {y = suc n - 1} (omega arith)
  taken_out at (suc n) (suc i) h =
      ap (λ es. entry_at node children at ∷ es) (taken_out (at + entry_len node at) n i (omega arith))
      ∙ ap (λ k. entry_at node children at ∷ entries_from node children (at + entry_len node at) i ++ entries_from node children
      (entry_place node (at + entry_len node at) (suc i)) k) {x = n - suc i} {y = suc n - suc (suc i)} (omega arith)

  pub put_over : (at n i : ℕ) (e : Entry) → i < n
      → insert (remove (entries_from node children at n) i) i e
      ≡ entries_from node children at i ++ e ∷ entries_from node children (entry_place node at (suc i)) (n - suc i)
  put_over at zero i e h = absurd (omega arith)
  put_over at (suc n) zero e h = ap (λ k. e ∷ entries_from node children (at + entry_len node at) k) {x = n} {y = suc n - 1} (omega arith)
  put_over at (suc n) (suc i) e h =
      ap (λ es. entry_at node children at ∷ es) (put_over (at + entry_len node at) n i e (omega arith))
      ∙ ap (λ k. entry_at node children at ∷ entries_from node children (at + entry_len node at) i ++ e ∷ entries_from node children
      (entry_place node (at + entry_len node at) (suc i)) k) {x = n - suc i} {y = suc n - suc (suc i)} (omega arith)

  pub dropped : (at n i : ℕ) → i ≤ n → drop i (entries_from node children at n) ≡ entries_from node children (entry_place node at i) (n - i)
  dropped at n zero h = ap (entries_from node children at) {x = n} {y = n - 0} (omega arith)
  dropped at zero (suc i) h = absurd (omega arith)
  dropped at (suc n) (suc i) h =
      dropped (at + entry_len node at) n i (omega arith)
      ∙ ap (entries_from node children (entry_place node (at + entry_len node at) i)) {x = n - i} {y = suc n - suc i} (omega arith)

  pub kept : (at n i : ℕ) → i ≤ n → take i (entries_from node children at n) ≡ entries_from node children at i
  kept at n zero h = refl
  kept at zero (suc i) h = absurd (omega arith)
  kept at (suc n) (suc i) h = ap (λ es. entry_at node children at ∷ es) (kept (at + entry_len node at) n i (omega arith))

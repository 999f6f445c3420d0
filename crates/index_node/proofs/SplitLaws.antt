-- The parts of a node that gets an entry more, by where it is put in.
use Rattle.std.proofs.Common.{◌≡◌, ℕ, zero, suc, ◌+◌, ◌-◌, ◌<◌, ◌≤◌, List, [], ◌∷◌, Option, Some, None, Bool, true, false, length}
use Rattle.std.proofs.Common.{take, drop, insert, get_or, refl, sym, ap, subst, ◌∙◌, arith}
use Rattle.std.specs.Prelude.{IsTrue}
use Rattle.std.specs.Option.{option_and_then}
use Rattle.std.specs.Prelude.{if◌then◌else◌}
use Rattle.ntfs_def.specs.Node.{Entry, Node, are_short, child_from, entry_flags, has_child, is_one_entry, node_in, short_node}
use Rattle.ntfs_def.specs.declared.index.NodeForm.{NodeForm}
use Rattle.std.proofs.Common.{length-drop, ◌%◌, ◌==◌}
use Rattle.std.proofs.lemmas.List.{length-take-le}
use Rattle.index_node.proofs.LeadLaws.{is_one}
use Rattle.index_node.specs.Edit.{HasEntry, HasPlace, IsParted, child_of_node, right_of, with_entry_at}

some_same : {X : Type 0} {a b : X} → Some a ≡ Some b → a ≡ b
some_same e = cc

none_other : {X : Type 0} {a : X} → None ≡ Some a → ⊥
none_other e = cc

-- a node whose entries are short is a node
pub short_in : (form : NodeForm) (bytes : List ℕ) (n : Node) → short_node form bytes ≡ Some n → node_in form bytes ≡ Some n
short_in form bytes n h = go (node_in form bytes) refl h
  where
    pick : (b : Bool) (m : Node) → (if b then Some m else None) ≡ Some n → m ≡ n
    pick true m e = some_same e
    pick false m e = absurd (none_other e)

    go : (o : Option Node) → node_in form bytes ≡ o
        → option_and_then (λ (said : Node). if are_short bytes (length said.entries) then Some said else None) o ≡ Some n → node_in
        form bytes ≡ Some n
    go None e k = absurd (none_other k)
    go (Some m) e k = e ∙ ap (λ x. Some x) (pick (are_short bytes (length m.entries)) m k)

module _ (e : Entry) where
  -- put in front of entry m, or behind entry m - 1
  take_low : (es : List Entry) (i m : ℕ) → i ≤ m → m < length es → take (suc m) (insert es i e) ≡ insert (take m es) i e
  take_low [] i m h k = absurd (omega arith)
  take_low (x ∷ es) zero zero h k = refl
  take_low (x ∷ es) zero (suc m) h k = refl
  take_low (x ∷ es) (suc i) zero h k = absurd (omega arith)
  take_low (x ∷ es) (suc i) (suc m) h k = ap (λ xs. x ∷ xs) (take_low es i m (omega arith) (omega arith))

  drop_low : (es : List Entry) (i m : ℕ) → i ≤ m → m < length es → drop (suc (suc m)) (insert es i e) ≡ drop (suc m) es
  drop_low [] i m h k = absurd (omega arith)
  drop_low (x ∷ es) zero m h k = refl
  drop_low (x ∷ es) (suc i) zero h k = absurd (omega arith)
  drop_low (x ∷ es) (suc i) (suc m) h k = drop_low es i m (omega arith) (omega arith)

  at_low : (es : List Entry) (i m : ℕ) (d : Entry) → i ≤ m → m < length es → get_or (insert es i e) (suc m) d ≡ get_or es m d
  at_low [] i m d h k = absurd (omega arith)
  at_low (x ∷ es) zero m d h k = refl
  at_low (x ∷ es) (suc i) zero d h k = absurd (omega arith)
  at_low (x ∷ es) (suc i) (suc m) d h k = at_low es i m d (omega arith) (omega arith)

  child_low : (es : List Entry) (last : Option ℕ) (i m : ℕ) → i ≤ m → m < length es → child_from (insert es i e) last (suc m) ≡
      child_from es last m
  child_low [] last i m h k = absurd (omega arith)
  child_low (x ∷ es) last zero m h k = refl
  child_low (x ∷ es) last (suc i) zero h k = absurd (omega arith)
  child_low (x ∷ es) last (suc i) (suc m) h k = child_low es last i m (omega arith) (omega arith)

  length_low : (es : List Entry) (i : ℕ) → i ≤ length es → length (insert es i e) ≡ suc (length es)
  length_low [] zero h = refl
  length_low [] (suc i) h = absurd (omega arith)
  length_low (x ∷ es) zero h = refl
  length_low (x ∷ es) (suc i) h = ap (λ n. suc n) (length_low es i (omega arith))

  -- put in behind entry m
  take_high : (es : List Entry) (i m : ℕ) → m < i → i ≤ length es → take m (insert es i e) ≡ take m es
  take_high es zero m h k = absurd (omega arith)
  take_high [] (suc i) m h k = absurd (omega arith)
  take_high (x ∷ es) (suc i) zero h k = refl
  take_high (x ∷ es) (suc i) (suc m) h k = ap (λ xs. x ∷ xs) (take_high es i m (omega arith) (omega arith))

  drop_high : (es : List Entry) (i m j : ℕ) → i ≡ suc (m + j) → i ≤ length es → drop (suc m) (insert es i e) ≡ insert (drop (suc m) es) j e
  drop_high es zero m j h k = absurd (omega arith)
  drop_high [] (suc i) m j h k = absurd (omega arith)
  drop_high (x ∷ es) (suc i) zero j h k = ap (λ n. insert es n e) {x = i} {y = j} (omega arith)
  drop_high (x ∷ es) (suc i) (suc m) j h k = drop_high es i m j (omega arith) (omega arith)

  at_high : (es : List Entry) (i m : ℕ) (d : Entry) → m < i → i ≤ length es → get_or (insert es i e) m d ≡ get_or es m d
  at_high es zero m d h k = absurd (omega arith)
  at_high [] (suc i) m d h k = absurd (omega arith)
  at_high (x ∷ es) (suc i) zero d h k = refl
  at_high (x ∷ es) (suc i) (suc m) d h k = at_high es i m d (omega arith) (omega arith)

  child_high : (es : List Entry) (last : Option ℕ) (i m : ℕ) → m < i → i ≤ length es → child_from (insert es i e) last m ≡ child_from
      es last m
  child_high es last zero m h k = absurd (omega arith)
  child_high [] last (suc i) m h k = absurd (omega arith)
  child_high (x ∷ es) last (suc i) zero h k = refl
  child_high (x ∷ es) last (suc i) (suc m) h k = child_high es last i m (omega arith) (omega arith)

nodes_eq : {es fs : List Entry} {c d : Option ℕ} → es ≡ fs → c ≡ d → (let x : Node = record { entries = es; last = c } in x) ≡ record {
  entries = fs;
  last = d;
}
nodes_eq e f = cc

module _ (form : NodeForm) (said : Node) (m i vcn : ℕ) (inner : m < length said.entries) (within : i ≤ length said.entries) (e up : Entry)
    (child : up.child ≡ Some vcn) (item : (d : Entry) → up.item ≡ (get_or said.entries m d).item) (left right : List ℕ) where
  -- the entry went into the left part
  pub parted_low : i ≤ m → short_node form left ≡ Some (with_entry_at (record {
    entries = take m said.entries;
    last = child_of_node
        said m;
  }) i e)
      → short_node form right ≡ Some (right_of m said) → IsParted form (with_entry_at said i e) right left vcn up
  parted_low low l r = record {
    at = suc m;
    within = let n = length_low e said.entries i within in omega arith;
    child = child;
    item = λ d. item d ∙ ap (λ (x : Entry). x.item) (sym (at_low e said.entries i m d low inner));
    is_left = l ∙ ap (λ n. Some n) (nodes_eq
        (sym (take_low e said.entries i m low inner))
        (sym (child_low e said.entries said.last i m low inner)));
    is_right = r ∙ ap (λ n. Some n) (nodes_eq (sym (drop_low e said.entries i m low inner)) refl);
  }

  -- the entry went into the right part
  pub parted_high : m < i → short_node form left ≡ Some (record { entries = take m said.entries; last = child_of_node said m })
      → (j : ℕ) → i ≡ suc (m + j) → short_node form right ≡ Some (with_entry_at (right_of m said) j e)
      → IsParted form (with_entry_at said i e) right left vcn up
  parted_high high l j is r = record {
    at = m;
    within = let n = length_low e said.entries i within in omega arith;
    child = child;
    item = λ d. item d ∙ ap (λ (x : Entry). x.item) (sym (at_high e said.entries i m d high within));
    is_left = l ∙ ap (λ n. Some n) (nodes_eq
        (sym (take_high e said.entries i m high within))
        (sym (child_high e said.entries said.last i m high within)));
    is_right = r ∙ ap (λ n. Some n) (nodes_eq (sym (drop_high e said.entries i m j is within)) refl);
  }

-- the node that has an entry
pub inner_of : (form : NodeForm) (node : List ℕ) (m : ℕ) → HasEntry form node m → (said : Node) → node_in form node ≡ Some said → m <
    length said.entries
inner_of form node m has said is = subst (λ (n : Node). m < length n.entries) (some_same (sym has.is ∙ is)) has.within

pub place_of : (form : NodeForm) (node : List ℕ) (i : ℕ) → HasPlace form node i → (said : Node) → node_in form node ≡ Some said → i ≤
    length said.entries
place_of form node i has said is = subst (λ (n : Node). i ≤ length n.entries) (some_same (sym has.is ∙ is)) has.within

-- an entry says whether it has a child, as its node does
pub own_child : (form : NodeForm) (b : Bool) (entry : List ℕ) → IsTrue (is_one_entry form b entry) → has_child entry 0 ≡ b
own_child form b entry h = go b (is_one form b entry h).whole.flag
  where
    go : (c : Bool) → entry_flags entry 0 % 2 ≡ (if c then 1 else 0) → has_child entry 0 ≡ c
    go true e = ap (λ n. n == 1) e
    go false e = ap (λ n. n == 1) e

pub before_len : (es : List Entry) (m : ℕ) → m ≤ length es → length (take m es) ≡ m
before_len es m h = length-take-le m es h

pub behind_len : (es : List Entry) (m : ℕ) → length (drop m es) ≡ length es - m
behind_len es m = length-drop m es

-- The span of an entry: what a view gives of it, and that it can be spliced.
use Rattle.std.proofs.Common.{◌≡◌, ℕ, zero, suc, ◌+◌, ◌-◌, ◌<◌, ◌≤◌, Bool, List, Some, length, refl, sym, ap, subst, ◌∙◌, arith}
use Rattle.std.specs.Prelude.{IsTrue, None, is_some, true, false}
use Rattle.ntfs_def.specs.Node.{node_in, Node, HasEntries, child_at, child_from, entries_end, entry_len, entry_place, first_entry}
use Rattle.ntfs_def.specs.Node.{has_children, is_last_entry, node_header_failing, room_end, whole_of}
use Rattle.ntfs_def.specs.declared.index.NodeForm.{NodeForm}
use Rattle.index_node.specs.Edit.{CanSplice, HasEntry, HasRoomFor, HasSpan, LacksRoomFor, entries_len}
use Rattle.index_node.specs.View.{node_of_view}
use Rattle.index_node.specs.declared.NodeNo.TheVariants.{Full}
use Rattle.index_node.specs.declared.NodeView.{NodeView}
use Rattle.index_node.specs.declared.WholeView.{WholeView}
use Rattle.index_node.proofs.NodeLaws.{child_at-none, child_at-some, child_from-entries_from, entry_place-next, length-entries_from}
use Rattle.index_node.proofs.NodeLaws.{place_whole, scan-whole, scan_node-is}
use Rattle.index_node.proofs.PieceLaws.{place-place}
use Rattle.index_node.proofs.SpliceLaws.{ends, said_facts}

pub count_is : (view : NodeView) → length (node_of_view view).entries ≡ view.count
unfolding node_of_view
count_is view = length-entries_from view.node.now view.children view.first view.count

module _ (form : NodeForm) (node : List ℕ) (n : ℕ) (right : node_header_failing node ≡ None) (few : n < length node) where
  pub span_by : HasEntries form node (has_children node) (entries_end node) (first_entry node) n
      → IsTrue (is_last_entry node (has_children node) (entries_end node) (entry_place node (first_entry node) n))
      → (i at behind end : ℕ) → i ≤ n → at ≡ entry_place node (first_entry node) i → behind ≡ entry_place node (first_entry node) (suc i)
      → end ≡ entry_place node (first_entry node) (suc n) → HasSpan form node i at behind end
  span_by each last i at behind end within e f g = record {
    right = right;
    count = n;
    each = each;
    last = last;
    said = ap whole_of (scan_node-is form node (has_children node) (entries_end node) (first_entry node) _ right refl refl refl
        (scan-whole form node (has_children node) (entries_end node) n (length node) (first_entry node) few each last));
    few = few;
    within = within;
    is_at = e;
    is_behind = f;
    is_end = g;
  }

pub span_is : (whole : WholeView) (i at behind end : ℕ) → i ≤ whole.view.count → at ≡ entry_place whole.view.node.now whole.view.first i
    → behind ≡ at + entry_len whole.view.node.now at → (last : ℕ) → last ≡ entry_place whole.view.node.now whole.view.first whole.view.count
    → end ≡ last + entry_len whole.view.node.now last → HasSpan whole.view.form whole.view.node.now i at behind end
span_is whole i at behind end within e f last g h =
    let view = whole.view in
    let node = view.node.now in
    let n = view.count in
    let each : HasEntries view.form node (has_children node) (entries_end node) (first_entry node) n =
    subst (λ x. HasEntries view.form node x (entries_end node) (first_entry node) n) view.flag
    (subst (λ x. HasEntries view.form node view.children x (first_entry node) n) whole.ends
    (subst (λ x. HasEntries view.form node view.children view.end x n) view.begins view.each)) in
    let is_last : IsTrue (is_last_entry node (has_children node) (entries_end node) (entry_place node (first_entry node) n)) =
    subst (λ x. IsTrue (is_last_entry node x (entries_end node) (entry_place node (first_entry node) n))) view.flag
    (subst (λ x. IsTrue (is_last_entry node view.children x (entry_place node (first_entry node) n))) whole.ends
    (subst (λ x. IsTrue (is_last_entry node view.children view.end (entry_place node x n))) view.begins view.last)) in
    let place : (k : ℕ) → entry_place node view.first k ≡ entry_place node (first_entry node) k = λ k. ap (λ x. entry_place node x k)
    view.begins in
    let next : (p k : ℕ) → p ≡ entry_place node view.first k → p + entry_len node p ≡ entry_place node (first_entry node) (suc k) =
    λ p k q. ap (λ x. x + entry_len node x) q ∙ sym (entry_place-next node view.first k) ∙ place (suc k) in
    span_by view.form node n whole.right whole.few each is_last i at behind end within (e ∙ place i) (f ∙ next at i e) (h ∙ next last n g)

pub place_low : (node : List ℕ) (at i : ℕ) → at ≤ entry_place node at i
place_low node at zero = omega arith
place_low node at (suc i) = let h = place_low node (at + entry_len node at) i in omega arith

module _ (form : NodeForm) (node : List ℕ) (i at behind end : ℕ) (h : HasSpan form node i at behind end) where
  pub low : first_entry node ≤ at
  low = let a = place_low node (first_entry node) i in let b = h.is_at in omega arith

  pub order : at ≤ behind
  order =
      let a = entry_place-next node (first_entry node) i in
      let b = h.is_at in let d = h.is_behind in omega arith

  pub inside : behind ≤ end
  inside =
      let w = h.within in
      let a = place_low node (entry_place node (first_entry node) (suc i)) (h.count - i) in
      let b : entry_place node (entry_place node (first_entry node) (suc i)) (h.count - i) ≡ entry_place node (first_entry node) (suc
      h.count) =
      place-place node (first_entry node) (suc i) (h.count - i) ∙ ap (entry_place node (first_entry node)) {x = suc i + (h.count - i)}
      {y = suc h.count} (omega arith) in
      let d = h.is_behind in let e = h.is_end in omega arith

  room : end ≤ room_end node
  room =
      let w = place_whole form node (has_children node) (entries_end node) (first_entry node) h.count h.each h.last h.count (omega arith) in
      let a = entry_place-next node (first_entry node) h.count in
      let b = (ends node h.right).0 in let e = h.is_end in omega (arith, w.inside)

  pub at_within : at ≤ length node
  at_within = let a = order in let b = inside in let d = room in let e = (ends node h.right).1 in omega arith

  -- where the next entry stands
  pub behind_within : behind ≤ length node
  behind_within = let b = inside in let d = room in let e = (ends node h.right).1 in omega arith

  pub behind_far : 16 ≤ behind
  behind_far =
      let w = place_whole form node (has_children node) (entries_end node) (first_entry node) h.count h.each h.last i h.within in
      let n = entry_place-next node (first_entry node) i in
      let b = h.is_behind in omega (arith, w.holds)

  pub room_ends : end ≤ room_end node
  room_ends = room

  pub can_insert : (len : ℕ) → len ≤ room_end node - end → CanSplice node at at end len
  can_insert len le = let a = low in let b = order in let d = inside in let e = room in
      record { right = h.right; low = a; order = omega arith; inside = omega arith; room = e; fits = omega arith }

  pub can_remove : CanSplice node at behind end 0
  can_remove = let a = low in let b = order in let d = inside in let e = room in
      record { right = h.right; low = a; order = b; inside = d; room = e; fits = omega arith }

  pub can_keep : (first : ℕ) → first ≡ first_entry node → CanSplice node first behind end 0
  can_keep first is = let a = low in let b = order in let d = inside in let e = room in
      record { right = h.right; low = omega arith; order = omega arith; inside = d; room = e; fits = omega arith }

  -- what the entries take, and the room behind them
  pub count_said : (said : Node) → node_in form node ≡ Some said → length said.entries ≡ h.count
  count_said said is =
      sym (ap (λ (m : Node). length m.entries) (said_facts form node i at behind end h said is))
      ∙ length-entries_from node (has_children node) (first_entry node) h.count

  pub entries_len-is : (said : Node) → node_in form node ≡ Some said → first_entry node + entries_len node said ≡ end
  entries_len-is said is =
      let e : entry_place node (first_entry node) (suc (length said.entries)) ≡ entry_place node (first_entry node) (suc h.count) =
      ap (λ n. entry_place node (first_entry node) (suc n)) (count_said said is) in
      let a = low in let b = order in let d = inside in let f = h.is_end in omega arith

  pub has_room : (len : ℕ) → len ≤ room_end node - end → HasRoomFor form node len
  has_room len le said is = let e = entries_len-is said is in let r = room in omega arith

  pub lacks_room : (len need free : ℕ) → need ≡ len → free < need → free ≡ room_end node - end → LacksRoomFor form node len (Full need free)
  lacks_room len need free e lt f = (e, lt, λ said is. let g = entries_len-is said is in let r = room in omega arith)

  pub no_room : (len need free : ℕ) → LacksRoomFor form node len (Full need free) → HasRoomFor form node len → ⊥
  no_room len need free lacks has =
      let a = has _ h.said in
      let b = lacks.2 _ h.said in
      let c = lacks.0 in
      let d = lacks.1 in
      absurd (omega (arith, a, b, c, d))

  -- an inner entry
  pub inner_in : HasEntry form node i → i < h.count
  inner_in has =
      let e : Some _ ≡ Some _ = sym h.said ∙ has.is in
      let n : h.count ≡ length has.said.entries = sym (length-entries_from node (has_children node) (first_entry node) h.count) ∙ ap (λ
      (m : Node). length m.entries) (some_same e) in
      let w = has.within in omega arith
    where
      some_same : {X : Type 0} {a b : X} → Some a ≡ Some b → a ≡ b
      some_same e = cc

  pub first_is : i ≡ 0 → at ≡ first_entry node
  first_is e = h.is_at ∙ ap (entry_place node (first_entry node)) e

-- a place of a view leads to a child exactly where its node has children
pub child_some : (view : NodeView) (i : ℕ) → i ≤ length (node_of_view view).entries
    → is_some (child_from (node_of_view view).entries (node_of_view view).last i) ≡ has_children view.node.now
unfolding node_of_view
child_some view i within =
    let n = length-entries_from view.node.now view.children view.first view.count in
    ap is_some (child_from-entries_from view.node.now view.children view.first view.count i (omega arith))
    ∙ go view.children refl ∙ view.flag
  where
    go : (b : Bool) → view.children ≡ b → is_some (child_at view.node.now view.children (entry_place view.node.now view.first i)) ≡
        view.children
    go true e = ap is_some (child_at-some view.node.now view.children (entry_place view.node.now view.first i) e) ∙ sym e
    go false e = ap is_some (child_at-none view.node.now view.children (entry_place view.node.now view.first i) e) ∙ sym e

-- The parts of a node that is split into itself and a node without keys.
use Rattle.std.proofs.Common.{◌≡◌, ℕ, zero, suc, ◌+◌, ◌-◌, ◌/◌, ◌<◌, ◌≤◌, List, [], ◌∷◌, ◌++◌, Option, Some, None, true, false, length}
use Rattle.std.proofs.Common.{take, drop, slice_range, slice_index, refl, sym, ap, subst, ◌∙◌, arith, append-nil}
use Rattle.std.specs.Prelude.{All, IsTrue, is_some}
use Rattle.std.proofs.lemmas.List.{length-take-le}
use Rattle.std.proofs.lemmas.List.Elements.{All-nil}
use Rattle.ntfs_def.specs.Node.{Entry, Node, HasEntries, child_at, child_from, entries_end, entries_from, entry_place, first_entry}
use Rattle.ntfs_def.specs.Node.{has_children, is_entry, is_last_entry, most_len, node_in, room_end}
use Rattle.ntfs_def.specs.declared.index.NodeForm.{NodeForm}
use Rattle.list_laws.proofs.PieceLaws.{index_within, length_within}
use Rattle.index_node.specs.Edit.{CanSplice, EditsNode, EditsShort, FitsBehind, HasSpan, Splices, TakesBehind, entries_leading, entries_len}
use Rattle.index_node.specs.Edit.{child_of_node, front_len, last_leading, leading, left_of, right_of, without_from}
use Rattle.index_node.specs.LayOut.{AreEntries, HoldsPieces, KeepsHeader, node_listed, room_len, total_len}
use Rattle.index_node.specs.Pieces.{EditsPieces, pieces_from}
use Rattle.index_node.proofs.EditedPieces.{length-pieces, pieces_dropped, pieces_kept}
use Rattle.index_node.specs.View.{bytes_of, node_of_view}
use Rattle.index_node.specs.declared.NodeView.{NodeView}
use Rattle.index_node.proofs.NodeLaws.{entry_place-next}
use Rattle.index_node.proofs.LayOutLaws.{node_header-same}
use Rattle.index_node.proofs.LenLaws.{front_behind, keeps_first}
use Rattle.index_node.proofs.PieceLaws.{dropped, from_entries, from_holds, from_said, from_short, from_total, kept, pieces_before}
use Rattle.index_node.proofs.PieceLaws.{place-place}
use Rattle.index_node.proofs.PieceLaws.{short_behind}
use Rattle.index_node.proofs.SpanLaws.{child_some, entries_len-is, first_is, inside, low, order, place_low, room_ends}
use Rattle.index_node.proofs.SpliceLaws.{Holds-moved, closed_node, closed_pieces, closed_said, closed_short, edits_node, edits_pieces}
use Rattle.index_node.proofs.SpliceLaws.{edits_short, ends, kept_opened, said_now, spliced_all, spliced_children, spliced_keeps}
use Rattle.index_node.proofs.SpliceLaws.{spliced_len, spliced_node, spliced_pieces}

nodes_eq : {es fs : List Entry} {c d : Option ℕ} → es ≡ fs → c ≡ d → (let x : Node = record { entries = es; last = c } in x) ≡ record {
  entries = fs;
  last = d;
}
nodes_eq e f = cc

-- The last of a node's entries is where the others end.
leads_on : (es : List Entry) (i : ℕ) (child : Option ℕ) → length es ≤ i → entries_leading es i child ≡ es
leads_on [] i child h = refl
leads_on (e ∷ es) zero child h = absurd (omega (arith, h))
leads_on (e ∷ es) (suc i) child h = ap (λ xs. e ∷ xs) (leads_on es i child (omega (arith, h)))

leads_last : (es : List Entry) (last : Option ℕ) (i : ℕ) (child : Option ℕ) → length es ≤ i → last_leading es last i child ≡ child
leads_last [] last i child h = refl
leads_last (e ∷ es) last zero child h = absurd (omega (arith, h))
leads_last (e ∷ es) last (suc i) child h = leads_last es last i child (omega (arith, h))

pub leading_behind : (n : Node) (i : ℕ) (child : Option ℕ) → length n.entries ≤ i
    → leading n i child ≡ record { entries = n.entries; last = child }
leading_behind n i child h = nodes_eq (leads_on n.entries i child h) (leads_last n.entries n.last i child h)

-- An entry was kept before, and the last one leads where it led.
pub led_left : (n : Node) (i : ℕ) (child : Option ℕ) → i ≤ length n.entries → child ≡ child_of_node n i → leading (without_from i n) i child
    ≡ left_of i n
led_left n i child h e =
    let l = length-take-le i n.entries h in
    leading_behind (without_from i n) i child (omega (arith, l))
    ∙ ap (λ c. let x : Node = record { entries = take i n.entries; last = c } in x) e

no_some : (o : Option ℕ) → is_some o ≡ false → o ≡ None
no_some None h = refl
no_some (Some x) h = let e : true ≡ false = h in cc

child_last : (es : List Entry) (last : Option ℕ) → child_from es last (length es) ≡ last
child_last [] last = refl
child_last (e ∷ es) last = child_last es last

-- where entry i leads to no child, nor does the last one
pub left_none : (view : NodeView) (i : ℕ) → i ≤ length (node_of_view view).entries → child_of_node (node_of_view view) i ≡ None
    → without_from i (node_of_view view) ≡ left_of i (node_of_view view)
left_none view i h none =
    let n = node_of_view view in
    let leaf : has_children (bytes_of view) ≡ false = sym (child_some view i h) ∙ ap is_some none in
    let last : n.last ≡ None = sym (child_last n.entries n.last) ∙ no_some (child_of_node n (length n.entries)) (child_some view (length
    n.entries) (omega arith) ∙ leaf) in
    ap (λ c. let x : Node = record { entries = take i n.entries; last = c } in x) (last ∙ sym none)

-- A header that was kept twice, where the entries end at one place after both.
pub keeps_both : (old mid new : List ℕ) → KeepsHeader old mid → KeepsHeader mid new → entries_end new ≡ entries_end mid
    → KeepsHeader old new
keeps_both old mid new a b e =
    let h = node_header-same old mid a.len in
    let f = keeps_first old mid a in
    record {
      len = b.len ∙ a.len;
      before = λ k lt. b.before k (omega (arith, h, lt)) ∙ a.before k lt;
      room = λ k from to. b.room k (omega (arith, h, from)) (omega (arith, h, to)) ∙ a.room k from to;
      flags = ap (λ p. slice_index new (p + 0x0C) / 2) (sym h) ∙ b.flags ∙ ap (λ p. slice_index mid (p + 0x0C) / 2) h ∙ a.flags;
      between = λ k from to. b.between k (omega (arith, h, from)) (omega (arith, f, to)) ∙ a.between k from to;
      behind = λ k le. b.behind k le ∙ a.behind k (omega (arith, e, le));
    }

-- The entries from one on go, but for the last one.
module _ (form : NodeForm) (old : List ℕ) (i at behind end : ℕ) (h : HasSpan form old i at behind end) (last_at : ℕ)
    (is_last : last_at ≡ entry_place old (first_entry old) h.count) where
  pub can_cut : CanSplice old at last_at end 0
  can_cut =
      let a = low form old i at behind end h in
      let r = room_ends form old i at behind end h in
      let w = h.within in
      let b = place_low old (entry_place old (first_entry old) i) (h.count - i) in
      let d : entry_place old (entry_place old (first_entry old) i) (h.count - i) ≡ entry_place old (first_entry old) h.count =
      place-place old (first_entry old) i (h.count - i) ∙ ap (entry_place old (first_entry old)) {x = i + (h.count - i)} {y = h.count}
      (omega arith) in
      let e = entry_place-next old (first_entry old) h.count in
      let f = h.is_end in
      let g = h.is_at in
      let l = is_last in
      let le : last_at ≤ end = omega arith in
      record { right = h.right; low = a; order = omega arith; inside = le; room = r; fits = omega arith }

  module _ (new : List ℕ) (sp : Splices old new at last_at end []) (room : at + 0 + (end - last_at) ≤ room_end old) where
    cut_is : closed_said form old new h.right h.count h.each h.last at last_at end [] sp room i h.within h.is_at h.count (omega arith)
        is_last h.is_end refl
        ≡ without_from i (said_now form old i at behind end h)
    cut_is = nodes_eq
        (ap (λ es. entries_from old (has_children old) (first_entry old) i ++ es)
        (ap (entries_from old (has_children old) (entry_place old (first_entry old) h.count)) {x = h.count - h.count} {y = 0} (omega arith))
        ∙ append-nil (entries_from old (has_children old) (first_entry old) i)
        ∙ sym (kept old (has_children old) (first_entry old) h.count i h.within))
        refl

    pub cut_node : EditsNode form old new (without_from i)
    cut_node = edits_node form old i at behind end h new (without_from i) _ cut_is
        (closed_node form old new h.right h.count h.each h.last at last_at end [] sp room i h.within h.is_at h.count (omega arith)
        is_last h.is_end refl)

    pub cut_short : EditsShort form old new (without_from i)
    cut_short = edits_short form old i at behind end h new (without_from i) _ cut_is
        (closed_short form old new h.right h.count h.each h.last at last_at end [] sp room i h.within h.is_at h.count (omega arith)
        is_last h.is_end refl)

    pub cut_pieces : EditsPieces form old new (λ before now. now ≡ take i before ++ drop (length before - 1) before)
    cut_pieces =
        let all : List (List ℕ) = pieces_from old (first_entry old) h.count in
        edits_pieces form old i at behind end h new (λ before now. now ≡ take i before ++ drop (length before - 1) before) _
        (closed_pieces form old new h.right h.count h.each h.last at last_at end [] sp room i h.within h.is_at h.count (omega arith)
        is_last h.is_end refl)
        (sym
        (ap (λ ps. ps ++ drop (length all - 1) all) (pieces_kept old (first_entry old) h.count i h.within)
        ∙ ap (λ k. pieces_before old (first_entry old) i ++ drop k all) {x = length all - 1} {y = h.count}
        (let n = length-pieces old (first_entry old) h.count in omega arith)
        ∙ ap (λ ps. pieces_before old (first_entry old) i ++ ps) (pieces_dropped old (first_entry old) h.count h.count (omega arith))))

    pub cut_children : has_children new ≡ has_children old
    cut_children = spliced_children form old new h.right h.count h.each h.last at last_at end [] sp room i h.within h.is_at

    pub cut_keeps : KeepsHeader old new
    cut_keeps = spliced_keeps form old new h.right h.count h.each h.last at last_at end [] sp room i h.within h.is_at

-- The bytes behind an entry.
module _ (form : NodeForm) (other : List ℕ) (i at behind end : ℕ) (k : HasSpan form other i at behind end) where
  pub end_within : end ≤ length other
  end_within = let r = room_ends form other i at behind end k in let e = (ends other k.right).1 in omega arith

  pub behind_len : length (slice_range other behind end) ≡ end - behind
  behind_len =
      let w = end_within in let o = inside form other i at behind end k in
      ap (λ x. length (slice_range other behind x)) {x = end} {y = behind + (end - behind)} (omega arith)
      ∙ length_within other behind (end - behind) (omega arith)

-- The entries of another node behind its entry i stand in place of a node's own.
module _ (form : NodeForm) (old other : List ℕ) (at behind end : ℕ) (h : HasSpan form old 0 at behind end)
    (i at' behind' end' : ℕ) (k : HasSpan form other i at' behind' end') where
  pub can_take : FitsBehind form other i (room_len old) → CanSplice old at end end (length (slice_range other behind' end'))
  can_take fits =
      let f = fits _ k.said in
      let n = behind_len form other i at' behind' end' k in
      let e = entries_len-is form other i at' behind' end' k _ k.said in
      let b = front_behind form other i at' behind' end' k in
      let a = low form old 0 at behind end h in
      let o = order form old 0 at behind end h in
      let d = inside form old 0 at behind end h in
      let r = room_ends form old 0 at behind end h in
      let is = first_is form old 0 at behind end h refl in
      record { right = h.right; low = a; order = omega arith; inside = omega arith; room = r; fits = omega arith }

  module _ (within : i < k.count) (same : has_children old ≡ has_children other) (new : List ℕ)
      (sp : Splices old new at end end (slice_range other behind' end'))
      (room : at + length (slice_range other behind' end') + (end - end) ≤ room_end old) where
    abbrev start : ℕ
    start = entry_place other (first_entry other) (suc i)

    abbrev tail : List (List ℕ)
    tail = pieces_from other start (k.count - suc i)

    inner : entries_end other ≤ length other
    inner = let e = ends other k.right in let f = e.0 in let g = e.1 in omega arith

    each_tail : HasEntries form other (has_children other) (entries_end other) start (k.count - suc i)
    each_tail j lt = subst (λ p. IsTrue (is_entry form other (has_children other) (entries_end other) p))
        (sym (place-place other (first_entry other) (suc i) j)) (k.each (suc i + j) (omega arith))

    last_place : entry_place other start (k.count - suc i) ≡ entry_place other (first_entry other) k.count
    last_place = place-place other (first_entry other) (suc i) (k.count - suc i)
        ∙ ap (entry_place other (first_entry other)) {x = suc i + (k.count - suc i)} {y = k.count} (omega arith)

    last_tail : IsTrue (is_last_entry other (has_children other) (entries_end other) (entry_place other start (k.count - suc i)))
    last_tail = subst (λ p. IsTrue (is_last_entry other (has_children other) (entries_end other) p)) (sym last_place) k.last

    tail_total : behind' + total_len tail ≡ end'
    tail_total =
        let a = from_total form other (has_children other) (entries_end other) inner start (k.count - suc i) each_tail last_tail in
        let b : entry_place other start (suc (k.count - suc i)) ≡ entry_place other (first_entry other) (suc k.count) =
        place-place other (first_entry other) (suc i) (suc (k.count - suc i))
        ∙ ap (entry_place other (first_entry other)) {x = suc i + suc (k.count - suc i)} {y = suc k.count} (omega arith) in
        let d = k.is_behind in let e = k.is_end in omega arith

    tail_are : AreEntries form (has_children old) tail
    tail_are = subst (λ b. AreEntries form b tail) (sym same)
        (from_entries form other (has_children other) (entries_end other) inner start (k.count - suc i) each_tail last_tail)

    total_tail : at + total_len tail ≡ at + length (slice_range other behind' end') + (end - end)
    total_tail = let n = behind_len form other i at' behind' end' k in let t = tail_total in omega arith

    tail_holds : HoldsPieces new at tail
    tail_holds =
        let t = tail_total in
        let n = behind_len form other i at' behind' end' k in
        let w = end_within form other i at' behind' end' k in
        let l = sp.rest.len ∙ sp.sets.len in
        let r = (ends old h.right).1 in
        Holds-moved other new behind' at tail (omega arith) (omega arith)
        (λ m lt.
        sym (index_within new at (length (slice_range other behind' end')) m (omega arith))
        ∙ ap (λ xs. slice_index xs m) sp.put
        ∙ ap (λ x. slice_index (slice_range other behind' x) m) {x = end'} {y = behind' + total_len tail} (omega arith)
        ∙ index_within other behind' (total_len tail) m lt)
        (subst (λ p. HoldsPieces other p tail) (sym k.is_behind)
        (from_holds form other (has_children other) (entries_end other) inner start (k.count - suc i) each_tail last_tail))

    tail_said : node_listed (has_children old) tail ≡ right_of i (said_now form other i at' behind' end' k)
    tail_said =
        ap (λ b. node_listed b tail) same
        ∙ from_said form other (has_children other) (entries_end other) inner start (k.count - suc i) each_tail last_tail
        ∙ nodes_eq (sym (dropped other (has_children other) (first_entry other) k.count (suc i) (omega arith)))
        (ap (child_at other (has_children other)) last_place)

    pub taken_node : EditsNode form other new (right_of i)
    taken_node = edits_node form other i at' behind' end' k new (right_of i) (node_listed (has_children old) tail) tail_said
        (spliced_node form old new h.right h.count h.each h.last at end end (slice_range other behind' end') sp room 0 (omega arith)
        h.is_at tail tail_are tail_holds total_tail)

    pub taken_short : EditsShort form other new (right_of i)
    taken_short = edits_short form other i at' behind' end' k new (right_of i) (node_listed (has_children old) tail) tail_said
        (λ short. spliced_all form old new h.right h.count h.each h.last at end end (slice_range other behind' end') sp room 0 (omega
        arith) h.is_at tail tail_are tail_holds total_tail
        (All-nil (λ piece. length piece ≤ most_len (has_children old)))
        (subst (λ c. All (λ piece. length piece ≤ most_len c) tail) (sym same)
        (from_short form other (has_children other) (entries_end other) inner (most_len (has_children other)) start (k.count - suc i)
        each_tail last_tail
        (short_behind form other (has_children other) (entries_end other) inner (most_len (has_children other)) (first_entry other)
        k.count (suc i) (omega arith) short))))

    pub taken_pieces : EditsPieces form other new (λ before now. now ≡ drop (suc i) before)
    taken_pieces = edits_pieces form other i at' behind' end' k new (λ before now. now ≡ drop (suc i) before) tail
        (spliced_pieces form old new h.right h.count h.each h.last at end end (slice_range other behind' end') sp room 0 (omega arith)
        h.is_at tail tail_are tail_holds total_tail)
        (sym (pieces_dropped other (first_entry other) k.count (suc i) (omega arith)))

    pub taken_keeps : KeepsHeader old new
    taken_keeps = spliced_keeps form old new h.right h.count h.each h.last at end end (slice_range other behind' end') sp room 0 (omega
        arith) h.is_at

    pub taken_children : has_children new ≡ has_children old
    taken_children = spliced_children form old new h.right h.count h.each h.last at end end (slice_range other behind' end') sp room 0
        (omega arith) h.is_at

    taken_len : (said : Node) → node_in form other ≡ Some said → entries_len new (right_of i said) + front_len other (suc i) ≡
        entries_len other said
    taken_len said is =
        let a = spliced_len form old new h.right h.count h.each h.last at end end (slice_range other behind' end') sp room 0 (omega
        arith) h.is_at tail tail_are tail_holds total_tail (right_of i said) (taken_node said is) in
        let n = behind_len form other i at' behind' end' k in
        let e = entries_len-is form other i at' behind' end' k said is in
        let b = front_behind form other i at' behind' end' k in
        let f = keeps_first old new taken_keeps in
        let first = first_is form old 0 at behind end h refl in
        let d = inside form other i at' behind' end' k in
        omega arith

    pub takes : TakesBehind form old new other i
    takes = record {
      node = taken_node;
      short = taken_short;
      len = taken_len;
      header = taken_keeps;
      children = taken_children;
      opened = kept_opened old new taken_keeps;
    }

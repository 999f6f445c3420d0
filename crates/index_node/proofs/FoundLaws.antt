-- Where the entries of bytes stand that say a node.
use Rattle.std.proofs.Common.{◌≡◌, ℕ, zero, suc, ◌+◌, ◌<◌, List, Option, Some, None, Bool, true, false, length, refl, sym, ap, ◌∙◌, arith}
use Rattle.std.specs.Prelude.{IsTrue}
use Rattle.ntfs_def.specs.Node.{BadAt, HasEntries, Node, Scan, Whole, entries_end, entry_and, entry_at, entry_len, entry_place}
use Rattle.ntfs_def.specs.Node.{first_entry, has_children, is_entry, is_last_entry, node_header_failing, node_in, scan_from}
use Rattle.ntfs_def.specs.Node.{scan_node, whole_of}
use Rattle.ntfs_def.specs.declared.index.NodeForm.{NodeForm}
use Rattle.index_node.specs.Edit.{HasSpan, HasPlace}
use Rattle.index_node.proofs.NodeLaws.{scan_at_bad, scan_at_entry, scan_node-right, scan_node-wrong}
use Rattle.index_node.proofs.SpanLaws.{span_by, count_said}

record Found (form : NodeForm) (node : List ℕ) (children : Bool) (end most at : ℕ) : Type 0 where
  pub n : ℕ
  pub few : n < most
  pub each : HasEntries form node children end at n
  pub last : IsTrue (is_last_entry node children end (entry_place node at n))

bad_whole : {p : ℕ} {m : Node} → BadAt p ≡ Whole m → ⊥
bad_whole e = absurd (cc)

module _ (form : NodeForm) (node : List ℕ) (children : Bool) (end most at : ℕ)
    (next : (m : Node) → scan_from form node children end most (at + entry_len node at) ≡ Whole m → Found form node children end most
    (at + entry_len node at)) where
  behind : is_entry form node children end at ≡ true → (s : Scan) → scan_from form node children end most (at + entry_len node at) ≡ s
      → (said : Node) → entry_and (entry_at node children at) s ≡ Whole said → Found form node children end (suc most) at
  behind is (BadAt p) e said f = absurd (bad_whole f)
  behind is (Whole m) e said f =
      let more = next m e in
      record { n = suc more.n; few = let l = more.few in omega arith; each = stand more; last = more.last }
    where
      stand : (more : Found form node children end most (at + entry_len node at)) → HasEntries form node children end at (suc more.n)
      stand more zero lt = is
      stand more (suc i) lt = more.each i (omega arith)

  by_entry : (b : Bool) → is_last_entry node children end at ≡ false → is_entry form node children end at ≡ b
      → (said : Node) → scan_from form node children end (suc most) at ≡ Whole said → Found form node children end (suc most) at
  by_entry true other is said e = behind is (scan_from form node children end most (at + entry_len node at)) refl said (sym
      (scan_at_entry form node children end most at is) ∙ e)
  by_entry false other is said e = absurd (bad_whole (sym (scan_at_bad form node children end most at other is) ∙ e))

  by_last : (b : Bool) → is_last_entry node children end at ≡ b
      → (said : Node) → scan_from form node children end (suc most) at ≡ Whole said → Found form node children end (suc most) at
  by_last true is said e = record { n = 0; few = omega arith; each = λ i lt. absurd (omega arith); last = is }
  by_last false is said e = by_entry (is_entry form node children end at) is refl said e

found : (form : NodeForm) (node : List ℕ) (children : Bool) (end most at : ℕ) (said : Node) → scan_from form node children end most at
    ≡ Whole said
    → Found form node children end most at
found form node children end zero at said e = absurd (bad_whole e)
found form node children end (suc most) at said e =
    by_last form node children end most at (λ m f. found form node children end most (at + entry_len node at) m f) (is_last_entry node
    children end at) refl said e

-- the first place of a node, and where its entries end
pub record HasFirst (form : NodeForm) (node : List ℕ) : Type 0 where
  pub behind : ℕ
  pub end : ℕ
  pub span : HasSpan form node 0 (first_entry node) behind end

pub has_first : (form : NodeForm) (node : List ℕ) (said : Node) → node_in form node ≡ Some said → HasFirst form node
has_first form node said is = by_header (node_header_failing node) refl
  where
    none_some : {m : Node} → None ≡ Some m → ⊥
    none_some e = absurd (cc)

    by_scan : node_header_failing node ≡ None → (s : Scan) → scan_node form node ≡ s → HasFirst form node
    by_scan right (BadAt p) e = absurd (none_some (sym (ap whole_of e) ∙ is))
    by_scan right (Whole m) e =
        let f = found form node (has_children node) (entries_end node) (length node) (first_entry node) m (sym (scan_node-right form
        node _ right refl) ∙ e) in
        record {
          behind = entry_place node (first_entry node) 1;
          end = entry_place node (first_entry node) (suc f.n);
          span = span_by form node f.n right f.few f.each f.last 0 (first_entry node) (entry_place node (first_entry node) 1)
              (entry_place node (first_entry node) (suc f.n)) (omega arith) refl refl refl;
        }

    by_header : (place : Option ℕ) → node_header_failing node ≡ place → HasFirst form node
    by_header None right = by_scan right (scan_node form node) refl
    by_header (Some place) wrong = absurd (none_some (sym (ap whole_of (scan_node-wrong form node place wrong)) ∙ is))

-- .. and any other place
pub record HasAt (form : NodeForm) (node : List ℕ) (i : ℕ) : Type 0 where
  pub at : ℕ
  pub behind : ℕ
  pub end : ℕ
  pub span : HasSpan form node i at behind end

pub has_at : (form : NodeForm) (node : List ℕ) (i : ℕ) → HasPlace form node i → HasAt form node i
has_at form node i place =
    let f = has_first form node place.said place.is in
    let h = f.span in
    let n = count_said form node 0 (first_entry node) f.behind f.end h place.said place.is in
    let w = place.within in
    record {
      at = entry_place node (first_entry node) i;
      behind = entry_place node (first_entry node) (suc i);
      end = entry_place node (first_entry node) (suc h.count);
      span = span_by form node h.count h.right h.few h.each h.last i (entry_place node (first_entry node) i) (entry_place node
          (first_entry node) (suc i))
          (entry_place node (first_entry node) (suc h.count)) (omega arith) refl refl refl;
    }

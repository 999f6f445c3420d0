-- A place that leads to the child that it led to, or to another.
use Rattle.std.proofs.Common.{◌≡◌, ℕ, zero, suc, ◌<◌, ◌≤◌, List, [], ◌∷◌, remove, Option, Some, None, true, false, length, refl, sym}
use Rattle.std.proofs.Common.{ap, ◌∙◌, arith}
use Rattle.std.specs.Prelude.{is_some}
use Rattle.ntfs_def.specs.Node.{Entry, Node, child_from, has_children}
use Rattle.index_node.specs.Edit.{child_of_node, entries_leading, last_leading, leading, without_entry}
use Rattle.index_node.specs.View.{bytes_of, node_of_view}
use Rattle.index_node.specs.declared.NodeView.{NodeView}
use Rattle.index_node.proofs.SpanLaws.{child_some}

entries_same : (es : List Entry) (last : Option ℕ) (i : ℕ) → entries_leading es i (child_from es last i) ≡ es
entries_same [] last i = refl
entries_same (e ∷ es) last zero = refl
entries_same (e ∷ es) last (suc i) = ap (λ xs. e ∷ xs) (entries_same es last i)

last_same : (es : List Entry) (last : Option ℕ) (i : ℕ) → last_leading es last i (child_from es last i) ≡ last
last_same [] last i = refl
last_same (e ∷ es) last zero = refl
last_same (e ∷ es) last (suc i) = last_same es last i

nodes_eq : {es es' : List Entry} {c d : Option ℕ} → es ≡ es' → c ≡ d → (let n : Node = record { entries = es; last = c } in n) ≡ record
    { entries = es'; last = d }
nodes_eq {es} {es'} {c} {d} e f = ap (λ x. let n : Node = record { entries = x; last = c } in n) e ∙ ap (λ x. let n : Node = record {
  entries = es';
  last = x;
} in n) f

pub leading_same : (n : Node) (i : ℕ) → leading n i (child_of_node n i) ≡ n
leading_same n i = nodes_eq (entries_same n.entries n.last i) (last_same n.entries n.last i)

child_next : (es : List Entry) (last : Option ℕ) (i : ℕ) → i < length es → child_from (remove es i) last i ≡ child_from es last (suc i)
child_next [] last i h = absurd (omega (arith, h))
child_next (e ∷ es) last zero h = refl
child_next (e ∷ es) last (suc i) h = child_next es last i (omega (arith, h))

pub less_one : (es : List Entry) (i : ℕ) → i < length es → i ≤ length (remove es i)
less_one [] i h = absurd (omega (arith, h))
less_one (e ∷ es) zero h = omega arith
less_one (e ∷ es) (suc i) h = let k = less_one es i (omega (arith, h)) in omega arith

no_some : (o : Option ℕ) → is_some o ≡ false → o ≡ None
no_some None h = refl
no_some (Some x) h = let e : true ≡ false = h in cc

-- where place i leads to no child, nor does the next one
pub joined_none : (view : NodeView) (i : ℕ) → i < length (node_of_view view).entries → child_of_node (node_of_view view) i ≡ None
    → leading (without_entry (node_of_view view) i) i (child_of_node (node_of_view view) i) ≡ without_entry (node_of_view view) i
joined_none view i h none =
    let n = node_of_view view in
    let leaf : has_children (bytes_of view) ≡ false = sym (child_some view i (omega (arith, h))) ∙ ap is_some none in
    let next : child_of_node n (suc i) ≡ None = no_some (child_of_node n (suc i)) (child_some view (suc i) (omega (arith, h)) ∙ leaf) in
    let same : child_of_node n i ≡ child_of_node (without_entry n i) i = none ∙ sym next ∙ sym (child_next n.entries n.last i h) in
    ap (leading (without_entry n i) i) same ∙ leading_same (without_entry n i) i

pub one_node : {m n : Node} → Some m ≡ Some n → m ≡ n
one_node e = cc

-- Extents in memory, one after the other.
use Rattle.std.proofs.Common.{◌≡◌, ◌<◌, ◌≤◌, ◌+◌, ℕ, List, [], ◌∷◌, length, map, drop, get_or, sym, ap, subst, ◌∙◌, arith}
use Rattle.std.specs.Prelude.{sum_by}
use Rattle.std.proofs.lemmas.List.{drop-map, drop_all, drop_more, get_or_default, length-map}
use Rattle.std.proofs.lemmas.List.Sums.{sum_by-cons}
use Rattle.file_clauses.specs.declared.extents.Extent.{Extent}
use Rattle.file_clauses.specs.Extents.{Begins, Follow, HaveClusters, clusters_covered, covered_by, outlined}
use Rattle.list_laws.proofs.PieceLaws.{All-unmap}

-- what stands from a place on
pub outlines-from : (extents : List Extent) (i : ℕ) (d : Extent) → i < length extents
    → drop i (map outlined extents) ≡ outlined (get_or extents i d) ∷ drop (i + 1) (map outlined extents)
outlines-from extents i d lt =
    drop-map outlined i extents ∙ ap (map outlined) (drop_more extents i d lt)
    ∙ ap (λ xs. outlined (get_or extents i d) ∷ xs) (sym (drop-map outlined (i + 1) extents))

pub follow-more : (extents : List Extent) (i vcn covered : ℕ) (d : Extent) → i < length extents → Begins vcn (get_or extents i d).held
    → covered ≡ covered_by (get_or extents i d).held → Follow (vcn + covered) (drop (i + 1) (map outlined extents))
    → Follow vcn (drop i (map outlined extents))
follow-more extents i vcn covered d lt begins is rest =
    subst (Follow vcn) (sym (outlines-from extents i d lt)) (
      begins,
      subst (λ n. Follow (vcn + n) (drop (i + 1)
          (map outlined extents))) is rest,
    )

pub follow-less : (extents : List Extent) (i vcn covered : ℕ) (d : Extent) → i < length extents
    → covered ≡ covered_by (get_or extents i d).held → Follow vcn (drop i (map outlined extents))
    → Follow (vcn + covered) (drop (i + 1) (map outlined extents))
follow-less extents i vcn covered d lt is follow =
    let w = subst (Follow vcn) (outlines-from extents i d lt) follow in
    subst (λ n. Follow (vcn + n) (drop (i + 1) (map outlined extents))) (sym is) w.1

pub follow-begins : (extents : List Extent) (i vcn : ℕ) (d : Extent) → i < length extents → Follow vcn (drop i (map outlined extents))
    → Begins vcn (get_or extents i d).held
follow-begins extents i vcn d lt follow = (subst (Follow vcn) (outlines-from extents i d lt) follow).0

pub covered-more : (extents : List Extent) (i : ℕ) (d : Extent) → i < length extents
    → sum_by clusters_covered (drop i (map outlined extents)) ≡ covered_by (get_or extents i d).held + sum_by clusters_covered (drop
    (i + 1) (map outlined extents))
covered-more extents i d lt =
    ap (sum_by clusters_covered) (outlines-from extents i d lt)
    ∙ sum_by-cons clusters_covered (outlined (get_or extents i d)) (drop (i + 1) (map outlined extents))

pub covered-sum : (extents : List Extent) (i covered : ℕ) (d : Extent) → i < length extents → covered ≡ covered_by (get_or extents i d).held
    → sum_by clusters_covered (drop i (map outlined extents)) ≡ covered + sum_by clusters_covered (drop (i + 1) (map outlined extents))
covered-sum extents i covered d lt is =
    covered-more extents i d lt ∙ ap (λ n. n + sum_by clusters_covered (drop (i + 1) (map outlined extents))) (sym is)

-- each has a cluster where they are several
pub several-one : (extents : List Extent) (i covered : ℕ) (d : Extent) → i < length extents → covered ≡ covered_by (get_or extents i d).held
    → 1 < length extents → HaveClusters (map outlined extents) → 1 ≤ covered
several-one extents i covered d lt is long several =
    let one = All-unmap outlined (λ outline. 1 ≤ clusters_covered outline) extents (several (omega
    (arith, length-map extents outlined))) i d lt in
    omega arith

pub one-at : (extents : List Extent) (i k covered : ℕ) (d e : Extent) → i < length extents → covered ≡ covered_by (get_or extents i d).held
    → i ≡ k → 1 ≤ covered → 1 ≤ covered_by (get_or extents k e).held
one-at extents i k covered d e lt is same some =
    let x = ap (λ (extent : Extent). covered_by extent.held) (get_or_default extents i d e lt) in
    let y = ap (λ j. covered_by (get_or extents j e).held) same in
    omega arith

outlines-end : (extents : List Extent) (i : ℕ) → length extents ≤ i → drop i (map outlined extents) ≡ []
outlines-end extents i end = drop_all i (map outlined extents) (omega (arith, length-map extents outlined))

-- behind the last
pub follow-end : (extents : List Extent) (i vcn : ℕ) → length extents ≤ i → Follow vcn (drop i (map outlined extents))
follow-end extents i vcn end = subst (Follow vcn) (sym (outlines-end extents i end)) tt

pub sum-end : (extents : List Extent) (i : ℕ) → length extents ≤ i → sum_by clusters_covered (drop i (map outlined extents)) ≡ 0
sum-end extents i end = ap (sum_by clusters_covered) (outlines-end extents i end)

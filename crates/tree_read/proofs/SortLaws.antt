-- Links and lines that were sorted are in order.
use Rattle.std.proofs.Common.{◌≡◌, ℕ, Bool, List, [], ◌∷◌, ◌++◌, map, take, get_or, length, ◌<◌, ◌+◌, sym, ap, ◌∙◌}
use Rattle.std.specs.Cmp.{IsStrictWeakOrder, IsTotalOrder, nat_cmp_total}
use Rattle.std.specs.Cmp.Lexicographic.{lists_total}
use Rattle.std.specs.List.Sorted.{IsSortedBy, IsStableBy}
use Rattle.std.specs.Ordering.{is_gt, is_lt}
use Rattle.std.proofs.lemmas.List.{map-append, take_more}
use Rattle.std.proofs.lemmas.List.Sorted.{ranks_by}
use Rattle.ntfs_def.specs.KeyOrder.{by_numbers}
use Rattle.tree_model.specs.Answers.{path_above, path_text}
use Rattle.list_laws.specs.Ordered.{in_order}
use Rattle.tree_model.specs.Tree.{compare_links, link_above}
use Rattle.tree_model.specs.declared.reply.ShownLink.{ShownLink}
use Rattle.tree_model.specs.declared.tree.Link.{Link}
use Rattle.tree_model.proofs.LinkOrder.{link_total}
use Rattle.tree_model.proofs.ShownLinksLaws.{in_order-map}
use Rattle.list_laws.proofs.StableLaws.{sorted-in_order}
use Rattle.tree_read.specs.Lines.{shown_in}
use Rattle.tree_read.specs.declared.line.Line.{Line}
use Rattle.list_laws.proofs.OrderLaws.{turned}

-- LINKS

abbrev pub link_below : (ℕ → ℕ) → Link → Link → Bool
link_below fold x y = is_lt (compare_links fold x y)

pub link-ranks : (fold : ℕ → ℕ) → IsStrictWeakOrder (link_below fold)
link-ranks fold = ranks_by (link_total fold) (λ (l : Link). l)

pub sorted-links : (fold : ℕ → ℕ) (xs ys : List Link) → IsSortedBy (link_below fold) ys → IsStableBy (link_below fold) xs ys
    → ys ≡ in_order (link_above fold) xs
sorted-links fold xs ys sorted stable =
    sorted-in_order (link_below fold) (link-ranks fold) xs ys sorted stable
    ∙ ap (λ above. in_order above xs) (λ i x y. turned (compare_links fold) (link_total fold) x y i)

-- LINES

abbrev pub line_below : Line → Line → Bool
line_below x y = is_lt (by_numbers x.text.items y.text.items)

text_total : IsTotalOrder by_numbers
text_total = lists_total nat_cmp_total

pub line-ranks : IsStrictWeakOrder line_below
line-ranks = ranks_by text_total (λ (l : Line). l.text.items)

line-above : (x y : Line) → line_below y x ≡ path_above x.shown y.shown
line-above x y =
    turned by_numbers text_total x.text.items y.text.items
    ∙ ap (λ t. is_gt (by_numbers t y.text.items)) x.told
    ∙ ap (λ t. is_gt (by_numbers (path_text x.shown.path) t)) y.told

pub sorted-lines : (xs ys : List Line) → IsSortedBy line_below ys → IsStableBy line_below xs ys
    → shown_in ys ≡ in_order path_above (shown_in xs)
sorted-lines xs ys sorted stable =
    ap shown_in (sorted-in_order line_below line-ranks xs ys sorted stable)
    ∙ in_order-map (λ (l : Line). l.shown) (λ x y. line_below y x) path_above line-above xs

-- a line more
pub lines-more : (f : Link → ShownLink) (links : List Link) (k : ℕ) (link : Link) (old new : List Line) (line : Line) → k < length links
    → link ≡ get_or links k link → new ≡ old ++ line ∷ [] → shown_in old ≡ map f (take k links) → line.shown ≡ f link
    → shown_in new ≡ map f (take (k + 1) links)
lines-more f links k link old new line lt at put before is =
    ap shown_in put ∙ map-append (λ (l : Line). l.shown) old (line ∷ [])
    ∙ ap (λ xs. xs ++ line.shown ∷ []) before
    ∙ ap (λ x. map f (take k links) ++ x ∷ []) (is ∙ ap f at)
    ∙ sym (ap (map f) (take_more links k link lt) ∙ map-append f (take k links) (get_or links k link ∷ []))

-- HOW MANY LINKS lead to a file that is shown: as many as it has names.
use Rattle.std.proofs.Common.{◌≡◌, ◌+◌, not, ℕ, Bool, true, false, List, filter, length, Some, refl, sym, ap, ◌∙◌, arith}
use Rattle.std.proofs.lemmas.List.{length-append, length-map}
use Rattle.std.proofs.lemmas.List.Elements.{filter-append}
use Rattle.std.proofs.lemmas.List.Filters.{length-filter_both}
use Rattle.std.proofs.lemmas.List.Sums.{length-filter}
use Rattle.list_laws.proofs.FilterLaws.{filter-swap}
use Rattle.list_laws.proofs.OrderedLaws.{count-in_order}
use Rattle.list_laws.specs.Ordered.{in_order}
use Rattle.volume_def.specs.CaseClause.{volume_fold}
use Rattle.volume_def.specs.FileNames.{names_of}
use Rattle.volume_def.specs.Files.{records_of}
use Rattle.volume_def.specs.View.{VolumeView}
use Rattle.tree_model.specs.Reading.{all_links, is_hidden_link, link_for, node_at, read}
use Rattle.tree_model.specs.Tree.{leads_to, link_above}
use Rattle.tree_model.specs.declared.tree.Link.{Link}
use Rattle.tree_model.specs.declared.tree.Node.{Node}
use Rattle.tree_model.proofs.NamesLaws.{is_shown, links-of}
use Rattle.in_place_owed.specs.SetsInPlace.{links_of}

-- of some links put in order
in-order : (view : VolumeView) (p : Link → Bool) (links : List Link)
    → length (filter p (in_order (link_above (volume_fold view)) links)) ≡ length (filter p links)
in-order view p links =
    length-filter p (in_order (link_above (volume_fold view)) links)
    ∙ count-in_order (link_above (volume_fold view)) p links
    ∙ sym (length-filter p links)

-- those that are shown and those that are hidden are all
split : (p q : Link → Bool) (links : List Link)
    → length (filter p (filter (λ l. not (q l)) links)) + length (filter p (filter q links)) ≡ length (filter p links)
split p q links =
    let both = length-filter_both (λ l. not (q l)) q (λ l. twice (q l)) (filter p links) in
    let shown = ap length (filter-swap p (λ l. not (q l)) links) in
    let hides = ap length (filter-swap p q links) in
    omega (arith, both, shown, hides)
  where
    twice : (b : Bool) → b ≡ not (not b)
    twice true = refl
    twice false = refl

pub links-count : (view : VolumeView) (f : ℕ) (node : Node) → node_at view f ≡ Some node
    → links_of (read view) f ≡ length (names_of (records_of view) f)
unfolding read
links-count view f node there =
    let p = leads_to f in
    let all = all_links view in
    let q = is_hidden_link view in
    let ends = ap length (filter-append p (read view).links (read view).hidden)
    ∙ length-append (filter p (read view).links) (filter p (read view).hidden) in
    let shown = in-order view p (filter (λ l. not (q l)) all) in
    let hides = in-order view p (filter q all) in
    let both = split p q all in
    let names = ap length (links-of view f (is_shown view f node there)) ∙ length-map (names_of (records_of view) f) (link_for f) in
    omega (arith, ends, shown, hides, both, names)

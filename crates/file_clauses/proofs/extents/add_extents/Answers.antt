use Rattle.std.proofs.Common.{◌≡◌, ℕ, ◌∷◌, ◌++◌, List, [], map, sym, ap, ◌∙◌, append-nil, append_assoc}
use Rattle.std.proofs.lemmas.List.{map-append}
use Rattle.ntfs_def.specs.Attribute.{Attribute}
use Rattle.attr_view.specs.Left.{attributes_left}
use Rattle.attr_view.specs.View.{attribute_of}
use Rattle.volume_def.specs.Files.{part_of}
use Rattle.file_clauses.specs.declared.extents.Extent.{Extent}
use Rattle.file_clauses.specs.Extents.{Outline, outline_of, outlined}
use Rattle.file_clauses.proofs.extents.add_extents.Goals as goal

abbrev outlines_of : ℕ → List Attribute → List Outline
outlines_of n attributes = map outline_of (map (part_of n) attributes)

pub loop-attribute-init : goal.loop-attribute-init
loop-attribute-init c = λ n.
    ap (λ xs. map outlined c.args.extents.now.items ++ outlines_of n xs)
    (ap attributes_left c.into_iter-attribute-iterator.ensures.into_iter_gives ∙ c.attributes-attribute-items.ensures)

one_more : (n : ℕ) (items pushed : List Extent) (extent : Extent) (left rest : List Attribute) (all : List Outline) (attribute : Attribute)
    → pushed ≡ items ++ extent ∷ [] → left ≡ attribute ∷ rest → outlined extent ≡ outline_of (part_of n attribute)
    → map outlined items ++ outlines_of n left ≡ all → map outlined pushed ++ outlines_of n rest ≡ all
one_more n items pushed extent left rest all attribute more step same before =
    ap (λ es. map outlined es ++ outlines_of n rest) more
    ∙ ap (λ os. os ++ outlines_of n rest) (map-append outlined items (extent ∷ []))
    ∙ append_assoc (map outlined items) (outlined extent ∷ []) (outlines_of n rest)
    ∙ ap (λ o. map outlined items ++ o ∷ outlines_of n rest) same
    ∙ sym (ap (λ xs. map outlined items ++ outlines_of n xs) step)
    ∙ before

pub loop-attribute-preserved : goal.loop-attribute-preserved
loop-attribute-preserved c = λ n.
    one_more n c.loop-attribute.extents.items c.push.new.self.items c.in_ok-new.field-0 _ (attributes_left c.next.new.self) _
    (attribute_of c.in-Some.attribute)
    c.in_ok-push.ensures.items c.in-Some.ensures.steps (c.in_ok-new.ensures n) (c.loop-attribute.invariant n)

pub returns : goal.returns
returns c = λ n.
    sym (append-nil (map outlined c.loop-attribute.extents.items))
    ∙ sym (ap (λ xs. map outlined c.loop-attribute.extents.items ++ outlines_of n xs) c.in-None.ensures.steps.0)
    ∙ c.loop-attribute.invariant n

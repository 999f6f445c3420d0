-- The attributes of a record from one of them on.
use Rattle.std.proofs.Common.{◌≡◌, ℕ, ◌+◌, ◌<◌, List, [], ◌∷◌, length, drop, Some, sym, ap, ◌∙◌, arith, length-drop}
use Rattle.std.proofs.lemmas.Option.{slice_get_within, get_or_from_slice_get}
use Rattle.std.proofs.lemmas.List.{drop_all, drop_more}
use Rattle.ntfs_def.specs.Attribute.{attribute_at, attribute_place, attributes}
use Rattle.ntfs_def.specs.Shape.{HasShape}
use Rattle.ntfs_def.proofs.AttributeLaws.{length-attributes, slice_get-attributes}

-- the next one stands at its place, and the others follow it
pub left-more : (block : List ℕ) (count next at : ℕ) → HasShape block count → next < count → at ≡ attribute_place block next
    → drop next (attributes block) ≡ attribute_at block at ∷ drop (next + 1) (attributes block)
left-more block count next at shape inside place =
    let read = slice_get-attributes block count next shape inside ∙ ap (λ (p : ℕ). Some (attribute_at block p)) (sym place) in
    drop_more (attributes block) next (attribute_at block at) (slice_get_within (attributes block) next _ read)
    ∙ ap (λ x. x ∷ drop (next + 1) (attributes block)) (get_or_from_slice_get (attributes block) next _ (attribute_at block at) read)

-- behind the last one there is none
pub left-none : (block : List ℕ) (count next : ℕ) → HasShape block count → next ≡ count → drop next (attributes block) ≡ []
left-none block count next shape end = drop_all next (attributes block) (omega (arith, length-attributes block count shape))

-- each one takes one from those that are left
pub left-fewer : (block : List ℕ) (count next : ℕ) → HasShape block count → next < count
    → length (drop (next + 1) (attributes block)) < length (drop next (attributes block))
left-fewer block count next shape inside =
    simp length-drop (omega (arith, length-attributes block count shape))

use Rattle.std.proofs.Common.{◌≡◌, ◌&&◌, ◌==◌, ℕ, not, Bool, Bor, true, false, List, Option, Some, None, refl, sym, ap, ◌∙◌}
use Rattle.std.proofs.lemmas.List.Sums.{length-filter}
use Rattle.std.specs.Prelude.{IsSomeAnd, is_some, length, slice_get}
use Rattle.std.specs.List.{count_by}
use Rattle.std.specs.Option.{option_copied}
use Rattle.ntfs_def.specs.Attribute.{Attribute, Body, NonResident, Resident, value_of}
use Rattle.attr_view.specs.View.{attribute_of}
use Rattle.volume_def.specs.Files.{Part, content_extent, content_of, is_of, part_of, parts_like}
use Rattle.file_record.specs.Held.{parts_held}
use Rattle.tree_edit.proofs.extent.lies_alone.Goals as goal

some-weaker : {X : Type 0} (o : Option X) (P Q : X → Type 0) → ((x : X) → P x → Q x) → IsSomeAnd o P → IsSomeAnd o Q
some-weaker None P Q more some = absurd some
some-weaker (Some x) P Q more some = more x some

copied : (o : Option (Bor (List ℕ))) → is_some o ≡ is_some (option_copied o)
copied None = refl
copied (Some x) = refl

-- a part is no value where it lies in clusters
lies : (body : Body) (b : Bool) → is_some (value_of body) ≡ b → is_some (content_extent (content_of body)) ≡ not b
lies (Resident value) true e = refl
lies (NonResident extent text) false e = refl
lies (Resident value) false e = let never : true ≡ false = e in absurd (cc)
lies (NonResident extent text) true e = let never : false ≡ true = e in absurd (cc)

in-clusters : (part : Part) (a : Attribute) → part ≡ part_of part.holder a → (b : Bool) → is_some (value_of a.body) ≡ b
    → is_some (content_extent part.content) ≡ not b
in-clusters part a is b e = ap (λ (p : Part). is_some (content_extent p.content)) is ∙ lies a.body b e

-- and those that are like it are of its type and name
like : (part : Part) (a : Attribute) (parts : List Part) → part ≡ part_of part.holder a
    → length (parts_like part parts) ≡ count_by (is_of a.kind a.name) parts
like part a parts is = ap (λ (p : Part). length (parts_like p parts)) is ∙ length-filter (is_of a.kind a.name) parts

pub returns-then-is_some : goal.returns-then-is_some
returns-then-is_some c =
    let parts = parts_held c.args.file.now in
    let a = attribute_of c.attr-attribute.result in
    some-weaker (slice_get parts c.args.part) _ _ (λ (part : Part) is.
    sym (ap (λ b. b && (length (parts_like part parts) == 1))
    (in-clusters part a is true (ap (λ (o : Option (List ℕ)). is_some o) (sym c.value.ensures) ∙ sym (copied c.value.result)
    ∙ sym c.is_some.ensures ∙ c.if-is_some.true)))) c.attr-attribute.ensures.part

pub returns : goal.returns
returns c =
    let parts = parts_held c.args.file.now in
    let a = attribute_of c.attr-attribute.result in
    some-weaker (slice_get parts c.args.part) _ _ (λ (part : Part) is.
    ap (λ n. n == 1) (c.count_of.ensures ∙ ap (λ k. count_by (is_of k c.name.result.now) parts) c.kind.ensures
    ∙ ap (λ (name : List ℕ). count_by (is_of a.kind name) parts) c.name.ensures ∙ sym (like part a parts is))
    ∙ sym (ap (λ b. b && (length (parts_like part parts) == 1))
    (in-clusters part a is false (ap (λ (o : Option (List ℕ)). is_some o) (sym c.value.ensures) ∙ sym (copied c.value.result)
    ∙ sym c.is_some.ensures ∙ c.if-is_some.false)))) c.attr-attribute.ensures.part

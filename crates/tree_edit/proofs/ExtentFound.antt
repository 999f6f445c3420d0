-- WHETHER A STREAM THAT WAS FOUND LIES IN CLUSTERS, in one part, of a file without an attribute list: by its attribute at its place, and by
-- how many are like it.
use Rattle.std.proofs.Common.{◌≡◌, ◌&&◌, ◌==◌, ℕ, Bool, true, false, not, List, length, Option, Some, refl, sym, ap, subst, ◌∙◌}
use Rattle.std.proofs.lemmas.Bool.{and_parts}
use Rattle.std.specs.Prelude.{IsSomeAnd, is_some, slice_get}
use Rattle.std.specs.List.{list_any}
use Rattle.ntfs_def.specs.Attribute.{Attribute}
use Rattle.volume_def.specs.CaseClause.{case_parts}
use Rattle.volume_def.specs.Files.{Part, content_extent, part_of, parts, parts_like, records_of}
use Rattle.volume_def.specs.ListsClause.{is_list}
use Rattle.volume_def.specs.Sound.{IsSound}
use Rattle.volume_def.specs.Table.{cluster_bytes}
use Rattle.volume_def.specs.Values.{first_part, value_on}
use Rattle.volume_def.specs.View.{VolumeView}
use Rattle.mft_table.specs.declared.mounted.Mounted.{Mounted}
use Rattle.file_record.specs.declared.base.BaseFile.{BaseFile}
use Rattle.dir_index.proofs.StandardLaws.{at-among}
use Rattle.sparse_io.specs.Held.{IsHeldWith, IsStream}
use Rattle.sparse_io.specs.declared.find.FoundStream.{FoundStream}
use Rattle.sparse_io.proofs.OverLaws.{first-like, named-like}
use Rattle.tree_model.specs.StreamRoom.{parts_named}
use Rattle.tree_model.specs.Ways.{has_no_list, in_extent}
use Rattle.file_room.specs.Nodes.{IsNodeHeld, number_of, parts_in}
use Rattle.file_room.proofs.NodeLaws.{held-with}
use Rattle.tree_edit.specs.Alone.{can_give}
use Rattle.tree_edit.specs.Settable.{is_editable}
use Rattle.tree_edit.specs.Writable.{AreNames, IsMountedAs}
use Rattle.tree_edit.proofs.EditableLaws.{edit-is}
use Rattle.tree_edit.proofs.RoomFound.{attribute-of}

-- the parts of a file are held
pub list-held : (view : VolumeView) (held : BaseFile) → IsNodeHeld view held
    → list_any is_list (parts_in held) ≡ list_any is_list (parts (records_of view) (number_of held))
list-held view held n = ap (list_any is_list) n.parts.parts

module _ (view : VolumeView) (mounted : Mounted) (held : BaseFile) (mounts : IsMountedAs view mounted (cluster_bytes view.layout))
    (sound : IsSound view) (n : IsNodeHeld view held) (name : List ℕ) (found : FoundStream) (is : IsStream view held.parts name found) where
  abbrev number : ℕ
  number = number_of held

  abbrev editable : Bool
  editable = is_editable mounted held.parts

  abbrev in_one : List Part → Bool
  in_one ps = in_extent (first_part ps) && ((length ps == 1) && has_no_list view number)

  abbrev named : List Part
  named = parts_named view number is.stream.name

  give-is : can_give view name number ≡ (editable && in_one named)
  give-is = edit-is view mounted (cluster_bytes view.layout) held mounts sound n name found is in_one

  pub give-editable : can_give view name number ≡ true → editable ≡ true
  give-editable can = (and_parts editable (in_one named) (sym give-is ∙ can)).0

  pub give-not : editable ≡ false → false ≡ can_give view name number
  give-not e = sym (give-is ∙ ap (λ b. b && in_one named) e)

  pub give-listed : list_any is_list (parts_in held) ≡ true → false ≡ can_give view name number
  give-listed listed =
      sym (give-is ∙ ap (λ b. editable && (in_extent (first_part named) && ((length named == 1) && not b)))
      (sym (list-held view held n) ∙ listed) ∙ never editable (in_extent (first_part named)) (length named == 1))
    where
      never : (a b c : Bool) → (a && (b && (c && false))) ≡ false
      never true true true = refl
      never true true false = refl
      never true false c = refl
      never false b c = refl

  module _ (names : AreNames (parts_in held)) where
    abbrev table : List ℕ
    table = value_on view (case_parts view)

    h : IsHeldWith view table held.parts
    h = held-with view held n table refl

    attribute : (a : Attribute) × (is.part ≡ part_of is.part.holder a)
    attribute = attribute-of held.parts is.part (at-among (parts_in held) found.part is.part is.at)

    at : IsSomeAnd (slice_get (parts_in held) found.part) (λ part. part ≡ part_of part.holder attribute.0)
    at = subst (λ (o : Option Part). IsSomeAnd o (λ part. part ≡ part_of part.holder attribute.0)) (sym is.at) attribute.1

    alike : parts_like (part_of 0 attribute.0) (parts_in held) ≡ parts_like is.part (parts_in held)
    alike = ap (λ (p : Part). parts_like p (parts_in held)) (sym attribute.1)

    like : named ≡ parts_like is.part (parts_in held)
    like = named-like view table name held.parts found h is attribute.0 at names ∙ alike

    first : first_part named ≡ Some is.part
    first =
        ap first_part (named-like view table name held.parts found h is attribute.0 at names)
        ∙ first-like view table name held.parts found h is attribute.0 at names

    pub give-so : editable ≡ true → list_any is_list (parts_in held) ≡ false → (lies : Bool)
        → IsSomeAnd (slice_get (parts_in held) found.part)
        (λ part. lies ≡ (is_some (content_extent part.content) && (length (parts_like part (parts_in held)) == 1)))
        → lies ≡ can_give view name number
    give-so e unlisted lies tells =
        subst (λ (o : Option Part). IsSomeAnd o
        (λ part. lies ≡ (is_some (content_extent part.content) && (length (parts_like part (parts_in held)) == 1)))) is.at tells
        ∙ sym (give-is ∙ ap (λ b. b && in_one named) e
        ∙ ap (λ b. in_extent (first_part named) && ((length named == 1) && not b)) (sym (list-held view held n) ∙ unlisted)
        ∙ ap (λ o. in_extent o && ((length named == 1) && true)) first
        ∙ ap (λ (ps : List Part). is_some (content_extent is.part.content) && ((length ps == 1) && true)) like
        ∙ ap (λ b. is_some (content_extent is.part.content) && b) (and-true (length (parts_like is.part (parts_in held)) == 1)))
      where
        and-true : (b : Bool) → (b && true) ≡ b
        and-true true = refl
        and-true false = refl

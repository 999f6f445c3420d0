-- A record that is held into which an attribute came, from which one went, or of which one was replaced or resized: what the volume has.
use Rattle.std.proofs.Common.{◌≡◌, ◌<◌, ℕ, zero, suc, List, [], ◌∷◌, Some, get_or, insert, remove, length, set}
use Rattle.std.proofs.Common.{slice_get, refl, sym, ap, subst, ◌∙◌, arith}
use Rattle.std.specs.Prelude.{IsTrue, slice_index}
use Rattle.std.specs.Option.{option_map}
use Rattle.list_laws.proofs.OptionLaws.{some_same}
use Rattle.list_laws.proofs.ReplacesLaws.{Replaces-insert}
use Rattle.list_laws.specs.Replaces.{Replaces}
use Rattle.ntfs_def.specs.Attribute.{Attribute, attribute_at, attribute_id, attributes, value_of}
use Rattle.ntfs_def.specs.Fixup.{Seals, opened_of}
use Rattle.ntfs_def.specs.Record.{Header, header_of, next_attribute_id}
use Rattle.ntfs_def.specs.Shape.{HasShape}
use Rattle.ntfs_def.proofs.AttributeLaws.{length-attributes, slice_get-attributes}
use Rattle.attr_view.specs.Edit.{Inserts, Removes, next_id_after, with_next_id}
use Rattle.attr_view.specs.Values.{ChangesBody, Resizes, attribute_in, with_length}
use Rattle.volume_def.specs.Edits.{KeepsRecordHeader}
use Rattle.volume_def.specs.View.{ReplacesBlock, VolumeView}
use Rattle.file_record.specs.declared.held.Held.{Held}
use Rattle.file_record.specs.declared.parts.FileParts.{FileParts}
use Rattle.file_record.specs.Attributes.{ChangesValue, InsertsAttribute, PutsIn, PutsInValue, PutsInstead, RemovesAttribute}
use Rattle.file_record.specs.Attributes.{ReplacesAttribute, ResizesAttribute, header_after, with_bytes_at}
use Rattle.file_record.specs.Held.{held_of}
use Rattle.file_record.specs.Written.{IsWholeFile}
use Rattle.file_record.proofs.OverwriteLaws.{resized-indexed}
use Rattle.file_record.proofs.EditLaws.{EditsHeld, header-is, header-stays, header-was, list-is, list-was, part-edited}
use Rattle.file_record.proofs.WriteLaws.{EditsHeld-changed, Replaces-changed, Replaces-set, same-header}

-- An item that went, and one that came in its place.
Replaces-remove : {A : Type 0} (xs : List A) (i : ℕ) (x : A) → slice_get xs i ≡ Some x → Replaces xs (remove xs i) (x ∷ []) []
Replaces-remove [] i x h = cc
Replaces-remove (z ∷ zs) zero x h = record { before = []; after = zs; old_is = ap (λ w. w ∷ zs) (some_same h); new_is = refl }
Replaces-remove (z ∷ zs) (suc i) x h =
    let r = Replaces-remove zs i x h in
    record { before = z ∷ r.before; after = r.after; old_is = ap (λ w. z ∷ w) r.old_is; new_is = ap (λ w. z ∷ w) r.new_is }

insert-removed : {A : Type 0} (xs : List A) (i : ℕ) (x : A) → i < length xs → insert (remove xs i) i x ≡ set xs i x
insert-removed [] i x lt = absurd (omega arith)
insert-removed (z ∷ zs) zero x lt = refl
insert-removed (z ∷ zs) (suc i) x lt = ap (λ w. z ∷ w) (insert-removed zs i x (omega arith))

-- the header with another next id
next-id-of : (block : List ℕ) → (header_of block).next_id ≡ next_attribute_id block
unfolding header_of
next-id-of block = refl

header-inserted : (o o' attr : List ℕ) (i : ℕ) → Inserts o o' attr i → header_of o' ≡ header_after (header_of o) (attribute_id attr 0)
header-inserted o o' attr i puts =
    puts.header ∙ ap (λ n. with_next_id (header_of o) (next_id_after n (attribute_id attr 0))) (sym (next-id-of o))

keeps-but_id : (a b : Header) (id : ℕ) → b ≡ header_after a id → KeepsRecordHeader a b
keeps-but_id a b id e =
    subst (KeepsRecordHeader a) (sym e) (record { sequence = refl; links = refl; flags = refl; base = refl; number = refl })

-- Each edit leaves the record one of its file.
pub EditsHeld-inserted : (o o' attr : List ℕ) (i : ℕ) → Inserts o o' attr i → EditsHeld o o'
EditsHeld-inserted o o' attr i puts = record { shape = puts.shape; base = ap (λ (h : Header). h.base) puts.header; in_use = puts.in_use }

pub EditsHeld-removed : (o o' : List ℕ) (i : ℕ) → Removes o o' i → EditsHeld o o'
EditsHeld-removed o o' i takes = record { shape = takes.shape; base = ap (λ (h : Header). h.base) takes.header; in_use = takes.in_use }

pub EditsHeld-replaced : (o o' attr : List ℕ) (i : ℕ) → PutsInstead o o' attr i → EditsHeld o o'
EditsHeld-replaced o o' attr i puts = record { shape = puts.shape; base = ap (λ (h : Header). h.base) puts.header; in_use = puts.in_use }

-- A removal and then an insertion at the same place are a replacement.
pub puts-instead : (o m o' attr : List ℕ) (i : ℕ) → i < length (attributes o) → Removes o m i → Inserts m o' attr i
    → PutsInstead o o' attr i
puts-instead o m o' attr i lt takes puts = record {
  shape = puts.shape;
  as_many = omega (arith, takes.one_less, puts.one_more);
  header = header-inserted m o' attr i puts ∙ ap (λ (h : Header). header_after h (attribute_id attr 0)) takes.header;
  in_use = puts.in_use ∙ takes.in_use;
  used = omega (arith, takes.bytes.used, puts.bytes.used);
  attributes = puts.attributes ∙ ap (λ xs. insert xs i (attribute_at attr 0)) takes.attributes
      ∙ insert-removed (attributes o) i (attribute_at attr 0) lt;
}

-- THE FILE. Record k of those that are held was edited.
module _ (old new : VolumeView) (file : FileParts) (k i : ℕ) (one now : Held) (told : IsTrue old.told) (whole : IsWholeFile old file)
    (is : one ≡ get_or (held_of file) k one) (inside : k < length (held_of file)) (same : now.number ≡ one.number)
    (stored : List ℕ) (seals : Seals now.block stored) (replaces : ReplacesBlock old new one.number stored) where
  abbrev a : Attribute
  a = attribute_in one.block i

  one-shape : HasShape one.block (length (attributes one.block))
  one-shape = subst (HasShape one.block) (sym (length-attributes one.block one.count one.shape)) one.shape

  there-held : i < length (attributes one.block) → slice_get (attributes one.block) i ≡ Some a
  there-held lt = slice_get-attributes one.block _ i one-shape lt

  there-was : EditsHeld one.block now.block → i < length (attributes one.block)
      → slice_get (attributes (opened_of (old.block one.number))) i ≡ Some a
  there-was edits lt =
      ap (λ xs. slice_get xs i) (sym (list-was old new file k one now stored told whole is inside same edits seals replaces))
      ∙ there-held lt

  pub attribute-inserted : (attr : List ℕ) → Inserts one.block now.block attr i → InsertsAttribute old new one.number i attr
  attribute-inserted attr puts =
      let edits = EditsHeld-inserted one.block now.block attr i puts in
      let header = header-inserted one.block now.block attr i puts in
      record {
        stored = stored;
        edits = part-edited old new file k one now stored told whole is inside same edits seals replaces [] (attribute_at attr 0 ∷ [])
            (keeps-but_id _ _ (attribute_id attr 0) header)
            (subst (λ xs. Replaces (attributes one.block) xs [] (attribute_at attr 0 ∷ [])) (sym puts.attributes)
            (Replaces-insert (attributes one.block) i (attribute_at attr 0)));
        header_is = header-is old new file k one now stored told whole is inside same edits seals replaces ∙ header
            ∙ ap (λ (h : Header). header_after h (attribute_id attr 0))
            (header-was old new file k one now stored told whole is inside same edits seals replaces);
        attributes_are = list-is old new file k one now stored told whole is inside same edits seals replaces ∙ puts.attributes
            ∙ ap (λ xs. insert xs i (attribute_at attr 0))
            (list-was old new file k one now stored told whole is inside same edits seals replaces);
      }

  pub attribute-removed : i < length (attributes one.block) → Removes one.block now.block i → RemovesAttribute old new one.number i
  attribute-removed lt takes =
      let edits = EditsHeld-removed one.block now.block i takes in
      record {
        stored = stored;
        was = a;
        there = there-was edits lt;
        edits = part-edited old new file k one now stored told whole is inside same edits seals replaces (a ∷ []) []
            (same-header _ _ takes.header)
            (subst (λ xs. Replaces (attributes one.block) xs (a ∷ []) []) (sym takes.attributes)
            (Replaces-remove (attributes one.block) i a (there-held lt)));
        header_is = header-stays old new file k one now stored told whole is inside same edits seals replaces takes.header;
        attributes_are = list-is old new file k one now stored told whole is inside same edits seals replaces ∙ takes.attributes
            ∙ ap (λ xs. remove xs i) (list-was old new file k one now stored told whole is inside same edits seals replaces);
      }

  pub attribute-replaced : (attr : List ℕ) → i < length (attributes one.block) → PutsInstead one.block now.block attr i
      → ReplacesAttribute old new one.number i attr
  attribute-replaced attr lt puts =
      let edits = EditsHeld-replaced one.block now.block attr i puts in
      record {
        stored = stored;
        was = a;
        there = there-was edits lt;
        edits = part-edited old new file k one now stored told whole is inside same edits seals replaces (a ∷ []) (attribute_at attr 0 ∷ [])
            (keeps-but_id _ _ (attribute_id attr 0) puts.header)
            (subst (λ xs. Replaces (attributes one.block) xs (a ∷ []) (attribute_at attr 0 ∷ [])) (sym puts.attributes)
            (Replaces-set (attributes one.block) i a (attribute_at attr 0) (there-held lt)));
        header_is = header-is old new file k one now stored told whole is inside same edits seals replaces ∙ puts.header
            ∙ ap (λ (h : Header). header_after h (attribute_id attr 0))
            (header-was old new file k one now stored told whole is inside same edits seals replaces);
        attributes_are = list-is old new file k one now stored told whole is inside same edits seals replaces ∙ puts.attributes
            ∙ ap (λ xs. set xs i (attribute_at attr 0))
            (list-was old new file k one now stored told whole is inside same edits seals replaces);
      }

  changed-value : (change : List ℕ → List ℕ) → i < length (attributes one.block) → ChangesBody one.block now.block i
      → slice_index (attribute_in now.block i).bytes 0x16 ≡ slice_index (attribute_in one.block i).bytes 0x16
      → value_of (attribute_in now.block i).body ≡ option_map change (value_of (attribute_in one.block i).body)
      → ChangesValue old new one.number i change
  changed-value change lt changes indexed value =
      let edits = EditsHeld-changed one.block now.block i changes in
      record {
        stored = stored;
        was = a;
        now = attribute_in now.block i;
        there = there-was edits lt;
        edits = part-edited old new file k one now stored told whole is inside same edits seals replaces _ _
            (same-header _ _ changes.header) (Replaces-changed one.block now.block i one-shape lt changes);
        header_is = header-stays old new file k one now stored told whole is inside same edits seals replaces changes.header;
        attributes_are = list-is old new file k one now stored told whole is inside same edits seals replaces ∙ changes.attributes
            ∙ ap (λ xs. set xs i (attribute_in now.block i))
            (list-was old new file k one now stored told whole is inside same edits seals replaces);
        kind = changes.kind;
        name = changes.name;
        id = changes.id;
        flags = changes.flags;
        indexed = indexed;
        value = value;
      }

  pub attribute-resized : (len : ℕ) → i < length (attributes one.block) → Resizes one.block now.block i len
      → ResizesAttribute old new one.number i len
  attribute-resized len lt resizes =
      changed-value (with_length len) lt resizes.changes
      (resized-indexed one.block now.block (length (attributes one.block)) i len one-shape lt resizes) resizes.value

  pub attribute-put : (at : ℕ) (from : List ℕ) → i < length (attributes one.block) → PutsIn one.block now.block i at from
      → PutsInValue old new one.number i at from
  attribute-put at from lt puts = changed-value (with_bytes_at at from) lt puts.changes puts.indexed puts.value

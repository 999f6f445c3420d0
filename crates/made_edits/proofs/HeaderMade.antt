-- THE RECORD OF THE NEW FILE: its header, and the headers of its attributes, which are made anew.
use Rattle.std.proofs.Common.{◌≡◌, ◌≤◌, ◌+◌, ◌-◌, ℕ, Bool, List, [], ◌∷◌, length, map, None, Some, refl, sym, ap, subst, inl, inr, ◌∙◌}
use Rattle.std.proofs.Common.{arith}
use Rattle.std.proofs.Common.{if◌then◌else◌}
use Rattle.std.specs.Prelude.{All, IsTrue, slice_index, take}
use Rattle.std.specs.List.{insert}
use Rattle.std.proofs.lemmas.List.{take_all}
use Rattle.list_laws.proofs.MemberLaws.{All-from_Contains, Contains-cases, Contains-only}
use Rattle.ntfs_def.specs.Attribute.{Attribute, Body, NonResident, Resident, attribute_at, attribute_id, attribute_len, attributes}
use Rattle.ntfs_def.specs.Attribute.{value_of}
use Rattle.ntfs_def.specs.Fixup.{opened_of}
use Rattle.ntfs_def.specs.Record.{Header, header_of}
use Rattle.ntfs_def.specs.declared.kinds.TheConstants.{FILE_NAME, STANDARD_INFORMATION}
use Rattle.volume_def.specs.Files.{Part, part_of}
use Rattle.volume_def.specs.Freed.{sequence_at_first, stored_sequence}
use Rattle.volume_def.specs.Table.{cluster_bytes}
use Rattle.volume_def.specs.View.{VolumeView}
use Rattle.record_bytes.specs.AttributeBytes.{indexed_byte, resident_bytes}
use Rattle.record_bytes.proofs.ResidentLaws.{IsResident-bytes}
use Rattle.mft_table.specs.declared.mounted.Mounted.{Mounted}
use Rattle.root_puts.specs.FileRecordAttributes.{header_after}
use Rattle.edit_def.specs.Forms.{IsNewForm, form_of, indexed_in, unit_in}
use Rattle.root_puts.specs.NewFiles.{standard_part}
use Rattle.volume_edits.specs.Rewritten.{with_links}
use Rattle.made_edits.specs.Comes.{ComesNamed, body_bytes, body_kind, body_name, body_value}
use Rattle.made_edits.proofs.BodyParts.{body-is, body-resident}
use Rattle.made_edits.proofs.NewParts.{name-is, name_bytes, one-mapped, value-body}

-- ids of the attributes that come
body-id : (directory : Bool) (size n : ℕ) → attribute_id (body_bytes directory size) 0 ≡ 1
unfolding attribute_at
body-id directory size n = ap (λ (p : Part). p.id) (body-is directory size n)

name-id : (n : ℕ) (key : List ℕ) → length key ≤ 900 → attribute_id (name_bytes key) 0 ≡ 2
unfolding attribute_at
name-id n key short = ap (λ (p : Part). p.id) (name-is n key short)

-- A VALUE made as bytes says of a name alone that it is indexed, and has no unit of compression.
indexed-is : (kind : ℕ) (name : List ℕ) (id : ℕ) (value : List ℕ) → slice_index (resident_bytes kind name id value) 0x16 ≡ indexed_byte kind
unfolding resident_bytes
indexed-is kind name id value = refl

new-form : (a : Attribute) (kind : ℕ) (name : List ℕ) (id : ℕ) (value held : List ℕ) → a.bytes ≡ resident_bytes kind name id value
    → a.kind ≡ kind → value_of a.body ≡ Some held → IsNewForm (form_of a)
new-form a kind name id value held bytes is body = record {
  unit = units a.body body;
  indexed = indexes a.body body ∙ ap (λ (b : List ℕ). slice_index b 0x16) bytes ∙ indexed-is kind name id value
      ∙ ap indexed_byte (sym is);
}
  where
    units : (b : Body) → value_of b ≡ Some held → unit_in a.bytes b ≡ 0
    units (Resident v) e = refl
    units (NonResident extent text) e = cc

    indexes : (b : Body) → value_of b ≡ Some held → indexed_in a.bytes b ≡ slice_index a.bytes 0x16
    indexes (Resident v) e = refl
    indexes (NonResident extent text) e = cc

bytes-of : (bytes : List ℕ) → attribute_len bytes 0 ≡ length bytes → (attribute_at bytes 0).bytes ≡ bytes
unfolding attribute_at
bytes-of bytes e =
    let all : 0 + attribute_len bytes 0 - 0 ≡ length bytes = omega (arith, e) in
    ap (λ k. take k bytes) all ∙ take_all (length bytes) bytes (omega arith)

pub body-form : (directory : Bool) (size n : ℕ) → IsNewForm (form_of (attribute_at (body_bytes directory size) 0))
body-form directory size n =
    let bytes = body_bytes directory size in
    let value = body_value directory size in
    let is = body-is directory size n in
    new-form (attribute_at bytes 0) (body_kind directory) (body_name directory) 1 value value
    (bytes-of bytes (body-resident directory size).one.len) (ap (λ (p : Part). p.kind) is)
    (value-body (attribute_at bytes 0).body value (ap (λ (p : Part). p.content) is))

pub name-form : (n : ℕ) (key : List ℕ) → length key ≤ 900 → IsNewForm (form_of (attribute_at (name_bytes key) 0))
name-form n key short =
    let is = IsResident-bytes FILE_NAME [] 2 key (name_bytes key) (omega arith) (omega arith) (omega arith) refl short
    (λ e. absurd (omega (arith, e))) refl in
    new-form (attribute_at (name_bytes key) 0) FILE_NAME [] 2 key key (bytes-of (name_bytes key) is.one.len)
    (ap (λ (p : Part). p.kind) (name-is n key short))
    (value-body (attribute_at (name_bytes key) 0).body key (ap (λ (p : Part). p.content) (name-is n key short)))

module _ (old new : VolumeView) (was now : Mounted) (n : ℕ) (standard key : List ℕ) (directory : Bool)
    (c : ComesNamed directory old new was now n standard key) (told : IsTrue old.told) (short : length key ≤ 900) where
  abbrev body : List ℕ
  body = body_bytes directory (cluster_bytes old.layout)

  abbrev pub made_header : ℕ → ℕ → Header
  made_header links next = record {
    sequence = sequence_at_first (stored_sequence (old.block n));
    links = links;
    flags = if directory then 3 else 1;
    base = None;
    next_id = next;
    number = n;
  }

  based-is : c.based.block n ≡ c.creates.stored
  based-is = c.creates.replaces.block (subst IsTrue (sym c.stores.writes.told) told)

  bodied-is : c.bodied.block n ≡ c.body.stored
  bodied-is = c.body.edits.replaces.block c.body.edits.told

  named-is : c.named.block n ≡ c.name.stored
  named-is = c.name.edits.replaces.block c.name.edits.told

  new-is : new.block n ≡ c.stored
  new-is = c.counts.replaces.block c.counts.told

  -- THE HEADER
  header-based : header_of (opened_of (c.based.block n)) ≡ made_header 0 1
  header-based =
      ap (λ block. header_of (opened_of block)) based-is ∙ c.creates.is.header
      ∙ ap (λ block. record (made_header 0 1) { sequence = sequence_at_first (stored_sequence block) }) (c.stores.writes.blocks n)

  header-bodied : header_of (opened_of (c.bodied.block n)) ≡ made_header 0 2
  header-bodied =
      ap (λ block. header_of (opened_of block)) bodied-is ∙ c.body.header_is
      ∙ ap (λ (h : Header). header_after h (attribute_id body 0)) header-based
      ∙ ap (header_after (made_header 0 1)) (body-id directory (cluster_bytes old.layout) n)

  header-named : header_of (opened_of (c.named.block n)) ≡ made_header 0 3
  header-named =
      ap (λ block. header_of (opened_of block)) named-is ∙ c.name.header_is
      ∙ ap (λ (h : Header). header_after h (attribute_id (name_bytes key) 0)) header-bodied
      ∙ ap (header_after (made_header 0 2)) (name-id n key short)

  pub header-new : header_of (opened_of (new.block n)) ≡ made_header 1 3
  header-new =
      ap (λ block. header_of (opened_of block)) new-is ∙ c.counts.header ∙ ap (λ (h : Header). with_links h 1) header-named

  -- THE ATTRIBUTES
  pub first-based : (a : Attribute) × (attributes (opened_of c.creates.stored) ≡ a ∷ []) × (part_of n a ≡ standard_part n 0 standard)
  first-based = one-mapped (part_of n) (attributes (opened_of c.creates.stored)) (standard_part n 0 standard) c.creates.is.parts

  abbrev pub first_attribute : Attribute
  first_attribute = first-based.0

  first-bytes : first_attribute.bytes ≡ resident_bytes STANDARD_INFORMATION [] 0 standard
  first-bytes = heads (sym (ap (map (λ (a : Attribute). a.bytes)) first-based.1) ∙ c.creates.is.bytes)
    where
      heads : {A : Type 0} {a b : A} → a ∷ [] ≡ b ∷ [] → a ≡ b
      heads e = cc

  attributes-new : attributes (opened_of (new.block n))
      ≡ first_attribute ∷ attribute_at (name_bytes key) 0 ∷ attribute_at body 0 ∷ []
  attributes-new =
      ap (λ block. attributes (opened_of block)) new-is ∙ c.counts.attributes_are
      ∙ ap (λ block. attributes (opened_of block)) named-is ∙ c.name.attributes_are
      ∙ ap (λ (xs : List Attribute). insert xs 1 (attribute_at (name_bytes key) 0))
      (ap (λ block. attributes (opened_of block)) bodied-is ∙ c.body.attributes_are
      ∙ ap (λ (xs : List Attribute). insert xs 1 (attribute_at body 0))
      (ap (λ block. attributes (opened_of block)) based-is ∙ first-based.1))

  first-form : IsNewForm (form_of first_attribute)
  first-form = new-form first_attribute STANDARD_INFORMATION [] 0 standard standard first-bytes (ap (λ (p : Part). p.kind) first-based.2)
      (value-body first_attribute.body standard (ap (λ (p : Part). p.content) first-based.2))

  pub forms-new : All (λ (a : Attribute). IsNewForm (form_of a)) (attributes (opened_of (new.block n)))
  forms-new = subst (All (λ (a : Attribute). IsNewForm (form_of a))) (sym attributes-new) (All-from_Contains
      (λ (a : Attribute). IsNewForm (form_of a)) (first_attribute ∷ attribute_at (name_bytes key) 0 ∷ attribute_at body 0 ∷ [])
      (λ a among. elim (Contains-cases first_attribute (attribute_at (name_bytes key) 0 ∷ attribute_at body 0 ∷ []) a among) [
        | inl is ↦ subst (λ (a : Attribute). IsNewForm (form_of a)) is first-form
        | inr later ↦ elim (Contains-cases (attribute_at (name_bytes key) 0) (attribute_at body 0 ∷ []) a later) [
          | inl is ↦ subst (λ (a : Attribute). IsNewForm (form_of a)) is (name-form n key short)
          | inr last ↦ subst (λ (a : Attribute). IsNewForm (form_of a)) (Contains-only (attribute_at body 0) a last) (body-form directory
              (cluster_bytes old.layout) n)
        ]
      ]))

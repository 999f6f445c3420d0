-- The bytes of an attribute in clusters that was made of a value.
use Rattle.std.proofs.Common.{◌≡◌, ◌≢◌, ℕ, ◌+◌, ◌*◌, ◌^◌, ◌<◌, ◌≤◌, List, Option, length, refl, sym, ap, ◌∙◌, arith}
use Rattle.std.specs.Prelude.{IsSome}
use Rattle.list_laws.proofs.PieceLaws.{range-long}
use Rattle.vol_bytes.specs.Field.{u16_at}
use Rattle.ntfs_def.specs.declared.kinds.TheConstants.{END}
use Rattle.ntfs_def.specs.declared.run_text.Run.{Run}
use Rattle.ntfs_def.specs.declared.sizes.Sizes.{Sizes}
use Rattle.ntfs_def.specs.Attribute.{Attribute, Body, ExtentHeader, NonResident, Resident, attribute_at, attribute_id}
use Rattle.ntfs_def.specs.Attribute.{attribute_len, name_end, name_offset, name_units, value_of}
use Rattle.ntfs_def.specs.Shape.{IsOneAttribute, IsWhole}
use Rattle.volume_def.specs.Files.{Clusters, Part, Value, content_of}
use Rattle.record_bytes.specs.AttributeBytes.{IsExtent, IsPartBytes, extent_bytes, one_run, runs_at}
use Rattle.edit_def.specs.Forms.{form_of, indexed_in, unit_in}
use Rattle.extent_edits.specs.Numbers.{sizes_over}
use Rattle.extent_edits.proofs.AloneLaws.{bytes-one}
use Rattle.value_moves.specs.Bytes.{MovesAttribute}
use Rattle.value_moves.specs.Moved.{CanBeMoved, form_in_clusters}

-- WHICH ATTRIBUTE can move: a value without flags.
pub CanBeMoved-value : (was : Attribute) → IsSome (value_of was.body) → was.flags ≡ 0 → CanBeMoved was
CanBeMoved-value was some none = by was.body refl some
  where
    by : (body : Body) → was.body ≡ body → IsSome (value_of body) → CanBeMoved was
    by (Resident value) is some = record { value = value; is = ap content_of is; flags = none }
    by (NonResident extent text) is some = absurd (cc)

pub value-moved : (was : Attribute) → CanBeMoved was → IsSome (value_of was.body)
value-moved was can = by was.body can.is
  where
    by : (body : Body) → content_of body ≡ Value can.value → IsSome (value_of body)
    by (Resident value) is = refl
    by (NonResident extent text) is = absurd (cc)

-- THE VALUE: its type and its name, as bytes can tell them.
module _ (block : List ℕ) (at : ℕ) (whole : IsWhole block at) where
  pub kind-other : (attribute_at block at).kind ≢ END
  unfolding attribute_at
  kind-other = whole.kind

  pub length-name : at + attribute_len block at ≤ length block → length (attribute_at block at).name ≡ 2 * name_units block at
  unfolding attribute_at
  length-name inside =
      range-long block (at + name_offset block at) (at + name_end block at) (omega (arith, whole.name_inside, inside)) ∙ omega arith

-- THE EXTENT: it has no unit of compression, and no value that an index holds.
unit-made : (kind : ℕ) (name : List ℕ) (id : ℕ) (sizes : Sizes) (text : List ℕ) → u16_at (extent_bytes kind name id sizes text) 0x22 ≡ 0
unfolding extent_bytes
unit-made kind name id sizes text = refl

header-of-extent : (bytes : List ℕ) (body : Body) (extent : ExtentHeader) (runs : Option (List Run))
    → content_of body ≡ Clusters extent runs → (indexed_in bytes body ≡ 0) × (unit_in bytes body ≡ u16_at bytes 0x22)
header-of-extent bytes (Resident value) extent runs is = absurd (cc)
header-of-extent bytes (NonResident header text) extent runs is = (refl, refl)

id-of : (bytes : List ℕ) → (attribute_at bytes 0).id ≡ attribute_id bytes 0
unfolding attribute_at
id-of bytes = refl

-- THE VALUE MOVED.
module _ (was : Attribute) (new : List ℕ) (bytes real initialized : ℕ) (run : Run) (sizes : Sizes)
    (are : sizes ≡ sizes_over run.len bytes real initialized) (made : IsExtent new was.kind was.name was.id sizes run)
    (one : IsOneAttribute new) (part : IsPartBytes new was.kind was.name was.id (one_run sizes run)) where
  content : content_of (attribute_at new 0).body ≡ one_run (sizes_over run.len bytes real initialized) run
  content = ap (λ (p : Part). p.content) (part 0) ∙ ap (λ s. one_run s run) are

  kind : (attribute_at new 0).kind ≡ was.kind
  kind = ap (λ (p : Part). p.kind) (part 0)

  name : (attribute_at new 0).name ≡ was.name
  name = ap (λ (p : Part). p.name) (part 0)

  id : (attribute_at new 0).id ≡ was.id
  id = ap (λ (p : Part). p.id) (part 0)

  unit : u16_at (attribute_at new 0).bytes 0x22 ≡ 0
  unit =
      ap (λ (xs : List ℕ). u16_at xs 0x22) (bytes-one new one ∙ made.all)
      ∙ unit-made was.kind was.name was.id sizes made.text

  form : form_of (attribute_at new 0) ≡ form_in_clusters was
  form =
      let tells = header-of-extent (attribute_at new 0).bytes (attribute_at new 0).body _ _ content in
      λ i. record { kind = kind i; name = name i; indexed = tells.0 i; unit = (tells.1 ∙ unit) i }

  pub MovesAttribute-made : CanBeMoved was → was.id < 2 ^ 16 → length new ≤ runs_at was.name + 24
      → MovesAttribute bytes run real initialized was new
  MovesAttribute-made can small most = record {
    one = one;
    most = most;
    kind = kind;
    name = name;
    id = id;
    small = omega (arith, id-of new, id, small);
    flags = ap (λ (p : Part). p.flags) (part 0) ∙ sym can.flags;
    becomes = record { can = can; content = content; form = form };
  }

-- A VALUE that stands alone: what it shows, and what its header tells.
use Rattle.std.proofs.Common.{◌≡◌, ℕ, List, [], ◌∷◌, Some, false, refl, sym, ap, ◌∙◌}
use Rattle.std.specs.Prelude.{IsSome, slice_index}
use Rattle.std.proofs.lemmas.Bool.{eq-eqb}
use Rattle.list_laws.proofs.FindLaws.{find-yes}
use Rattle.list_laws.proofs.OptionLaws.{some_same}
use Rattle.ntfs_def.specs.Attribute.{Attribute, Body, NonResident, Resident, value_of}
use Rattle.ntfs_def.specs.Flags.{is_packed}
use Rattle.volume_def.specs.Files.{Part, Value, content_of, parts_at}
use Rattle.volume_def.specs.Values.{first_part, first_vcn_of, is_first}
use Rattle.volume_def.specs.View.{VolumeView}
use Rattle.edit_def.specs.Forms.{form_of, indexed_in, unit_in}
use Rattle.edit_def.specs.Kept.{Key}
use Rattle.stream_edits.specs.Streams.{ShowsBytes}
use Rattle.stream_edits.proofs.EditedStreams.{value-held}

-- a value by its bytes
pub value-there : (body : Body) → IsSome (value_of body) → (value : List ℕ) × (value_of body ≡ Some value)
value-there (Resident value) is = (value, refl)
value-there (NonResident extent text) is = cc

pub value-content : (body : Body) (value : List ℕ) → value_of body ≡ Some value → content_of body ≡ Value value
value-content (Resident value) other e = ap Value (some_same e)
value-content (NonResident extent text) other e = cc

-- WHAT IT SHOWS
pub alone-first : (part : Part) (value : List ℕ) → part.content ≡ Value value → first_part (part ∷ []) ≡ Some part
alone-first part value content = find-yes is_first part (eq-eqb (first_vcn_of part.content) 0 (ap first_vcn_of content))

pub alone-shown : (view : VolumeView) (key : Key) (part : Part) (value : List ℕ)
    → parts_at view key.file key.kind key.name ≡ part ∷ [] → part.content ≡ Value value → is_packed key.kind part.flags ≡ false
    → ShowsBytes view key value
alone-shown view key part value alone content plain = value-held view key part.flags value (record {
  part = part;
  only = ap first_part alone ∙ alone-first part value content;
  flags_are = refl;
  content = content;
}) plain

-- WHAT ITS HEADER TELLS: whether it is indexed, and no unit of compression
flag-told : (bytes : List ℕ) (body : Body) → IsSome (value_of body) → indexed_in bytes body ≡ slice_index bytes 0x16
flag-told bytes (Resident value) is = refl
flag-told bytes (NonResident extent text) is = cc

unit-none : (bytes : List ℕ) (body : Body) → IsSome (value_of body) → unit_in bytes body ≡ 0
unit-none bytes (Resident value) is = refl
unit-none bytes (NonResident extent text) is = cc

pub form-same : (was now : Attribute) → IsSome (value_of was.body) → IsSome (value_of now.body) → now.kind ≡ was.kind
    → now.name ≡ was.name → slice_index now.bytes 0x16 ≡ slice_index was.bytes 0x16 → form_of now ≡ form_of was
form-same was now of_was of_now kind name indexed =
    let flag : indexed_in now.bytes now.body ≡ indexed_in was.bytes was.body =
    flag-told now.bytes now.body of_now ∙ indexed ∙ sym (flag-told was.bytes was.body of_was) in
    let unit : unit_in now.bytes now.body ≡ unit_in was.bytes was.body =
    unit-none now.bytes now.body of_now ∙ sym (unit-none was.bytes was.body of_was) in
    λ i. record { kind = kind i; name = name i; indexed = flag i; unit = unit i }

-- One index of a file, as far as its parts were gone over: what is known of them where these are the parts that are left.
use Rattle.std.specs.Prelude.{◌≡◌, ℕ, List, [], ◌∷◌, filter, map, Option, Some}
use Rattle.ntfs_def.specs.declared.kinds.TheConstants.{BITMAP, INDEX_ALLOCATION, INDEX_ROOT}
use Rattle.volume_def.specs.Files.{Part, content_value, is_of}
use Rattle.attr_store.specs.FileParts.{FileParts}
use Rattle.attr_store.specs.First.{FirstMet, attribute_held}
use Rattle.index_store.specs.declared.parts_met.Root.{Root}
use Rattle.index_store.specs.declared.parts_met.Root.TheVariants.{Missing, Only, Refused}
use Rattle.index_store.specs.declared.parts_met.PartsMet.{PartsMet}

-- the values of these parts
abbrev pub values_of : List Part → List (Option (List ℕ))
values_of parts = map (λ part. content_value part.content) parts

-- the roots of a name: none was met, one with this value, or they are not one value whatever is left
abbrev pub RootMet : FileParts → List ℕ → List Part → Root → Type 0
RootMet file name left Missing = values_of (attribute_held file INDEX_ROOT name) ≡ values_of (filter (is_of INDEX_ROOT name) left)
RootMet file name left (Only value) =
    values_of (attribute_held file INDEX_ROOT name) ≡ Some value.now ∷ values_of (filter (is_of INDEX_ROOT name) left)
RootMet file name left Refused = (value : List ℕ) → ¬ (values_of (attribute_held file INDEX_ROOT name) ≡ Some value ∷ [])

-- .. and all parts of the index
pub record ArePartsMet (file : FileParts) (name : List ℕ) (left : List Part) (seen : PartsMet) : Type 0 where
  pub root : RootMet file name left seen.root
  pub records : FirstMet file INDEX_ALLOCATION name left seen.records
  pub bits : FirstMet file BITMAP name left seen.bits

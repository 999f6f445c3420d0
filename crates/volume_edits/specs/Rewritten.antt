-- A RECORD OF THE TABLE THAT WAS WRITTEN with other attributes, with another value of one, or with another count of links.
use Rattle.std.specs.Prelude.{◌≡◌, ◌<◌, ℕ, List, [], ◌∷◌, IsTrue}
use Rattle.ntfs_def.specs.Attribute.{Attribute, attributes}
use Rattle.ntfs_def.specs.Fixup.{opened_of}
use Rattle.ntfs_def.specs.Record.{Header, header_of, is_in_use}
use Rattle.list_laws.specs.Replaces.{Replaces}
use Rattle.volume_def.specs.Edits.{KeepsRecordHeader}
use Rattle.volume_def.specs.Table.{IsWellFormed}
use Rattle.volume_def.specs.View.{ReplacesBlock, VolumeView}

-- Block n of the volume was replaced by this one, which can be read; its record stays in use with its header, and has the attributes `now`
-- in place of `was`. Nothing else of the volume changed but the block's copy, where it has one.
pub record EditsBlock (old new : VolumeView) (n : ℕ) (stored : List ℕ) (was now : List Attribute) : Type 0 where
  pub told : IsTrue old.told
  pub replaces : ReplacesBlock old new n stored
  pub inside : n < old.layout.count
  pub used : IsTrue (is_in_use (old.block n))
  pub used_still : IsTrue (is_in_use stored)
  pub well : IsWellFormed stored
  pub header : KeepsRecordHeader (header_of (opened_of (old.block n))) (header_of (opened_of stored))
  pub attributes_are : Replaces (attributes (opened_of (old.block n))) (attributes (opened_of stored)) was now

-- .. one attribute in place of one
abbrev pub RewritesRecord : VolumeView → VolumeView → ℕ → List ℕ → Attribute → Attribute → Type 0
RewritesRecord old new n stored was now = EditsBlock old new n stored (was ∷ []) (now ∷ [])

abbrev pub with_links : Header → ℕ → Header
with_links header links = record header { links = links }

-- Block n was replaced by this one, whose record counts so many links, and has all else of its header and all attributes as before.
pub record CountsLinks (old new : VolumeView) (n : ℕ) (stored : List ℕ) (links : ℕ) : Type 0 where
  pub told : IsTrue old.told
  pub replaces : ReplacesBlock old new n stored
  pub inside : n < old.layout.count
  pub used : IsTrue (is_in_use (old.block n))
  pub used_still : IsTrue (is_in_use stored)
  pub well : IsWellFormed stored
  pub header : header_of (opened_of stored) ≡ with_links (header_of (opened_of (old.block n))) links
  pub attributes_are : attributes (opened_of stored) ≡ attributes (opened_of (old.block n))

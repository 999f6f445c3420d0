-- VALUES REWRITTEN WHERE THEY STAND: the bytes of a value in its record, or of clusters of an attribute. Nothing else changes, neither
-- names nor sizes, runs, headers or bits.
use Rattle.std.specs.Prelude.{◌≡◌, ◌⊎◌, ℕ, ◌<◌, not, Bool, true, IsTrue, List, filter, map}
use Rattle.ntfs_def.specs.Attribute.{Attribute, attributes}
use Rattle.ntfs_def.specs.Fixup.{opened_of}
use Rattle.ntfs_def.specs.Record.{header_of, is_in_use}
use Rattle.volume_def.specs.Coverage.{IsOutsideTable}
use Rattle.volume_def.specs.Files.{file_of, record_of}
use Rattle.volume_def.specs.View.{VolumeView}
use Rattle.session_def.specs.EditDefKept.{Key, key_of}
use Rattle.record_edits.specs.InPlace.{IsUnnamed}
use Rattle.in_place.specs.Blank.{outline_of}

-- an attribute of file f that is not named
abbrev pub is_other : (Key → Bool) → ℕ → Attribute → Bool
is_other changed f attribute = not (changed (key_of f attribute.kind attribute.name))

-- Attribute by attribute all is as it was but for the bytes of values, which are as long; and those that are not named are the same whole.
pub record RewritesAttributes (changed : Key → Bool) (f : ℕ) (was now : List Attribute) : Type 0 where
  pub outlines : map outline_of now ≡ map outline_of was
  pub others : filter (is_other changed f) now ≡ filter (is_other changed f) was

-- the file to which the stored record n belongs
abbrev pub file_in : ℕ → List ℕ → ℕ
file_in n stored = file_of n (record_of n (opened_of stored))

-- The stored record n was in use and is, with the same header, and values of it were rewritten; an attribute of its file is named.
pub record RewritesBlock (changed : Key → Bool) (n : ℕ) (was now : List ℕ) : Type 0 where
  pub used : IsTrue (is_in_use was)
  pub used_still : IsTrue (is_in_use now)
  pub header : header_of (opened_of now) ≡ header_of (opened_of was)
  pub attributes_are : RewritesAttributes changed (file_in n was) (attributes (opened_of was)) (attributes (opened_of now))
  pub kind : ℕ
  pub name : List ℕ
  pub named : changed (key_of (file_in n was) kind name) ≡ true

-- block n was not written, nor its copy
pub record KeepsBlock (old new : VolumeView) (n : ℕ) : Type 0 where
  pub block : new.block n ≡ old.block n
  pub copy : n < 4 → new.copy n ≡ old.copy n

-- VALUES WERE REWRITTEN, of the attributes that `changed` names; all else of the volume is as it was.
pub record Rewrites (changed : Key → Bool) (old new : VolumeView) : Type 0 where
  pub told : new.told ≡ old.told
  pub layout : new.layout ≡ old.layout
  pub rest : (k : ℕ) → new.rest k ≡ old.rest k
  pub blocks : (n : ℕ) → KeepsBlock old new n ⊎ RewritesBlock changed n (old.block n) (new.block n)
  pub clusters : (c : ℕ) → IsOutsideTable old.layout c → IsUnnamed changed old c → new.cluster c ≡ old.cluster c

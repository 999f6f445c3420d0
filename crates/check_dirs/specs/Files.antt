-- What the clause on indexes asks of one file, in its parts.
use Rattle.std.specs.Prelude.{◌≡◌, ℕ, codes, IfSome, IsTrue}
use Rattle.ntfs_def.specs.declared.records.TheConstants.{SECURE}
use Rattle.volume_def.specs.Files.{is_base, is_directory, record_on}
use Rattle.volume_def.specs.IndexesClause.{IsDirectoryIndex, MeetsViewIndex, StandsInExtend, hash_rule, id_rule, word_rule}
use Rattle.volume_def.specs.View.{VolumeView}

-- a directory has the index of its names
abbrev pub MeetsNames : VolumeView → ℕ → Type 0
MeetsNames view f = IfSome (record_on view f) (λ r. IsTrue (is_base r) → IsTrue (is_directory r) → IsDirectoryIndex view f)

-- .. and the file of security descriptors those of its ids and hashes
pub record MeetsSecured (view : VolumeView) (f : ℕ) : Type 0 where
  pub ids : f ≡ SECURE → MeetsViewIndex view f (codes "$SII") id_rule
  pub hashes : f ≡ SECURE → MeetsViewIndex view f (codes "$SDH") hash_rule

-- .. and the files of reparse points and of object ids in $Extend theirs
pub record MeetsExtended (view : VolumeView) (f : ℕ) : Type 0 where
  pub points : StandsInExtend view f (codes "$Reparse") → MeetsViewIndex view f (codes "$R") word_rule
  pub objects : StandsInExtend view f (codes "$ObjId") → MeetsViewIndex view f (codes "$O") word_rule

-- A COMMAND BY WHICH THE NAMES OF ONE FILE CHANGE, from the volume before it to the one behind it.
use Rattle.std.specs.Prelude.{◌≢◌, ℕ}
use Rattle.ntfs_def.specs.declared.records.TheConstants.{ROOT}
use Rattle.volume_def.specs.Files.{records_of}
use Rattle.volume_def.specs.LinksClause.{MeetsLinks}
use Rattle.volume_def.specs.ReferencesClause.{MeetsReferences}
use Rattle.volume_def.specs.View.{VolumeView}
use Rattle.edit_def.specs.Names.{KeepsOthers, StandRightly}

-- The clauses on references and links hold before it, names stand rightly behind it, and of no other file did a name come or go.
pub record ChangesNames (old new : VolumeView) (f : ℕ) : Type 0 where
  pub references : (n : ℕ) → MeetsReferences (records_of old) n
  pub links : (n : ℕ) → MeetsLinks (records_of old) n
  pub stand : StandRightly (records_of new)
  pub others : KeepsOthers (records_of old) (records_of new) f
  pub away : f ≢ ROOT

-- WHERE A VOLUME STANDS between the calls of a command, and behind a command. The stored bitmaps may lag behind the bits in memory.
use Rattle.std.specs.Prelude.{◌≡◌, ◌≢◌, Bool, true, false}
use Rattle.volume_def.specs.Sound.{Clause, Holds, rank_of}
use Rattle.volume_def.specs.Sound as clauses
use Rattle.volume_def.specs.View.{VolumeView}
use Rattle.tree_model.specs.Reading.{read}
use Rattle.tree_model.specs.Tree.{Tree}

-- the clauses on the stored bitmaps
abbrev pub is_of_bits : Clause → Bool
is_of_bits clauses.ClusterBits = true
is_of_bits clauses.RecordBits = true
is_of_bits other = false

-- Between calls all others hold but the one on links, which a command keeps as a whole ..
abbrev pub IsBetween : VolumeView → Type 0
IsBetween view = (clause : Clause) → is_of_bits clause ≡ false → rank_of clause ≢ rank_of clauses.Links → Holds view clause

-- .. and behind a command that one too.
abbrev pub IsSoundButBits : VolumeView → Type 0
IsSoundButBits view = (clause : Clause) → is_of_bits clause ≡ false → Holds view clause

-- The volume is sound so, and reads as this tree.
pub record StandsAs (view : VolumeView) (tree : Tree) : Type 0 where
  pub sound : IsSoundButBits view
  pub reading : read view ≡ tree

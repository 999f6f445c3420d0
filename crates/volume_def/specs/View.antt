-- What a volume's image is to all that stands above the table: its blocks, their copies, its clusters, and the sectors
-- that belong to no cluster, each as a function of its number.
use Rattle.std.specs.Prelude.{◌≡◌, ◌≢◌, ℕ, ◌+◌, ◌*◌, ◌<◌, List, take, drop, slice_range, Bool, IsTrue}
use Rattle.volume_def.specs.Blocks.{block_of, cluster_of, copy_of}
use Rattle.volume_def.specs.Coverage.{IsOutsideTable}
use Rattle.volume_def.specs.Table.{TableLayout}

pub record VolumeView : Type 0 where
  -- whether the contents are told; where they are not, nothing below says anything
  pub told : Bool
  pub layout : TableLayout
  pub block : ℕ → List ℕ
  pub copy : ℕ → List ℕ
  pub cluster : ℕ → List ℕ
  -- the sectors behind the last cluster, which belong to none
  pub rest : ℕ → List ℕ

-- the view of a disk, with this layout of the table
abbrev pub view_of : Bool → (ℕ → List ℕ) → TableLayout → VolumeView
view_of told disk layout = record {
  told = told;
  layout = layout;
  block = block_of disk layout;
  copy = copy_of disk layout;
  cluster = cluster_of disk layout;
  rest = λ k. disk (layout.clusters * layout.cluster_sectors + k);
}

-- Of the disk these two sectors were written, with the halves of a block, and no other.
pub record WritesTwo (told : Bool) (old new : ℕ → List ℕ) (first second : ℕ) (stored : List ℕ) : Type 0 where
  pub low : IsTrue told → new first ≡ take 512 stored
  pub high : IsTrue told → new second ≡ drop 512 stored
  pub others : (sector : ℕ) → sector ≢ first → sector ≢ second → new sector ≡ old sector

-- Of the disk one sector was written, and no other.
pub record WritesOne (told : Bool) (old new : ℕ → List ℕ) (at : ℕ) (bytes : List ℕ) : Type 0 where
  pub here : IsTrue told → new at ≡ bytes
  pub others : (sector : ℕ) → sector ≢ at → new sector ≡ old sector

-- Block n was replaced, with its copy where it has one; other blocks and copies, all clusters outside, and the sectors
-- that belong to no cluster stay.
pub record ReplacesBlock (old new : VolumeView) (n : ℕ) (stored : List ℕ) : Type 0 where
  pub told : new.told ≡ old.told
  pub layout : new.layout ≡ old.layout
  pub block : IsTrue old.told → new.block n ≡ stored
  pub blocks : (m : ℕ) → m ≢ n → new.block m ≡ old.block m
  pub copy : IsTrue old.told → n < 4 → new.copy n ≡ stored
  pub copies : (m : ℕ) → m < 4 → m ≢ n → new.copy m ≡ old.copy m
  pub clusters : (c : ℕ) → IsOutsideTable old.layout c → new.cluster c ≡ old.cluster c
  pub rest : (k : ℕ) → new.rest k ≡ old.rest k

-- the bytes of one sector of a cluster
abbrev pub piece_of : List ℕ → ℕ → List ℕ
piece_of bytes piece = slice_range bytes (512 * piece) (512 * piece + 512)

-- One sector of cluster c was replaced; its other sectors, other clusters, all blocks and copies, and the sectors that
-- belong to no cluster stay.
pub record ReplacesPiece (old new : VolumeView) (c piece : ℕ) (bytes : List ℕ) : Type 0 where
  pub told : new.told ≡ old.told
  pub layout : new.layout ≡ old.layout
  pub here : IsTrue old.told → piece_of (new.cluster c) piece ≡ bytes
  pub pieces : IsTrue old.told → (other : ℕ) → other < old.layout.cluster_sectors → other ≢ piece
      → piece_of (new.cluster c) other ≡ piece_of (old.cluster c) other
  pub clusters : (d : ℕ) → d ≢ c → new.cluster d ≡ old.cluster d
  pub blocks : (n : ℕ) → new.block n ≡ old.block n
  pub copies : (m : ℕ) → m < 4 → new.copy m ≡ old.copy m
  pub rest : (k : ℕ) → new.rest k ≡ old.rest k

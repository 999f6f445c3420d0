-- A RUN TEXT THAT IS CUT in its bytes: how its first runs stay, where the clusters end, and what it means then.
-- Layout: Linux-NTFS documentation, concept "Data Runs"; Carrier, File System Forensic Analysis, chapter 13, non-resident attributes.
use Rattle.std.specs.Prelude.{◌≡◌, ℕ, ◌^◌, ◌<◌, ◌≤◌, List, [], ◌∷◌, ◌++◌, drop, length, slice_index, slice_index_or, take}
use Rattle.ntfs_def.specs.declared.run_text.Run.{Run}
use Rattle.ntfs_def.specs.Runs.{MeansFrom, MeansRuns, clusters_of, length_width, place_after, total_clusters}

-- the place of the last of these runs that is no hole, where that of the last run before them is `last`
abbrev pub last_of : ℕ → List Run → ℕ
last_of last [] = last
last_of last (run ∷ runs) = last_of (place_after last run) runs

-- The first `at` bytes of the text spell its first runs, so many: the rest means the others behind them, and each text with these bytes
-- that is not shorter means these runs and what its own rest means.
pub record SpellsFirst (text : List ℕ) (runs : List Run) (at whole : ℕ) : Type 0 where
  pub last : ℕ
  pub total : ℕ
  pub place : last ≡ last_of 0 (take whole runs)
  pub clusters : total ≡ total_clusters (take whole runs)
  pub inside : at ≤ length text
  pub rest : MeansFrom (drop at text) last total (drop whole runs)
  pub front : (new : List ℕ) (more : List Run) → length text ≤ length new
      → ((k : ℕ) → k < at → slice_index new k ≡ slice_index text k)
      → MeansFrom (drop at new) last total more → MeansRuns new (take whole runs ++ more)

-- THE FIRST `count` CLUSTERS END THERE: behind runs that the first `at` bytes of the text spell, and `left` clusters of the next run.
pub record EndsAt (text : List ℕ) (runs : List Run) (count at left : ℕ) : Type 0 where
  pub whole : ℕ
  pub spells : SpellsFirst text runs at whole
  pub part : 0 < left → whole < length runs
  pub less : (d : Run) → 0 < left → left < (slice_index_or runs whole d).len
  -- its length has room for them
  pub fits : 0 < left → left < 256 ^ length_width (drop at text)
  pub cut : take count (clusters_of runs) ≡ clusters_of (take whole runs) ++ take left (clusters_of (drop whole runs))

-- All bytes from `at` on are 0, and those before it are as before.
pub record ClearsFrom (old new : List ℕ) (at : ℕ) : Type 0 where
  pub len : length new ≡ length old
  pub before : (k : ℕ) → k < at → slice_index new k ≡ slice_index old k
  pub zeros : (k : ℕ) → at ≤ k → slice_index new k ≡ 0

-- THE TEXT IS CUT: it means runs of the first `count` clusters, in as many bytes.
pub record CutsText (old new : List ℕ) (runs : List Run) (count : ℕ) : Type 0 where
  pub kept : List Run
  pub len : length new ≡ length old
  pub means : MeansRuns new kept
  pub clusters : clusters_of kept ≡ take count (clusters_of runs)

-- BYTES THAT GO OVER THOSE THAT WERE WRITTEN, or right behind them, and into clusters behind the last of the stream.
use Rattle.std.specs.Prelude.{◌≡◌, ℕ, ◌-◌, ◌*◌, ◌==◌, true, false, List, Option, Some, None, if◌then◌else◌}
use Rattle.volume_def.specs.Files.{Part}
use Rattle.tree_model.specs.StreamRoom.{new_clusters}
use Rattle.tree_model.specs.Ways.{goes_behind}

-- How many clusters that takes which no run places, or that they do not go so.
abbrev pub TellsBehind : ℕ → List Part → ℕ → ℕ → Option ℕ → Type 0
TellsBehind size extents at len None = goes_behind size extents at len ≡ false
TellsBehind size extents at len (Some more) = (goes_behind size extents at len ≡ true) × (more ≡ new_clusters size extents at len)

-- how many of the bytes lie in the first `total` clusters, where they take `more` behind these
abbrev pub len_inside : ℕ → ℕ → ℕ → ℕ → ℕ → ℕ
len_inside total size at len more = if more == 0 then len else total * size - at

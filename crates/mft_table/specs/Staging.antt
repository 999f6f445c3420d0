-- Where a record is staged, and what the staging of its block leaves.
use Rattle.std.specs.Prelude.{◌≡◌, ◌≢◌, ◌≤◌, ◌+◌, ◌*◌, ℕ, List, [], ◌∷◌, ◌++◌, false, if◌then◌else◌, nat_lt, is_some, option_to_list}
use Rattle.vol_disk.specs.Contents.{sector_in}
use Rattle.vol_disk.specs.declared.Disk.{Ghosts}
use Rattle.volume_def.specs.Blocks.{mirror_sector, table_place}
use Rattle.volume_def.specs.Table.{TableLayout}
use Rattle.volume_def.specs.View.{WritesTwo}
use Rattle.vol_stage.specs.declared.stage.Stage.{Stage}
use Rattle.vol_stage.specs.Staged.{GoesOn, StagesOnly, disk_of, image, is_broken, spare}

-- The halves of a block are staged at two places.
pub record StagesTwo {D : Type 0} (g : Ghosts D) (old new : Stage D g) (low high : ℕ) (stored : List ℕ) : Type 0 where
  pub goes_on : GoesOn g old new
  pub disk : disk_of g new ≡ disk_of g old
  pub two : low ≢ high → WritesTwo (is_some (image g old)) (sector_in (image g old)) (sector_in (image g new)) low high stored
  pub places : StagesOnly g (low ∷ high ∷ []) old new
  pub room : spare g old ≤ spare g new + 2
  pub sound : is_broken g new ≡ false

-- two sectors, one behind the other
abbrev pub two_from : ℕ → List ℕ
two_from first = first ∷ (first + 1) ∷ []

-- the sectors of record n, and those of its copy where it has one
abbrev pub record_places : TableLayout → ℕ → List ℕ
record_places layout n = option_to_list (table_place layout (2 * n)) ++ option_to_list (table_place layout (2 * n + 1))
    ++ (if nat_lt n 4 then two_from (mirror_sector layout + 2 * n) else [])

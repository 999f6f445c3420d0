-- What the records of an index answer.
use Rattle.std.specs.Prelude.{◌≡◌, ◌<◌, ◌≤◌, ◌+◌, ◌*◌, ℕ, List, Option, All, IsSome, length}
use Rattle.std.specs.List.{AllPairs}
use Rattle.std.specs.Option.{option_and_then}
use Rattle.vol_disk.specs.Count.{Rose}
use Rattle.ntfs_def.specs.IndexTree.{Nodes}
use Rattle.ntfs_def.specs.Node.{short_node}
use Rattle.ntfs_def.specs.declared.index.NodeForm.{NodeForm}
use Rattle.check_dirs.specs.declared.CheckNo.{CheckNo}
use Rattle.check_dirs.specs.declared.CheckNo.TheVariants.{Device, Memory}

-- Why a call that only reads fails, and what that did to the count of the disk's faults: the disk failed, and the count
-- rose, or there was no memory, and it stayed.
abbrev pub CountsNo : ℕ → ℕ → CheckNo → Type 0
CountsNo before after Device = Rose before after
CountsNo before after Memory = after ≡ before

-- the opened record at each number, none where there is none
abbrev pub Records : Type 0
Records = ℕ → Option (List ℕ)

-- the nodes that the records say, where their entries are short
abbrev pub short_nodes : NodeForm → Records → Nodes
short_nodes form records vcn = option_and_then (short_node form) (records vcn)

-- No more than so many numbers have a record.
abbrev pub HasAtMost : ℕ → Records → Type 0
HasAtMost n records =
    (vcns : List ℕ) → AllPairs (λ vcn later. vcn < later) vcns → All (λ vcn. IsSome (records vcn)) vcns → length vcns ≤ n

-- THE COST of a check: of an index with so many records, nine sectors for each one, and for sixteen more
abbrev pub CostsCheck : Records → ℕ → ℕ → Type 0
CostsCheck records before after = (n : ℕ) → HasAtMost n records → after ≤ before + 9 * (n + 16)

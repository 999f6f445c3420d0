-- An entry as a view lends it: what its own bytes say beside the item.
use Rattle.std.specs.Prelude.{ℕ, List, Option}
use Rattle.ntfs_def.specs.Node.{child_at, has_child}

-- the child that it leads to
abbrev pub child_said : List ℕ → Option ℕ
child_said entry = child_at entry (has_child entry 0) 0

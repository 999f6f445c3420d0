-- A file whose standard information is another.
use Rattle.std.specs.Prelude.{ℕ, List}
use Rattle.tree_model.specs.Reading.{standard_flags}
use Rattle.ntfs_def.specs.StandardInformation.{standard_security, standard_times}
use Rattle.tree_model.specs.declared.tree.Node.{Node}

-- the file with the times, the flags and the security id of this value
abbrev pub with_standard : List ℕ → Node → Node
with_standard value node = record node {
  times = standard_times value;
  flags = standard_flags value;
  security = standard_security value;
}

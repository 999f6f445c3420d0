-- THE ATTRIBUTES OF A FILE THAT COMES, all of them values in its base record.
-- Layout: Linux-NTFS documentation, attributes $STANDARD_INFORMATION, $DATA and $INDEX_ROOT; Carrier, File System Forensic Analysis,
-- chapters 11 to 13.
use Rattle.std.specs.Prelude.{ℕ, List, [], codes}
use Rattle.ntfs_def.specs.Units.{wide}
use Rattle.ntfs_def.specs.declared.kinds.TheConstants.{DATA, INDEX_ROOT, STANDARD_INFORMATION}
use Rattle.volume_def.specs.Files.{Part, Value}

abbrev pub standard_part : ℕ → ℕ → List ℕ → Part
standard_part f id standard =
    record { holder = f; kind = STANDARD_INFORMATION; name = []; id = id; flags = 0; content = Value standard }

-- of a plain file an empty unnamed stream
abbrev pub data_part : ℕ → ℕ → Part
data_part f id = record { holder = f; kind = DATA; name = []; id = id; flags = 0; content = Value [] }

-- of a directory the root of its index
abbrev pub root_part : ℕ → ℕ → List ℕ → Part
root_part f id root = record { holder = f; kind = INDEX_ROOT; name = wide (codes "$I30"); id = id; flags = 0; content = Value root }

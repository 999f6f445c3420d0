-- The calls of a stream that are to fail.
use Rattle.std.specs.Prelude.{Bool, true, false, Contains}
use Rattle.vol_disk.specs.Count.{next_count}
use Rattle.vol_disk.specs.declared.listed.Listed.{Listed}

-- the next call is listed
abbrev pub IsListed : Listed → Type 0
IsListed listed = Contains listed.numbers.items (next_count listed.calls)

-- a call that answered Ok, or failed
abbrev pub listed_after : Bool → Listed → Listed
listed_after true listed = record listed { calls = next_count listed.calls }
listed_after false listed = record listed { calls = next_count listed.calls; faults = next_count listed.faults }

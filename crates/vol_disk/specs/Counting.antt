-- What the calls of a disk do to its counts.
use Rattle.std.specs.Prelude.{Bool, true, false, nat_lt, if◌then◌else◌}
use Rattle.vol_disk.specs.Count.{next_count, faults_after}
use Rattle.vol_disk.specs.declared.counts.Counts.{Counts}

-- a call that answered Ok, or failed
abbrev pub after_call : Bool → Counts → Counts
after_call ok counts = record counts { faults = faults_after ok counts.faults }

-- a read that answered Ok, or failed
abbrev pub after_read : Bool → Counts → Counts
after_read ok counts = after_call ok (record counts { fetched = next_count counts.fetched })

-- a write that was asked for: it is late where a call had failed before
abbrev pub counts_at_write : Counts → Counts
counts_at_write counts = record counts { late = if nat_lt 0 counts.faults then next_count counts.late else counts.late }

-- a write that answered Ok, or failed
abbrev pub after_write : Bool → Counts → Counts
after_write true counts = record (counts_at_write counts) { written = next_count counts.written }
after_write false counts = after_call false (counts_at_write counts)

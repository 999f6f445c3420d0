-- What a disk that fails as it was told shows.
use Rattle.std.specs.Prelude.{◌≡◌, List, Option}
use Rattle.vol_disk.specs.Count.{next_count}
use Rattle.vol_disk.specs.Plan.{fail_for, calls_of, calls_with}
use Rattle.vol_disk.specs.declared.counts.Counts.{Counts}
use Rattle.vol_disk.specs.declared.fail_disk.CallKind.{CallKind}
use Rattle.vol_disk.specs.declared.fail_disk.Calls.{Calls}
use Rattle.vol_disk.specs.declared.fail_disk.Fail.{Fail}
use Rattle.vol_disk.specs.declared.fail_disk.FailDisk.{FailDisk}

-- the disk inside
abbrev pub inner_of : {D : Type 0} → FailDisk D → D
inner_of disk = disk.inner

-- the list of calls that fail
abbrev pub fails_of : {D : Type 0} → FailDisk D → List Fail
fails_of disk = disk.fails.items

-- the calls of each kind until now
abbrev pub made_by : {D : Type 0} → FailDisk D → Calls
made_by disk = disk.calls

-- the calls that failed, and the others
abbrev pub outer_counts : {D : Type 0} → FailDisk D → Counts
outer_counts disk = disk.counts

-- the entry that lets the next call of a kind fail, if there is one
abbrev pub next_fail : {D : Type 0} → FailDisk D → CallKind → Option Fail
next_fail disk kind = fail_for disk.fails.items kind (next_count (calls_of disk.calls kind))

-- one call of this kind was made
pub record Makes {D : Type 0} (old new : FailDisk D) (kind : CallKind) : Type 0 where
  pub fails : fails_of new ≡ fails_of old
  pub calls : made_by new ≡ calls_with (made_by old) kind

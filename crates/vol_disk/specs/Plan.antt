-- Which calls are to fail.
use Rattle.std.specs.Prelude.{ℕ, Bool, true, false, ◌==◌, ◌&&◌, List, Option, find}
use Rattle.vol_disk.specs.Count.{next_count}
use Rattle.vol_disk.specs.declared.fail_disk.CallKind.{CallKind}
use Rattle.vol_disk.specs.declared.fail_disk.CallKind.TheVariants.{Read, Write, Barrier, Settle}
use Rattle.vol_disk.specs.declared.fail_disk.Calls.{Calls}
use Rattle.vol_disk.specs.declared.fail_disk.Fail.{Fail}

abbrev pub is_same : CallKind → CallKind → Bool
is_same Read Read = true
is_same Write Write = true
is_same Barrier Barrier = true
is_same Settle Settle = true
is_same _ _ = false

-- the number of calls of a kind
abbrev pub calls_of : Calls → CallKind → ℕ
calls_of calls Read = calls.reads
calls_of calls Write = calls.writes
calls_of calls Barrier = calls.barriers
calls_of calls Settle = calls.settles

-- one more call of a kind
abbrev pub calls_with : Calls → CallKind → Calls
calls_with calls Read = record calls { reads = next_count calls.reads }
calls_with calls Write = record calls { writes = next_count calls.writes }
calls_with calls Barrier = record calls { barriers = next_count calls.barriers }
calls_with calls Settle = record calls { settles = next_count calls.settles }

-- the first entry for the call of this kind and number, if there is one
abbrev pub fail_for : List Fail → CallKind → ℕ → Option Fail
fail_for fails kind number = find (λ fail. is_same fail.kind kind && fail.number == number) fails

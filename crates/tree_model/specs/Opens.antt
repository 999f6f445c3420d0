-- Opens: what they may do, and when two of them conflict. An open that is kept and a command that asks for access alike.
use Rattle.std.specs.Prelude.{ℕ, zero, suc, ◌==◌, ◌&&◌, ◌||◌, not, Bool, List, if◌then◌else◌}
use Rattle.std.specs.List.{list_any}
use Rattle.std.specs.Ordering.{is_gt, nat_cmp, ordering_then}
use Rattle.std.specs.Prelude.{true, false}
use Rattle.tree_model.specs.declared.opens.Access.{Access}
use Rattle.tree_model.specs.declared.opens.OpenEntry.{OpenEntry}

abbrev pub to_read : Access
to_read = record { r = true; w = false; d = false }

abbrev pub to_write : Access
to_write = record { r = false; w = true; d = false }

abbrev pub to_delete : Access
to_delete = record { r = false; w = false; d = true }

abbrev pub all_access : Access
all_access = record { r = true; w = true; d = true }

-- all that is asked for is among what is given
abbrev pub contains : Access → Access → Bool
contains given asked = (given.r || not asked.r) && (given.w || not asked.w) && (given.d || not asked.d)

-- Two opens of one file go together where the access of each is within what the other shares; else they conflict.
abbrev pub are_compatible : Access → Access → Access → Access → Bool
are_compatible access share other_access other_share = contains other_share access && contains share other_access

-- the open of a session with this handle
abbrev pub is_handle : ℕ → ℕ → OpenEntry → Bool
is_handle session handle entry = (entry.session == session) && (entry.handle == handle)

-- opens by session and handle
abbrev pub open_above : OpenEntry → OpenEntry → Bool
open_above a b = is_gt (ordering_then (nat_cmp a.session b.session) (nat_cmp a.handle b.handle))

-- the least number from `handle` on that is no handle of the session, within so many steps
abbrev pub free_from : ℕ → List OpenEntry → ℕ → ℕ → ℕ
free_from zero opens session handle = handle
free_from (suc steps) opens session handle =
    if list_any (is_handle session handle) opens then free_from steps opens session (suc handle) else handle

-- the handle that an open gets; a session has 64 at most
unfoldable pub free_handle : List OpenEntry → ℕ → ℕ
free_handle opens session = free_from 64 opens session 0

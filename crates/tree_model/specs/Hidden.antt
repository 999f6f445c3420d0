-- Which files are hidden: those of the system, and all that lies below one of them.
-- Source: Linux-NTFS documentation, "System Files" and file $Extend; Carrier, File System Forensic Analysis, chapter 11. That they
-- are not shown is this project's choice.
use Rattle.std.specs.Prelude.{ℕ, zero, suc, ◌==◌, ◌&&◌, ◌||◌, not, nat_lt, Bool}
use Rattle.std.specs.List.{list_any}
use Rattle.ntfs_def.specs.declared.records.TheConstants.{FIRST_ORDINARY, ROOT}
use Rattle.volume_def.specs.FileNames.{names_of}
use Rattle.volume_def.specs.Files.{Records}

-- a record below 24 but the root
abbrev pub is_system : ℕ → Bool
is_system f = nat_lt f FIRST_ORDINARY && not (f == ROOT)

-- By a chain of directories of at most so many steps, any name of each file taken, up to the root, the file leads to one of the
-- system.
abbrev pub leads_to_system : Records → ℕ → ℕ → Bool
leads_to_system records zero f = is_system f
leads_to_system records (suc steps) f =
    is_system f || (not (f == ROOT) && list_any (λ name. leads_to_system records steps name.parent.number) (names_of records f))

-- A chain that does not run in a circle has fewer steps than there are records.
unfoldable pub is_hidden : Records → ℕ → Bool
is_hidden records f = leads_to_system records records.count f

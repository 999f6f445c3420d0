-- THE ORDER OF AN ATTRIBUTE LIST: by type, then by name as a directory's are ordered, then by the first cluster.
-- Source: Linux-NTFS documentation, attribute $ATTRIBUTE_LIST; Carrier, File System Forensic Analysis, chapter 13.
use Rattle.std.specs.Prelude.{◌≡◌, ℕ, List, true}
use Rattle.std.specs.List.{AllPairs}
use Rattle.std.specs.Ordering.{is_le, nat_cmp, on, then_cmp}
use Rattle.std.specs.declared.cmp.Ordering.{Ordering}
use Rattle.ntfs_def.specs.AttributeList.{ListEntry}
use Rattle.ntfs_def.specs.KeyOrder.{compare_units}
use Rattle.ntfs_def.specs.Units.{units_in}

abbrev pub entry_order : (ℕ → ℕ) → ListEntry → ListEntry → Ordering
entry_order fold = then_cmp (on (λ entry. entry.kind) nat_cmp)
    (then_cmp (on (λ entry. units_in entry.name) (compare_units fold)) (on (λ entry. entry.first) nat_cmp))

abbrev pub AreInOrder : (ℕ → ℕ) → List ListEntry → Type 0
AreInOrder fold = AllPairs (λ a b. is_le (entry_order fold a b) ≡ true)

-- The records that a list names.
use Rattle.std.proofs.Common.{ℕ, zero, suc, ◌*◌, ◌≤◌, List, length, arith}
use Rattle.std.proofs.lemmas.List.{length-map}
use Rattle.ntfs_def.specs.AttributeList.{HasListEntries, HasListShape, ListEntry, list_entries, list_entry_place}
use Rattle.ntfs_def.specs.Record.{Reference}
use Rattle.attr_list.proofs.ListEntryLaws.{IsListEntry-long}
use Rattle.attr_list.specs.View.{holders_in}
use Rattle.file_record.specs.Numbers.{named_in}

-- each entry takes 26 bytes at least
place-far : (value : List ℕ) (i : ℕ) → HasListEntries value i → 26 * i ≤ list_entry_place value i
place-far value zero each = omega arith
place-far value (suc i) each =
    let before = place-far value i (λ j h. each j (omega arith)) in
    omega (arith, before, IsListEntry-long value (list_entry_place value i) (each i (omega arith)))

-- so a list names few records
pub named-few : (value : List ℕ) → HasListShape value (length (list_entries value)) → 26 * length (named_in value) ≤ length value
named-few value shape =
    let names = length-map (holders_in value) (λ (r : Reference). r.number) in
    let holders = length-map (list_entries value) (λ (e : ListEntry). e.holder) in
    omega (arith, names, holders, place-far value _ shape.each, shape.end)

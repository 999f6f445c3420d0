-- What a view shows, in the terms of the layout.
use Rattle.std.specs.Prelude.{◌≡◌, ℕ, List, map}
use Rattle.ntfs_def.specs.AttributeList.{IsFirstBadEntry, ListEntry, list_entries}
use Rattle.ntfs_def.specs.Record.{Reference, reference_in}
use Rattle.ntfs_def.specs.Units.{units_in}
use Rattle.attr_list.specs.declared.Entry.{Entry}
use Rattle.attr_list.specs.declared.EntryView.{EntryView}
use Rattle.attr_list.specs.declared.ListNo.{ListNo}
use Rattle.attr_list.specs.declared.ListNo.TheVariants.{Long, Memory, Shape}
use Rattle.attr_list.specs.declared.ListView.{ListView}

-- the bytes of the list
abbrev pub value_of : ListView → List ℕ
value_of view = view.bytes.now

-- the entries of the list, in order
abbrev pub entries_of : ListView → List ListEntry
entries_of view = list_entries (value_of view)

-- the entry that is lent
abbrev pub entry_shown : EntryView → ListEntry
entry_shown entry = record {
  kind = entry.kind;
  name = entry.name.now;
  first = entry.first;
  holder = reference_in entry.holder;
  id = entry.id;
}

-- the records that a list says hold its attributes, in order
abbrev pub holders_in : List ℕ → List Reference
holders_in value = map (λ entry. entry.holder) (list_entries value)

abbrev pub holders_of : ListView → List Reference
holders_of view = holders_in (value_of view)

-- The entry is this one of the layout, with its name in units.
pub record IsEntryOf (listed : ListEntry) (entry : Entry) : Type 0 where
  pub kind : entry.kind ≡ listed.kind
  pub name : entry.name ≡ units_in listed.name
  pub first : entry.first ≡ listed.first
  pub holder : reference_in entry.holder ≡ listed.holder
  pub id : entry.id ≡ listed.id

-- The value is refused so. Memory is no reason to refuse one, nor is its length.
abbrev pub Refuses : List ℕ → ListNo → Type 0
Refuses value (Shape at) = IsFirstBadEntry value at
Refuses value Long = ⊥
Refuses value Memory = ⊥

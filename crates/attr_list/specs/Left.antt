-- The entries and the holders of a list that are still to come.
use Rattle.std.specs.Prelude.{List, drop}
use Rattle.ntfs_def.specs.AttributeList.{ListEntry, list_entries}
use Rattle.ntfs_def.specs.Record.{Reference}
use Rattle.attr_list.specs.View.{holders_in}
use Rattle.attr_list.specs.declared.Entries.{Entries}
use Rattle.attr_list.specs.declared.Holders.{Holders}

abbrev pub holders_left : Holders → List Reference
holders_left it = drop it.next (holders_in it.bytes.now)

abbrev pub entries_left : Entries → List ListEntry
entries_left it = drop it.next (list_entries it.bytes.now)

-- How many sectors the steps of the check ask for at most.
use Rattle.std.specs.Prelude.{ℕ, ◌+◌, ◌*◌, ◌/◌, length}
use Rattle.volume_def.specs.Files.{records_of}
use Rattle.volume_def.specs.Table.{TableLayout}
use Rattle.volume_def.specs.Values.{pieces_touched}
use Rattle.volume_def.specs.View.{VolumeView}
use Rattle.record_notes.specs.Spread.{extensions_below, listed_below}

-- of files that stand in several records: so many have a list, and so many are extension records
abbrev pub files_reads : ℕ → ℕ → ℕ
files_reads listed extensions = 514 * listed + 2 * extensions

-- the bytes of both bitmaps and of the table of case
abbrev pub bytes_reads : TableLayout → ℕ
bytes_reads layout = pieces_touched 0 ((layout.clusters + 7) / 8) + pieces_touched 0 ((layout.count + 7) / 8) + 256

-- .. and the whole check: the boot sector, record 0, each record once, and then files
abbrev pub check_reads : VolumeView → ℕ
check_reads view = 3 + 2 * view.layout.count
    + files_reads (length (listed_below (records_of view) view.layout.count))
    (length (extensions_below (records_of view) view.layout.count))
    + bytes_reads view.layout

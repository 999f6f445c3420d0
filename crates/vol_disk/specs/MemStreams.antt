-- What a source and a sink in memory show.
use Rattle.std.specs.Prelude.{ℕ, List, drop}
use Rattle.vol_disk.specs.declared.listed.Listed.{Listed}
use Rattle.vol_disk.specs.declared.mem_source.MemSource.{MemSource}
use Rattle.vol_disk.specs.declared.mem_sink.MemSink.{MemSink}

-- the numbers of the calls that fail, and the calls and faults until now
abbrev pub source_calls : MemSource → Listed
source_calls source = source.listed

abbrev pub sink_calls : MemSink → Listed
sink_calls sink = sink.listed

-- the bytes that are still to come
abbrev pub left_of : MemSource → List ℕ
left_of source = drop source.taken source.bytes.items

-- the bytes that came
abbrev pub bytes_of : MemSink → List ℕ
bytes_of sink = sink.bytes.items

-- how many more bytes it can take
abbrev pub room_of : MemSink → ℕ
room_of sink = sink.room

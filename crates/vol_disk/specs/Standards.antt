-- What a source over a reader and a sink over a writer stand on.
use Rattle.std.specs.Prelude.{ℕ}
use Rattle.vol_disk.specs.declared.standard.StdSource.{StdSource}
use Rattle.vol_disk.specs.declared.standard.StdSink.{StdSink}

abbrev pub reader_of : {R : Type 0} → StdSource R → R
reader_of source = source.input

abbrev pub writer_of : {W : Type 0} → StdSink W → W
writer_of sink = sink.output

-- the calls that failed
abbrev pub source_faults : {R : Type 0} → StdSource R → ℕ
source_faults source = source.faults

abbrev pub sink_faults : {W : Type 0} → StdSink W → ℕ
sink_faults sink = sink.faults

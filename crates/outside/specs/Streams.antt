-- What the adapters over std's readers and writers hold.
use Rattle.std.specs.Prelude.{ℕ}
use Rattle.outside.specs.declared.streams.StdSource.{StdSource}
use Rattle.outside.specs.declared.streams.StdSink.{StdSink}

-- the reader behind a source
abbrev pub reader_of : {R : Type 0} → StdSource R → R
reader_of s = s.inner

-- how many reads of a source have failed
abbrev pub read_faults : {R : Type 0} → StdSource R → ℕ
read_faults s = s.faults

-- the writer behind a sink
abbrev pub writer_of : {W : Type 0} → StdSink W → W
writer_of s = s.inner

-- how many writes to a sink have failed, or took nothing of a piece
abbrev pub write_faults : {W : Type 0} → StdSink W → ℕ
write_faults s = s.faults

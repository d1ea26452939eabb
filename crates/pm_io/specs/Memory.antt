-- What a source and a sink in memory show: their bytes, their counts, and the calls that are to fail.
use Rattle.std.specs.Prelude.{ℕ, List, drop}
use Rattle.pm_io.specs.declared.memory.MemSource.{MemSource}
use Rattle.pm_io.specs.declared.memory.MemSink.{MemSink}

-- the bytes that are still to be read
abbrev pub bytes_left : MemSource → List ℕ
bytes_left s = drop s.at s.bytes.items

-- how many reads were made, failed ones too
abbrev pub reads_made : MemSource → ℕ
reads_made s = s.calls

-- the numbers of the reads that fail, counted from 1
abbrev pub reads_to_fail : MemSource → List ℕ
reads_to_fail s = s.fail.items

-- how many reads failed
abbrev pub read_faults : MemSource → ℕ
read_faults s = s.faults

-- the bytes that were written
abbrev pub bytes_written : MemSink → List ℕ
bytes_written s = s.bytes.items

-- how many bytes the sink can hold in all
abbrev pub sink_room : MemSink → ℕ
sink_room s = s.room

-- how many writes were made, failed ones too
abbrev pub writes_made : MemSink → ℕ
writes_made s = s.calls

-- the numbers of the writes that fail, counted from 1
abbrev pub writes_to_fail : MemSink → List ℕ
writes_to_fail s = s.fail.items

-- how many writes failed
abbrev pub write_faults : MemSink → ℕ
write_faults s = s.faults

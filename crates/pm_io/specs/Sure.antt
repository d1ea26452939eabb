-- What the source and the sink in memory that never fail show.
use Rattle.std.specs.Prelude.{ℕ, ◌+◌, List, ◌++◌, length, drop, Option, None, Some, nat_le, if◌then◌else◌}
use Rattle.pm_io.specs.declared.sure.SureSource.{SureSource}
use Rattle.pm_io.specs.declared.sure.SureSink.{SureSink}

-- the bytes that are still to be read
abbrev pub sure_bytes_left : SureSource → List ℕ
sure_bytes_left s = drop s.at s.bytes.items

-- the bytes that were written, as long as the sink tells them
abbrev pub sure_bytes_told : SureSink → Option (List ℕ)
sure_bytes_told s = if s.full then None else Some s.bytes.items

-- how many bytes the sink can hold in all
abbrev pub sure_room : SureSink → ℕ
sure_room s = s.room

-- what is told after one more piece: with the piece where it fits into the room, and else nothing from then on
abbrev pub told_after : ℕ → Option (List ℕ) → List ℕ → Option (List ℕ)
told_after room None piece = None
told_after room (Some bytes) piece = if nat_le (length bytes + length piece) room then Some (bytes ++ piece) else None

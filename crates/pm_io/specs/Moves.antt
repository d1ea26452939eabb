-- What one read and one write do.
use Rattle.std.specs.Prelude.{◌≡◌, ◌≢◌, ℕ, ◌≤◌, ◌<◌, List, [], ◌++◌, length, take, ⊤, Option, None, Some}
use Rattle.std.specs.Io.KnownBytes.{Consumes, IsAtEnd}
use Rattle.pm_io.specs.Faults.{Rose}
use Rattle.pm_io.specs.declared.source.Got.{Got}
use Rattle.pm_io.specs.declared.source.Got.TheVariants.{Bytes, End, Failed as ReadFailed}
use Rattle.pm_io.specs.declared.sink.Put.{Put}
use Rattle.pm_io.specs.declared.sink.Put.TheVariants.{Took, Failed}

-- the count of bytes is within the buffer
abbrev pub FitsBuffer : Got → ℕ → Type 0
FitsBuffer (Bytes n) room = n ≤ room
FitsBuffer End room = ⊤
FitsBuffer ReadFailed room = ⊤

-- the bytes given are the first of those that were left, at the buffer's front; none for a buffer with room only
-- where nothing is left; a failed read takes none
abbrev pub Gives : Got → Option (List ℕ) → Option (List ℕ) → List ℕ → Type 0
Gives (Bytes n) old new buffer = Consumes old new (take n buffer) × (n ≡ 0 → 0 < length buffer → IsAtEnd new)
Gives End old new buffer = Consumes old new [] × IsAtEnd new
Gives ReadFailed old new buffer = Consumes old new []

-- a failed read raised the count of faults, and no other did
abbrev pub ReadCounts : Got → ℕ → ℕ → Type 0
ReadCounts (Bytes n) before now = now ≡ before
ReadCounts End before now = now ≡ before
ReadCounts ReadFailed before now = Rose before now

-- What was written grew by these bytes, where it is still told. What has stopped telling tells nothing again.
abbrev pub Adds : Option (List ℕ) → Option (List ℕ) → List ℕ → Type 0
Adds None None bytes = ⊤
Adds (Some xs) None bytes = ⊤
Adds None (Some ys) bytes = ⊥
Adds (Some xs) (Some ys) bytes = ys ≡ xs ++ bytes

-- the count of bytes is within the piece
abbrev pub FitsPiece : Put → ℕ → Type 0
FitsPiece (Took n) len = n ≤ len
FitsPiece Failed len = ⊤

-- the first n bytes of the piece were added, and none by a failed write
abbrev pub Takes : Put → Option (List ℕ) → Option (List ℕ) → List ℕ → Type 0
Takes (Took n) old new piece = Adds old new (take n piece)
Takes Failed old new piece = Adds old new []

-- a write that failed, or took nothing of a piece that isn't empty, raised the count of faults, and no other did
abbrev pub WriteCounts : Put → List ℕ → ℕ → ℕ → Type 0
WriteCounts (Took n) piece before now =
    (n ≢ 0 → now ≡ before) × (length piece ≡ 0 → now ≡ before) × (n ≡ 0 → 0 < length piece → Rose before now)
WriteCounts Failed piece before now = Rose before now

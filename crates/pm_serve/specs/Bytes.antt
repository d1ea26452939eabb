-- Bytes that are moved from a source into a line.
use Rattle.std.specs.Prelude.{◌≡◌, ◌≢◌, ◌≤◌, ◌<◌, ◌-◌, ◌==◌, ℕ, Bool, false, List, [], ◌∷◌, ◌++◌, length, take, drop, Option}
use Rattle.std.specs.List.{list_any}
use Rattle.std.specs.Io.KnownBytes.{Consumes, IsAtEnd}
use Rattle.pm_io.specs.Faults.{Rose}
use Rattle.pm_serve.specs.declared.unread.TheConstants.{KEPT}
use Rattle.pm_serve.specs.declared.unread.Filled.{Filled}
use Rattle.pm_serve.specs.declared.unread.Filled.TheVariants as filled
use Rattle.pm_serve.specs.declared.unread.Passing.{Passing}
use Rattle.pm_serve.specs.declared.unread.Passing.TheVariants as passing

-- the bytes of a piece between two places
abbrev pub unread_of : List ℕ → ℕ → ℕ → List ℕ
unread_of piece at end = take (end - at) (drop at piece)

-- the places stand in a piece, which is not empty
pub record IsPiece (piece : List ℕ) (at end : ℕ) : Type 0 where
  pub ordered : at ≤ end
  pub within : end ≤ length piece
  pub some : 0 < length piece

-- there is room for all that is kept of a line
pub record HasRoom (len capacity : ℕ) : Type 0 where
  pub within : len ≤ KEPT
  pub taken : KEPT ≤ capacity

-- an LF is among the bytes
abbrev pub has_lf : List ℕ → Bool
has_lf bytes = list_any (λ b. b == 10) bytes

-- these bytes were taken from the source, where some were there; none at the end of input, nor by a read that failed
abbrev pub CameOf : Filled → Option (List ℕ) → Option (List ℕ) → List ℕ → Type 0
CameOf filled.Some old new bytes = Consumes old new bytes × (bytes ≢ [])
CameOf filled.End old new bytes = Consumes old new [] × IsAtEnd new × (bytes ≡ [])
CameOf filled.Failed old new bytes = Consumes old new [] × (bytes ≡ [])

-- the count of faults rose by a read that failed, and by no other
abbrev pub FaultsOf : Filled → ℕ → ℕ → Type 0
FaultsOf filled.Some old new = new ≡ old
FaultsOf filled.End old new = new ≡ old
FaultsOf filled.Failed old new = Rose old new

-- The first n bytes are a front without LF, and an LF. The front went to the line.
pub record PassedOf (n : ℕ) (bytes line_old line_new : List ℕ) : Type 0 where
  pub front : List ℕ
  pub within : n ≤ length bytes
  pub split : bytes ≡ front ++ 10 ∷ drop n bytes
  pub one : has_lf front ≡ false
  pub kept : line_new ≡ take KEPT (line_old ++ front)

-- there is no LF among the bytes, and all went to the line
pub record PassedWhole (bytes line_old line_new : List ℕ) : Type 0 where
  pub no_lf : has_lf bytes ≡ false
  pub kept : line_new ≡ take KEPT (line_old ++ bytes)

-- the bytes before the first LF went to the line, and the LF went
pub record Passed (old new line_old line_new : List ℕ) : Type 0 where
  pub front : List ℕ
  pub split : old ≡ front ++ 10 ∷ new
  pub one : has_lf front ≡ false
  pub kept : line_new ≡ take KEPT (line_old ++ front)

-- there is no LF, and all bytes went to the line
pub record PassedAll (old new line_old line_new : List ℕ) : Type 0 where
  pub none_left : new ≡ []
  pub no_lf : has_lf old ≡ false
  pub kept : line_new ≡ take KEPT (line_old ++ old)

abbrev pub Passes : Passing → List ℕ → List ℕ → List ℕ → List ℕ → Type 0
Passes passing.Line old new line_old line_new = Passed old new line_old line_new
Passes passing.All old new line_old line_new = PassedAll old new line_old line_new

-- What reads gave, piece by piece.
use Rattle.std.specs.Prelude.{◌≡◌, ℕ, false, List, [], ◌∷◌, ◌++◌, take, Option, None, Some}
use Rattle.pm_io.specs.declared.source.Got.{Got}
use Rattle.pm_io.specs.declared.source.Got.TheVariants.{Bytes, End, Failed}
use Rattle.pm_serve.specs.Bytes.{has_lf}

-- what one read gave: a piece, which is empty at the end of input and where the read failed
abbrev pub piece_of : Got → List ℕ → List ℕ
piece_of (Bytes n) buffer = take n buffer
piece_of End buffer = []
piece_of Failed buffer = []

-- These pieces were given after the others, by a read each, where it is still told. What has stopped telling tells nothing
-- again.
abbrev pub Gave : Option (List (List ℕ)) → Option (List (List ℕ)) → List (List ℕ) → Type 0
Gave None None pieces = Unit {0}
Gave (Some xs) None pieces = Unit {0}
Gave None (Some ys) pieces = ⊥
Gave (Some xs) (Some ys) pieces = ys ≡ xs ++ pieces

-- each piece was asked for while no LF was among the bytes that had come before it
abbrev pub InTime : List ℕ → List (List ℕ) → Type 0
InTime before [] = Unit {0}
InTime before (piece ∷ pieces) = (has_lf before ≡ false) × InTime (before ++ piece) pieces

-- Each read was made while no whole line was there: neither in what was there before nor in what the reads before it gave.
pub record AskedInTime (before : List ℕ) (old new : Option (List (List ℕ))) : Type 0 where
  pub pieces : List (List ℕ)
  pub gave : Gave old new pieces
  pub in_time : InTime before pieces

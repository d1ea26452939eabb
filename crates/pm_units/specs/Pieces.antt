-- How a text lies in pieces.
use Rattle.std.specs.Prelude.{◌≡◌, ℕ, ◌+◌, ◌<◌, ◌≤◌, List, [], ◌∷◌, ◌++◌, length, take, get_or}
use Rattle.pm_sized.specs.Pairs.{IsLaid}
use Rattle.pm_sized.specs.Parts.{values_of}
use Rattle.pm_units.specs.declared.piece.Piece.{Piece}
use Rattle.pm_units.specs.declared.piece.Piece.TheVariants.{Narrow, Wide}
use Rattle.pm_units.specs.declared.pieces.Pieces.{Pieces}
use Rattle.pm_units.specs.declared.form.Form.{Form}
use Rattle.pm_units.specs.declared.form.Form.TheVariants.{Short, Long}

-- the units of a piece, whether they take one byte each or two
abbrev pub piece_units : Piece → List ℕ
piece_units (Narrow v) = v.items
piece_units (Wide v) = v.items

-- the units of pieces, one after another; beside each piece stands the number of its units
abbrev pub spelled : List (Piece × ℕ) → List ℕ
spelled [] = []
spelled (p ∷ ps) = piece_units p.0 ++ spelled ps

-- the pieces in order, each with the number beside it
abbrev pub pieces_in : Pieces → List (Piece × ℕ)
pieces_in p = values_of p.chunks

-- the units of a text in pieces
abbrev pub text_in : Pieces → List ℕ
text_in p = spelled (pieces_in p)

-- beside each piece stands the number of its units, from 1 to 1,024
abbrev pub EachMeasured : List (Piece × ℕ) → Type 0
EachMeasured [] = Unit {0}
EachMeasured (p ∷ ps) = (p.1 ≡ length (piece_units p.0)) × (1 ≤ p.1) × (p.1 ≤ 1024) × EachMeasured ps

-- the pieces lie as they should
pub record IsPieces (p : Pieces) : Type 0 where
  pub laid : IsLaid p.chunks
  pub measured : EachMeasured (pieces_in p)

-- the unit at `at` is unit number `rest` of piece number `index`
pub record IsAt (ps : List (Piece × ℕ)) (at index rest : ℕ) : Type 0 where
  pub within : index < length ps
  pub place : at ≡ length (spelled (take index ps)) + rest
  pub inside : (p : Piece) → p ≡ (get_or ps index (p, 0)).0 → rest < length (piece_units p)

-- the units of a text
abbrev pub form_units : Form → List ℕ
form_units (Short p) = piece_units p
form_units (Long b) = text_in b.value

-- a short text has at most 1,024 units, and the pieces of a long one lie as they should
abbrev pub IsForm : Form → Type 0
IsForm (Short p) = length (piece_units p) ≤ 1024
IsForm (Long b) = IsPieces b.value

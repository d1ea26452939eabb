-- Lines that suit a room which clients enter late, by the lines before them.
use Rattle.std.specs.Prelude.{◌≡◌, ℕ, ◌==◌, ◌&&◌, Bool, false, List, [], ◌∷◌, ◌++◌, slice_get, Some, MatchBool}
use Rattle.std.specs.List.{list_any}
use Rattle.pm_session.specs.declared.line.Line.{Line}
use Rattle.pm_session.specs.Suits.{enters, Suits}

module _ {Op C : Type 0} where
  -- one of these lines is the client's
  abbrev pub has_line : ℕ → List (Line Op C) → Bool
  has_line i lines = list_any (λ line. line.client == i) lines

  -- on one of these lines the client entered
  abbrev pub has_entered : ℕ → List (Line Op C) → Bool
  has_entered i lines = list_any (λ line. enters line.act && (line.client == i)) lines

  -- Who enters by this line is an editor, and no earlier line is its own.
  pub record EntersFirst (raw : List Bool) (earlier : List (Line Op C)) (line : Line Op C) : Type 0 where
    pub editor : slice_get raw line.client ≡ Some false
    pub first : has_line line.client earlier ≡ false

  -- Each line that enters is its client's first one, and each other line suits what the lines before it composed and got.
  abbrev pub AllSuitLate : List Bool → List (Line Op C) → List (Line Op C) → Type 0
  AllSuitLate raw earlier [] = Unit {0}
  AllSuitLate raw earlier (line ∷ lines) =
      MatchBool (enters line.act) (EntersFirst raw earlier line) (Suits raw earlier line) × AllSuitLate raw (earlier ++ line ∷ []) lines

-- How a line is read.
use Rattle.std.specs.Prelude.{◌≡◌, ◌≢◌, ◌≤◌, ◌-◌, ◌^◌, ℕ, Bool, true, false, List, [], ◌∷◌, ◌++◌, length, take, Option}
use Rattle.std.specs.Io.KnownBytes.{Consumes, IsAtEnd}
use Rattle.pm_io.specs.Faults.{Rose}
use Rattle.pm_serve.specs.declared.unread.TheConstants.{KEPT}
use Rattle.pm_serve.specs.declared.reader.Came.{Came}
use Rattle.pm_serve.specs.declared.reader.Came.TheVariants.{Line, Last, End, Failed, Spent}
use Rattle.pm_serve.specs.Bytes.{has_lf}

-- A whole line came: what was there and what was taken is the line, its LF, and what is there now. At most KEPT bytes of the line
-- are kept.
pub record LineCame (left rest : Option (List ℕ)) (before after line : List ℕ) : Type 0 where
  pub taken : List ℕ
  pub whole : List ℕ
  pub took : Consumes left rest taken
  pub split : before ++ taken ≡ whole ++ 10 ∷ after
  pub one : has_lf whole ≡ false
  pub kept : line ≡ take KEPT whole

-- the input ended after these bytes, in which there is no LF
pub record EndCame (left rest : Option (List ℕ)) (before after line : List ℕ) : Type 0 where
  pub taken : List ℕ
  pub whole : List ℕ
  pub took : Consumes left rest taken
  pub split : before ++ taken ≡ whole
  pub one : has_lf whole ≡ false
  pub kept : line ≡ take KEPT whole
  pub over : IsAtEnd rest
  pub none_left : after ≡ []

-- bytes were taken, and no line came
pub record PartCame (left rest : Option (List ℕ)) (before : List ℕ) : Type 0 where
  pub taken : List ℕ
  pub took : Consumes left rest taken

-- so many reads are made for a line, and so many lines are answered
abbrev pub most : ℕ
most = 2 ^ 64 - 1

-- As many bytes were taken as reads are made for a line, or more, and there is no LF among them but in what is still there.
pub record IsLong (before taken after : List ℕ) : Type 0 where
  pub whole : List ℕ
  pub split : before ++ taken ≡ whole ++ after
  pub one : has_lf whole ≡ false
  pub long : most ≤ length taken

-- bytes were taken without end, and no line came
pub record LongCame (left rest : Option (List ℕ)) (before after : List ℕ) : Type 0 where
  pub taken : List ℕ
  pub took : Consumes left rest taken
  pub is_long : IsLong before taken after

abbrev pub Reads : Came → Option (List ℕ) → Option (List ℕ) → List ℕ → List ℕ → List ℕ → Type 0
Reads Line left rest before after line = LineCame left rest before after line
Reads Last left rest before after line = EndCame left rest before after line × (line ≢ [])
Reads End left rest before after line = EndCame left rest before after line × (line ≡ [])
Reads Failed left rest before after line = PartCame left rest before
Reads Spent left rest before after line = LongCame left rest before after

abbrev pub ReadFaults : Came → ℕ → ℕ → Type 0
ReadFaults Line old new = new ≡ old
ReadFaults Last old new = new ≡ old
ReadFaults End old new = new ≡ old
ReadFaults Failed old new = Rose old new
ReadFaults Spent old new = new ≡ old

-- A whole line was there, and was taken.
pub record WasWaiting (before after line : List ℕ) : Type 0 where
  pub whole : List ℕ
  pub split : before ≡ whole ++ 10 ∷ after
  pub one : has_lf whole ≡ false
  pub kept : line ≡ take KEPT whole

-- the next line was taken where it was there whole; where it was not, nothing was
abbrev pub TakesWaiting : Bool → List ℕ → List ℕ → List ℕ → Type 0
TakesWaiting true before after line = WasWaiting before after line
TakesWaiting false before after line = (after ≡ before) × (has_lf before ≡ false)

-- at the end of input: whether there is a last line
abbrev pub IsLast : Came → List ℕ → Type 0
IsLast Line line = ⊥
IsLast Last line = line ≢ []
IsLast End line = line ≡ []
IsLast Failed line = ⊥
IsLast Spent line = ⊥

-- What is written for lines, by what a service may answer to each.
use Rattle.std.specs.Prelude.{◌≡◌, ◌≢◌, ◌⊎◌, ◌<◌, ◌≤◌, ℕ, Bool, true, false, List, [], ◌∷◌, ◌++◌, length, take, Option}
use Rattle.std.specs.Io.KnownBytes.{Consumes}
use Rattle.pm_io.specs.Faults.{Rose}
use Rattle.pm_io.specs.Moves.{Adds}
use Rattle.pm_serve.specs.declared.unread.TheConstants.{KEPT}
use Rattle.pm_serve.specs.declared.serving.Served.{Served}
use Rattle.pm_serve.specs.declared.serving.Served.TheVariants.{End, Closed, ReadFault, WriteFault, Spent}
use Rattle.pm_serve.specs.declared.serving.Next.{Next}
use Rattle.pm_serve.specs.declared.serving.Next.TheVariants.{More, Over}
use Rattle.pm_serve.specs.declared.serving.Wrote.{Wrote}
use Rattle.pm_serve.specs.declared.serving.Wrote.TheVariants as wrote
use Rattle.pm_serve.specs.Reads.{LineCame, EndCame, most, IsLong}
use Rattle.pm_serve.specs.Lines.{with_lf, AreLines}

-- what is kept of a line
abbrev pub kept : List ℕ → List ℕ
kept line = take KEPT line

-- a front of the text was written, and not all of it
pub record FrontWritten (text : List ℕ) (old new : Option (List ℕ)) : Type 0 where
  pub count : ℕ
  pub within : count < length text
  pub front : Adds old new (take count text)

module _ {S : Type 0} (replies : S → List ℕ → List ℕ → Bool → S → Type 0) (last : S → List ℕ) (no_memory : List ℕ) where
  -- The answer to a line: the service's, or that there was no memory, which changes nothing.
  abbrev pub Tells : S → List ℕ → List ℕ → Bool → S → Type 0
  Tells s line text more t = replies s line text more t ⊎ ((text ≡ no_memory) × (more ≡ true) × (t ≡ s))

  -- the answers to these lines, one after another, and what the service is after them
  abbrev pub Answers : S → List (List ℕ) → List ℕ → S → Type 0
  Answers s [] out t = (out ≡ []) × (t ≡ s)
  Answers s (line ∷ lines) out t =
      (text : List ℕ) × (mid : S) × (rest : List ℕ) × Tells s (kept line) text true mid × (out ≡ text ++ rest) × Answers mid lines rest t

  -- ---- the answer to one line, as it is written

  abbrev pub Writes : Wrote → S → S → List ℕ → Option (List ℕ) → Option (List ℕ) → Type 0
  Writes wrote.More s t line old new = (text : List ℕ) × Tells s line text true t × Adds old new text
  Writes wrote.Closed s t line old new = (text : List ℕ) × Tells s line text false t × Adds old new text
  Writes wrote.Fault s t line old new = (text : List ℕ) × (more : Bool) × Tells s line text more t × FrontWritten text old new

  -- ---- one step: a line is read and answered

  -- a whole line came, and its answer was written
  pub record Stepped (s t : S) (left rest : Option (List ℕ)) (before after : List ℕ) (old new : Option (List ℕ)) : Type 0 where
    pub line : List ℕ
    pub came : LineCame left rest before after line
    pub text : List ℕ
    pub tells : Tells s line text true t
    pub added : Adds old new text

  -- What is said at the end of input: the answer to the bytes after the last LF, if there are any, and what the service says last.
  abbrev pub IsEnd : S → S → List ℕ → List ℕ → Type 0
  IsEnd s t line out =
      ((line ≡ []) × (t ≡ s) × (out ≡ last t))
      ⊎ ((line ≢ []) × ((text : List ℕ) × Tells s line text true t × (out ≡ text ++ last t)))

  -- the input ended, and all was said
  pub record Ended (s t : S) (left rest : Option (List ℕ)) (before after : List ℕ) (old new : Option (List ℕ)) : Type 0 where
    pub line : List ℕ
    pub came : EndCame left rest before after line
    pub out : List ℕ
    pub is : IsEnd s t line out
    pub added : Adds old new out

  -- a line came, with its LF or at the end of input
  abbrev pub SomeCame : Option (List ℕ) → Option (List ℕ) → List ℕ → List ℕ → List ℕ → Type 0
  SomeCame left rest before after line = LineCame left rest before after line ⊎ EndCame left rest before after line

  -- a line came, and its answer was written, which is the last
  pub record ClosedBy (s t : S) (left rest : Option (List ℕ)) (before after : List ℕ) (old new : Option (List ℕ)) : Type 0 where
    pub line : List ℕ
    pub came : SomeCame left rest before after line
    pub text : List ℕ
    pub tells : Tells s line text false t
    pub added : Adds old new text

  -- a line or the end of input came, and of what was to be said a front was written
  pub record Broken (s t : S) (left rest : Option (List ℕ)) (before after : List ℕ) (old new : Option (List ℕ)) : Type 0 where
    pub line : List ℕ
    pub came : SomeCame left rest before after line
    pub out : List ℕ
    pub is : ((more : Bool) × Tells s line out more t) ⊎ IsEnd s t line out
    pub front : FrontWritten out old new

  -- bytes were taken, and nothing was said
  pub record Silent (s t : S) (left rest : Option (List ℕ)) (old new : Option (List ℕ)) : Type 0 where
    pub taken : List ℕ
    pub took : Consumes left rest taken
    pub same : t ≡ s
    pub none : Adds old new []

  -- Bytes were taken, and nothing was said. So many lines had been answered, or these bytes are a line without end.
  pub record Tired (count : ℕ) (s t : S) (left rest : Option (List ℕ)) (before after : List ℕ) (old new : Option (List ℕ)) : Type 0 where
    pub taken : List ℕ
    pub took : Consumes left rest taken
    pub same : t ≡ s
    pub none : Adds old new []
    pub many : (most ≤ count) ⊎ IsLong before taken after

  -- How it was over after so many lines.
  abbrev pub OverBy : ℕ → Served → S → S → Option (List ℕ) → Option (List ℕ) → List ℕ → List ℕ → Option (List ℕ) → Option (List ℕ) → Type 0
  OverBy count End s t left rest before after old new = Ended s t left rest before after old new
  OverBy count Closed s t left rest before after old new = ClosedBy s t left rest before after old new
  OverBy count ReadFault s t left rest before after old new = Silent s t left rest old new
  OverBy count WriteFault s t left rest before after old new = Broken s t left rest before after old new
  OverBy count Spent s t left rest before after old new = Tired count s t left rest before after old new

  abbrev pub Steps : Next → S → S → Option (List ℕ) → Option (List ℕ) → List ℕ → List ℕ → Option (List ℕ) → Option (List ℕ) → Type 0
  Steps More s t left rest before after old new = Stepped s t left rest before after old new
  Steps (Over served) s t left rest before after old new = OverBy 0 served s t left rest before after old new

  -- ---- all steps

  -- Lines came whole and were answered one after another: what was there and what was taken is these lines with their LFs, and
  -- what is there now; and the answers were written.
  pub record SoFar (s t : S) (left rest : Option (List ℕ)) (before after : List ℕ) (old new : Option (List ℕ)) : Type 0 where
    pub lines : List (List ℕ)
    pub taken : List ℕ
    pub took : Consumes left rest taken
    pub split : before ++ taken ≡ with_lf lines ++ after
    pub each : AreLines lines
    pub out : List ℕ
    pub answers : Answers s lines out t
    pub added : Adds old new out

  -- lines came whole and were answered, and then it was over
  pub record Serves (served : Served) (s t : S) (left rest : Option (List ℕ)) (before after : List ℕ) (old new : Option (List ℕ)) : Type 0 where
    pub mid : S
    pub left_then : Option (List ℕ)
    pub there_then : List ℕ
    pub written_then : Option (List ℕ)
    pub lines_came : SoFar s mid left left_then before there_then old written_then
    pub over : OverBy (length lines_came.lines) served mid t left_then rest there_then after written_then new

-- what is said last, written whole or in part
abbrev pub SaysLast : List ℕ → Served → Option (List ℕ) → Option (List ℕ) → Type 0
SaysLast text End old new = Adds old new text
SaysLast text Closed old new = ⊥
SaysLast text ReadFault old new = ⊥
SaysLast text WriteFault old new = FrontWritten text old new
SaysLast text Spent old new = ⊥

abbrev pub WriteFaults : Wrote → ℕ → ℕ → Type 0
WriteFaults wrote.More old new = new ≡ old
WriteFaults wrote.Closed old new = new ≡ old
WriteFaults wrote.Fault old new = Rose old new

abbrev pub LastFaults : Served → ℕ → ℕ → Type 0
LastFaults End old new = new ≡ old
LastFaults Closed old new = new ≡ old
LastFaults ReadFault old new = new ≡ old
LastFaults WriteFault old new = Rose old new
LastFaults Spent old new = new ≡ old

-- a failed read or write raised its count of faults, and no other did
abbrev pub ServeFaults : Served → ℕ → ℕ → ℕ → ℕ → Type 0
ServeFaults End old new old_w new_w = (new ≡ old) × (new_w ≡ old_w)
ServeFaults Closed old new old_w new_w = (new ≡ old) × (new_w ≡ old_w)
ServeFaults ReadFault old new old_w new_w = Rose old new × (new_w ≡ old_w)
ServeFaults WriteFault old new old_w new_w = (new ≡ old) × Rose old_w new_w
ServeFaults Spent old new old_w new_w = (new ≡ old) × (new_w ≡ old_w)

abbrev pub StepFaults : Next → ℕ → ℕ → ℕ → ℕ → Type 0
StepFaults More old new old_w new_w = (new ≡ old) × (new_w ≡ old_w)
StepFaults (Over served) old new old_w new_w = ServeFaults served old new old_w new_w

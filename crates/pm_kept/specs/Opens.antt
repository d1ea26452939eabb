-- Why there is no service behind the lines of a file.
use Rattle.std.specs.Prelude.{◌≡◌, ◌≢◌, ◌+◌, ◌++◌, ℕ, Bool, false, List, [], ◌∷◌, length}
use Rattle.pm_journal.specs.Lines.{recorded, IsAtRest}
use Rattle.pm_journal.specs.Journal.{RecoverFails}
use Rattle.pm_journal.specs.declared.errors.RecoverError.TheVariants as recover
use Rattle.pm_kept.specs.declared.opening.OpenError.{OpenError}
use Rattle.pm_kept.specs.declared.opening.OpenError.TheVariants as error
use Rattle.pm_kept.specs.Means.{Meaning}
use Rattle.pm_kept.specs.Behind.{Behind}

module _ {S : Type 0} (m : Meaning S) where
  -- The line with this number, counted from 1, is not accepted behind those before it: it changes nothing.
  pub record IsNotAccepted (lines : List (List ℕ)) (number : ℕ) : Type 0 where
    pub before : List (List ℕ)
    pub line : List ℕ
    pub later : List (List ℕ)
    pub split : lines ≡ before ++ line ∷ later
    pub place : number ≡ length before + 1
    pub was : S
    pub behind : Behind m before m.start was
    pub text : List ℕ
    pub more : Bool
    pub next : S
    pub replies : m.replies was line text more next
    pub same : next ≡ was

  -- the service behind all of them has not begun
  abbrev pub AwaitsMore : List (List ℕ) → Type 0
  AwaitsMore lines = (service : S) × Behind m lines m.start service × (m.is_begun service ≡ false)

  -- By the counts of faults and the file, which is told where the disk is clean: a call of the disk failed and was counted; or there
  -- was no memory; or the file has no lines and a closed gate behind them, or lines that open nothing.
  abbrev pub OpenFails : OpenError → ℕ → ℕ → Type 0 → List ℕ → Type 0
  OpenFails (error.Unread e) old new clean file =
      RecoverFails e old new × (e ≡ recover.Broken → clean → (lines : List (List ℕ)) → lines ≢ [] → ¬ IsAtRest lines file)
  OpenFails error.Memory old new clean file = new ≡ old
  OpenFails (error.NotAccepted number) old new clean file = (new ≡ old) × (clean → IsNotAccepted (recorded file) number)
  OpenFails error.NoDocument old new clean file = (new ≡ old) × (clean → AwaitsMore (recorded file))

  -- of the lines alone
  abbrev pub ReplayFails : OpenError → List (List ℕ) → Type 0
  ReplayFails (error.Unread e) lines = ⊥
  ReplayFails error.Memory lines = Unit {0}
  ReplayFails (error.NotAccepted number) lines = IsNotAccepted lines number
  ReplayFails error.NoDocument lines = ⊥

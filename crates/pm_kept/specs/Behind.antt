-- What stands behind the lines of a file.
use Rattle.std.specs.Prelude.{◌≡◌, ◌≢◌, ◌⊎◌, ℕ, true, List, [], ◌∷◌, if◌then◌else◌}
use Rattle.pm_journal.specs.Lines.{recorded}
use Rattle.pm_kept.specs.Means.{Meaning, unlimited}

-- The line, if it was accepted: a line is where it changed something.
abbrev pub Takes : {S : Type 0} → S → List ℕ → S → List (List ℕ) → Type 0
Takes was line next new = ((next ≢ was) × (new ≡ line ∷ [])) ⊎ ((next ≡ was) × (new ≡ []))

module _ {S : Type 0} (m : Meaning S) where
  -- From this service on each of the lines is answered and accepted, and then the service is this.
  abbrev pub Behind : List (List ℕ) → S → S → Type 0
  Behind [] first now = now ≡ first
  Behind (line ∷ lines) first now =
      (text : List ℕ) × (next : S) × m.replies first line text true next × (next ≢ first) × Behind lines next now

  -- The service stands behind these lines, from the first one on, but for its limit: what it accepts within a limit stays accepted
  -- when the limit is another, or none.
  abbrev pub Stands : List (List ℕ) → S → Type 0
  Stands lines service = Behind lines m.start (unlimited m service)

  -- those of the service's accepted lines that are in the file: none before it has begun, and then all
  abbrev pub in_file : S → List (List ℕ) → List (List ℕ)
  in_file service lines = if m.is_begun service then lines else []

  -- The service stands behind these lines, and they are in the file once it has begun.
  pub record Keeps (file : List ℕ) (service : S) (lines : List (List ℕ)) : Type 0 where
    pub found : recorded file ≡ in_file service lines
    pub behind : Stands lines service

  -- some service stands behind its lines
  abbrev pub KeepsSome : List ℕ → Type 0
  KeepsSome file = (service : S) × (lines : List (List ℕ)) × Keeps file service lines

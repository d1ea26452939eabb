-- What follows for all lines that a service stands behind, and for all files that a crash may leave.
use Rattle.std.specs.Prelude.{◌≢◌, ℕ, List, []}
use Rattle.pm_journal.specs.Lines.{recorded}
use Rattle.pm_talk.specs.declared.limited.Limited.{Limited}
use Rattle.pm_kept.specs.Means.{Meaning}
use Rattle.pm_kept.specs.Alike.{Alike}
use Rattle.pm_kept.specs.Behind.{Behind, KeepsSome}
use Rattle.pm_kept.specs.Opens.{IsNotAccepted, AwaitsMore}
use Rattle.pm_kept.specs.LimitedTalks.{limited_meaning}

-- talks that stand behind the same lines stand alike
abbrev pub AllStandAlike : Type 0
AllStandAlike =
    (lines : List (List ℕ)) (t other : Limited) → Behind limited_meaning lines limited_meaning.start t → Behind limited_meaning lines limited_meaning.start other
    → Alike t.talk other.talk

module _ {S : Type 0} (m : Meaning S) where
  -- of lines behind which the service stands each is accepted, whenever they are replayed
  abbrev pub AllAcceptedAgain : Type 0
  AllAcceptedAgain = (lines : List (List ℕ)) (service : S) → Behind m lines m.start service → (number : ℕ) → ¬ IsNotAccepted m lines number

  -- So each line of a file that a crash may leave is accepted; and where it has a line, its lines open the service.
  pub record Reopens (file : List ℕ) : Type 0 where
    pub accepted : (number : ℕ) → ¬ IsNotAccepted m (recorded file) number
    pub opens : recorded file ≢ [] → ¬ AwaitsMore m (recorded file)

  abbrev pub AllReopen : Type 0
  AllReopen = (file : List ℕ) → KeepsSome m file → Reopens file

-- What the authority answers to a message, and what it is then.
use Rattle.std.specs.Prelude.{ℕ, ◌==◌, if◌then◌else◌, List, ◌++◌, length, drop, Result, Ok, Err}
use Rattle.pm_change.specs.Changes.{Meaning}
use Rattle.pm_authority.specs.Runs.{run}
use Rattle.pm_authority.specs.declared.named.Named.{Named}
use Rattle.pm_authority.specs.declared.running.Refusal.{Refusal}
use Rattle.pm_authority.specs.declared.message.Message.{Message}
use Rattle.pm_authority.specs.declared.message.Message.TheVariants.{Submit, Ask}
use Rattle.pm_authority.specs.declared.message.Answer.{Answer}
use Rattle.pm_authority.specs.declared.message.Answer.TheVariants.{Accepted, WrongVersion, StepRefused, Entries}
use Rattle.pm_authority.specs.declared.authority.Authority.{Authority}

module _ {Rules Doc Reason C : Type 0} where
  -- A request gets the log from its version on, and changes nothing.
  abbrev pub asked : Authority C Rules Doc Reason → ℕ → Answer C Rules Doc Reason × Authority C Rules Doc Reason
  asked a version = (Entries version (drop version a.log), a)

module _ {Rules Doc Reason C : Type 0} (m : Meaning Rules Doc Reason C) (rules : Rules) where
  -- What a submission gets, by what its steps give. Where they give a document, they are appended to the log, and the
  -- answer is the log's old length and their number. Where one is refused, the answer says so and nothing changes.
  abbrev pub tried : Authority C Rules Doc Reason → List (Named C) → Result Doc (Refusal Reason)
      → Answer C Rules Doc Reason × Authority C Rules Doc Reason
  tried a steps (Ok d) = (Accepted (length a.log) (length steps), record { first = a.first; doc = d; log = a.log ++ steps })
  tried a steps (Err e) = (StepRefused e.index e.reason, a)

  -- A submission whose version is the log's length is tried on the authority's document. Each other gets the log's
  -- length and changes nothing.
  abbrev pub submitted : Authority C Rules Doc Reason → ℕ → List (Named C)
      → Answer C Rules Doc Reason × Authority C Rules Doc Reason
  submitted a version steps =
      if version == length a.log
      then tried a steps (run m rules a.doc 0 steps)
      else (WrongVersion (length a.log), a)

  -- the answer to a message, and the authority after it
  abbrev pub presented : Authority C Rules Doc Reason → Message C
      → Answer C Rules Doc Reason × Authority C Rules Doc Reason
  presented a (Submit version steps) = submitted a version steps
  presented a (Ask version) = asked a version

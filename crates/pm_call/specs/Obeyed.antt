-- How a call for a command ended.
use Rattle.std.specs.Prelude.{◌≡◌, ◌⊎◌, ℕ, List, Option, Some}
use Rattle.std.specs.Io.KnownBytes.{IsAtEnd}
use Rattle.pm_io.specs.Faults.{Rose}
use Rattle.pm_call.specs.declared.call.Status.{Status}
use Rattle.pm_call.specs.declared.call.Status.TheVariants.{Done, SessionRefused, Usage, ReadFault, WriteFault, NoMemory}
use Rattle.pm_call.specs.declared.words.Command.{Command}
use Rattle.pm_call.specs.Files.{ReadsInput}
use Rattle.pm_call.specs.Output.{Answered, AnswersRead, IsAnswer, IsPastLimit}
use Rattle.pm_call.specs.Headline.{Silent}

-- The command was obeyed with this status. Before and after it the source had `left` and `rest` left, and had told so many
-- faults; the sink had taken `old` and `new`, and had told so many.
pub record Obeyed (asked : Command) (status : Status) (left rest : Option (List ℕ)) (read_faults reads_after : ℕ)
    (old new : Option (List ℕ)) (write_faults writes_after : ℕ) : Type 0 where
  pub no_usage : status ≡ Usage → ⊥
  pub silent : Silent status old new
  pub output : (input : List ℕ) → left ≡ Some input → Answered asked input status old new
  pub read_fault : status ≡ ReadFault → Rose read_faults reads_after
  pub write_fault : status ≡ WriteFault → Rose write_faults writes_after
  pub no_read_fault : (status ≡ ReadFault) ⊎ (reads_after ≡ read_faults)
  pub no_write_fault : (status ≡ WriteFault) ⊎ (writes_after ≡ write_faults)
  pub read_whole : ReadsInput asked → status ≡ Done → IsAtEnd rest
  pub read_enough : ReadsInput asked → status ≡ SessionRefused → IsAtEnd rest ⊎ IsPastLimit left rest
  pub made : ReadsInput asked ⊎ ((rest ≡ left) × (reads_after ≡ read_faults))
  pub complete : (Rose read_faults reads_after → ⊥) → (Rose write_faults writes_after → ⊥) → IsAnswer status ⊎ (status ≡ NoMemory)
  pub answers : IsAnswer status → AnswersRead asked status left rest old new

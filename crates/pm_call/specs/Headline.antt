-- How the words, the input, what was written and the status stand together.
use Rattle.std.specs.Prelude.{◌≡◌, ◌≤◌, ℕ, List, length, take, Option, ⊤}
use Rattle.pm_io.specs.Moves.{Adds}
use Rattle.pm_call.specs.declared.call.Status.{Status}
use Rattle.pm_call.specs.declared.call.Status.TheVariants.{Done, SessionRefused, Usage, ReadFault, WriteFault, NoMemory}

-- The output was written where the call answered, a front of it where a write failed, and else nothing.
abbrev pub Writes : Status → Option (List ℕ) → Option (List ℕ) → List ℕ → Type 0
Writes Done old new output = Adds old new output
Writes SessionRefused old new output = Adds old new output
Writes Usage old new output = new ≡ old
Writes ReadFault old new output = new ≡ old
Writes WriteFault old new output = (n : ℕ) × (n ≤ length output) × Adds old new (take n output)
Writes NoMemory old new output = new ≡ old

-- An answer is the right one. Faults and running out of memory are no answers.
abbrev pub Agrees : Status → Status → Type 0
Agrees Done right = right ≡ Done
Agrees SessionRefused right = right ≡ SessionRefused
Agrees Usage right = ⊥
Agrees ReadFault right = ⊤
Agrees WriteFault right = ⊤
Agrees NoMemory right = ⊤

-- Nothing was written where there is no answer.
abbrev pub Silent : Status → Option (List ℕ) → Option (List ℕ) → Type 0
Silent Done old new = ⊤
Silent SessionRefused old new = ⊤
Silent Usage old new = new ≡ old
Silent ReadFault old new = new ≡ old
Silent WriteFault old new = ⊤
Silent NoMemory old new = new ≡ old

-- the number with which the program ends
abbrev pub number_of : Status → ℕ
number_of Done = 0
number_of SessionRefused = 1
number_of Usage = 2
number_of ReadFault = 3
number_of WriteFault = 4
number_of NoMemory = 5

-- The words of the command line.
use Rattle.std.specs.Prelude.{ℕ, List, [], ◌∷◌, codes, Option, Some, None, option_map, nat_eq, if◌then◌else◌, ⊤}
use Rattle.std.specs.Cmp.Lexicographic.{pointwise}
use Rattle.pm_gen.specs.Asking.{number_of, asked_of}
use Rattle.pm_gen.specs.Bounds.{InBounds}
use Rattle.pm_call.specs.declared.words.Command.{Command}
use Rattle.pm_call.specs.declared.words.Command.TheVariants.{Check, Replay, Select, Run, Gen, Late, At, Rooms, RunRooms}

-- what a word asks for
abbrev pub command_named : List ℕ → Option Command
command_named word =
    if pointwise nat_eq word (codes "check") then Some Check
    else (if pointwise nat_eq word (codes "replay") then Some Replay
    else (if pointwise nat_eq word (codes "select") then Some Select
    else (if pointwise nat_eq word (codes "run") then Some Run
    else (if pointwise nat_eq word (codes "late") then Some Late
    else (if pointwise nat_eq word (codes "rooms") then Some Rooms
    else (if pointwise nat_eq word (codes "runrooms") then Some RunRooms else None))))))

-- what a word with one number asks for, which is one to twenty decimal digits and below 2^64
abbrev pub at_named : (word version : List ℕ) → Option Command
at_named word version = if pointwise nat_eq word (codes "at") then option_map At (number_of version) else None

-- what a word with three numbers asks for
abbrev pub gen_named : (word clients rounds number : List ℕ) → Option Command
gen_named word clients rounds number = if pointwise nat_eq word (codes "gen") then option_map Gen (asked_of clients rounds number) else None

-- what the words ask for; None where they are none of the forms
abbrev pub command_of : List (List ℕ) → Option Command
command_of [] = None
command_of (word ∷ []) = command_named word
command_of (word ∷ version ∷ []) = at_named word version
command_of (word ∷ a ∷ b ∷ []) = None
command_of (word ∷ clients ∷ rounds ∷ number ∷ []) = gen_named word clients rounds number
command_of (word ∷ a ∷ b ∷ c ∷ next ∷ more) = None

-- a command that takes no threads
abbrev pub without_threads : Option Command → Option Command
without_threads None = None
without_threads (Some Check) = Some Check
without_threads (Some Replay) = Some Replay
without_threads (Some Select) = Some Select
without_threads (Some Run) = None
without_threads (Some Late) = Some Late
without_threads (Some (At n)) = Some (At n)
without_threads (Some (Gen asked)) = Some (Gen asked)
without_threads (Some Rooms) = Some Rooms
without_threads (Some RunRooms) = None

-- what the words ask for where there are no threads: the words `run` and `runrooms` are then none of the forms
abbrev pub plain_command_of : List (List ℕ) → Option Command
plain_command_of words = without_threads (command_of words)

-- a session that is to be made is within its limits
abbrev pub IsBounded : Command → Type 0
IsBounded Check = ⊤
IsBounded Replay = ⊤
IsBounded Select = ⊤
IsBounded Run = ⊤
IsBounded Late = ⊤
IsBounded (At n) = ⊤
IsBounded Rooms = ⊤
IsBounded RunRooms = ⊤
IsBounded (Gen asked) = InBounds asked.clients asked.rounds

-- What a reader of op lines answers.
use Rattle.std.specs.Prelude.{◌≡◌, Result, Ok, Err}
use Rattle.pm_head.specs.declared.fault.Refusal.{Refusal}
use Rattle.pm_head.specs.declared.fault.SessionError.{SessionError}
use Rattle.pm_head.specs.declared.fault.SessionError.TheVariants.{Refused, NoMemory}

-- what a call returned, seen by view, is the reading, unless memory ran out
abbrev pub Gives : {X Y : Type 0} → (X → Y) → Result X SessionError → Result Y Refusal → Type 0
Gives view (Ok x) read = read ≡ Ok (view x)
Gives view (Err (Refused refusal)) read = read ≡ Err refusal
Gives view (Err NoMemory) read = Unit {0}

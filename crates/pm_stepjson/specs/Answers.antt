-- What a reading gives, and what it may answer.
use Rattle.std.specs.Prelude.{◌≡◌, Result, Ok, Err}
use Rattle.pm_stepjson.specs.declared.fault.StepReadError.{StepReadError}
use Rattle.pm_stepjson.specs.declared.fault.StepReadError.TheVariants.{Shape, UnknownKind, Slice, Mark, NoMemory, Value}

-- the reading has this fault, unless memory ran out
abbrev pub Fails : {Y : Type 0} → StepReadError → Result Y StepReadError → Type 0
Fails Shape read = read ≡ Err Shape
Fails UnknownKind read = read ≡ Err UnknownKind
Fails (Slice e) read = read ≡ Err (Slice e)
Fails (Mark e) read = read ≡ Err (Mark e)
Fails NoMemory read = Unit {0}
Fails (Value e) read = read ≡ Err (Value e)

-- what a call returned, seen by view, is the reading
abbrev pub Gives : {X Y : Type 0} → (X → Y) → Result X StepReadError → Result Y StepReadError → Type 0
Gives view (Ok x) read = read ≡ Ok (view x)
Gives view (Err e) read = Fails e read

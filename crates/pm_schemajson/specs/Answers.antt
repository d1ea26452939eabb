-- What a reading gives, and what it may answer.
use Rattle.std.specs.Prelude.{◌≡◌, Result, Ok, Err}
use Rattle.pm_schemajson.specs.declared.error.SchemaReadError.{SchemaReadError}
use Rattle.pm_schemajson.specs.declared.error.SchemaReadError.TheVariants.{NoMemory}

-- the reading has this fault, unless memory ran out
abbrev pub Fails : {Y : Type 0} → SchemaReadError → Result Y SchemaReadError → Type 0
Fails NoMemory read = Unit {0}
Fails e read = read ≡ Err e

-- what a call returned, seen by view, is the reading
abbrev pub Gives : {X Y : Type 0} → (X → Y) → Result X SchemaReadError → Result Y SchemaReadError → Type 0
Gives view (Ok x) read = read ≡ Ok (view x)
Gives view (Err e) read = Fails e read

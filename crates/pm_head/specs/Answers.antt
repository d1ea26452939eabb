-- What a call gives of a line or of the lines, and what it may answer.
use Rattle.std.specs.Prelude.{◌≡◌, Result, Ok, Err}
use Rattle.pm_head.specs.declared.code.Code.{Code}
use Rattle.pm_head.specs.declared.fault.Refusal.{Refusal}
use Rattle.pm_head.specs.declared.fault.LineError.{LineError}
use Rattle.pm_head.specs.declared.fault.LineError.TheVariants as line
use Rattle.pm_head.specs.declared.fault.SessionError.{SessionError}
use Rattle.pm_head.specs.declared.fault.SessionError.TheVariants as session

-- the reading has this code, unless memory ran out
abbrev pub Fails : {Y : Type 0} → LineError → Result Y Code → Type 0
Fails (line.Code code) read = read ≡ Err code
Fails line.NoMemory read = Unit {0}

-- what a call returned, seen by view, is the reading
abbrev pub Gives : {X Y : Type 0} → (X → Y) → Result X LineError → Result Y Code → Type 0
Gives view (Ok x) read = read ≡ Ok (view x)
Gives view (Err e) read = Fails e read

-- the relation has this code, unless memory ran out
abbrev pub Faults : {X : Type 0} → (Result X Code → Type 0) → LineError → Type 0
Faults P (line.Code code) = P (Err code)
Faults P line.NoMemory = Unit {0}

-- what a call returned is in the relation
abbrev pub Finds : {X : Type 0} → (Result X Code → Type 0) → Result X LineError → Type 0
Finds P (Ok x) = P (Ok x)
Finds P (Err e) = Faults P e

-- the relation has this refusal, unless memory ran out
abbrev pub Refuses : {X : Type 0} → (Result X Refusal → Type 0) → SessionError → Type 0
Refuses P (session.Refused refusal) = P (Err refusal)
Refuses P session.NoMemory = Unit {0}

-- what a call returned of the lines, seen by view, is in the relation
abbrev pub Reads : {X Y : Type 0} → (X → Y) → (Result Y Refusal → Type 0) → Result X SessionError → Type 0
Reads view P (Ok x) = P (Ok (view x))
Reads view P (Err e) = Refuses P e

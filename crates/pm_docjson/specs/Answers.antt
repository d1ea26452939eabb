-- What a reading gives, and what it may answer.
use Rattle.std.specs.Prelude.{◌≡◌, Result, Ok, Err}
use Rattle.pm_docjson.specs.declared.fault.DocReadError.{DocReadError}
use Rattle.pm_docjson.specs.declared.fault.DocReadError.TheVariants.{Shape, UnknownType, Attr, EmptyText, NotASet, Open, NoMemory, Large}

-- the reading has this fault, unless memory ran out
abbrev pub Fails : {Y : Type 0} → DocReadError → Result Y DocReadError → Type 0
Fails Shape read = read ≡ Err Shape
Fails UnknownType read = read ≡ Err UnknownType
Fails Attr read = read ≡ Err Attr
Fails EmptyText read = read ≡ Err EmptyText
Fails NotASet read = read ≡ Err NotASet
Fails Open read = read ≡ Err Open
Fails NoMemory read = Unit {0}
Fails Large read = read ≡ Err Large

-- what a call returned, seen by view, is the reading
abbrev pub Gives : {X Y : Type 0} → (X → Y) → Result X DocReadError → Result Y DocReadError → Type 0
Gives view (Ok x) read = read ≡ Ok (view x)
Gives view (Err e) read = Fails e read

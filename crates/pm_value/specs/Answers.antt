-- What a reading gives, and what it may answer.
use Rattle.std.specs.Prelude.{◌≡◌, Result, Ok, Err}
use Rattle.pm_value.specs.declared.fault.ValueError.{ValueError}
use Rattle.pm_value.specs.declared.fault.ValueError.TheVariants.{Float, Wide, Deep, NoMemory}

-- the reading has this fault, unless memory ran out
abbrev pub Fails : {Y : Type 0} → ValueError → Result Y ValueError → Type 0
Fails Float read = read ≡ Err Float
Fails Wide read = read ≡ Err Wide
Fails Deep read = read ≡ Err Deep
Fails NoMemory read = Unit {0}

-- what a call returned, seen by view, is the reading
abbrev pub Gives : {X Y : Type 0} → (X → Y) → Result X ValueError → Result Y ValueError → Type 0
Gives view (Ok x) read = read ≡ Ok (view x)
Gives view (Err e) read = Fails e read

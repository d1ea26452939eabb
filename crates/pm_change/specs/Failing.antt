-- What a call answers, or running out of memory.
use Rattle.std.specs.Prelude.{◌≡◌, Result, Ok, Err}
use Rattle.pm_change.specs.declared.failed.Failed.{Failed}
use Rattle.pm_change.specs.declared.failed.Failed.TheVariants.{Reason, NoMemory}

module _ {D R : Type 0} where
  -- the call gave this very value or this very reason, or memory ran out
  abbrev pub Answers : Result D R → Result D (Failed R) → Type 0
  Answers o (Ok d) = o ≡ Ok d
  Answers o (Err (Reason r)) = o ≡ Err r
  Answers o (Err NoMemory) = Unit {0}

-- Whether a line changed a house with a limit of work.
use Rattle.std.proofs.Common.{◌≡◌, Bool, true, false, ap, refl}
use Rattle.std.specs.Prelude.{◌≢◌, MatchBool, Result, Ok, Err, IfOk}
use Rattle.pm_house.specs.declared.changing.Answer.{Answer}
use Rattle.pm_house.specs.declared.house.House.{House}
use Rattle.pm_house.specs.declared.limited.LimitedHouse.{LimitedHouse}

by_change : (changed : Bool) (old : LimitedHouse) (house : House) → MatchBool changed (house ≢ old.house) (house ≡ old.house)
    → MatchBool changed (record { house = house; limit = old.limit } ≢ old) (record { house = house; limit = old.limit } ≡ old)
by_change true old house other = λ e. other (ap (λ (t : LimitedHouse). t.house) e)
by_change false old house same = λ i. record { house = same i; limit = old.limit }

-- it did where its house changed, for the limit stays
pub changed-within : {E : Type 0} (result : Result Answer E) (old : LimitedHouse) (house : House) → IfOk result (λ a. MatchBool a.changed (house ≢ old.house) (house ≡ old.house))
    → IfOk result (λ a. MatchBool a.changed (record { house = house; limit = old.limit } ≢ old) (record { house = house; limit = old.limit } ≡ old))
changed-within (Ok a) old house changed = by_change a.changed old house changed
changed-within (Err e) old house changed = tt

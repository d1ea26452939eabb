use Rattle.std.proofs.Common.{ℕ, List, Result, sym, subst}
use Rattle.pm_head.specs.declared.code.Code.{Code}
use Rattle.pm_house.specs.Marks.{IsPlace}
use Rattle.pm_house.proofs.house.House.place_in.Goals as goal

pub returns-in-Ok : goal.returns-in-Ok
returns-in-Ok c =
    subst (λ (r : Result (List ℕ) Code). IsPlace c.args.self.now r c.place.result) (sym c.in-Ok.ensures) (c.place.ensures.place, c.place.ensures.has)

-- How serving ended, and the status that says so.
use Rattle.std.proofs.Common.{◌≡◌, ◌∙◌, ℕ, Bool, true, false, inl, inr, sym, subst}
use Rattle.pm_serve.specs.declared.serving.Served.{Served}
use Rattle.pm_serve.specs.declared.serving.Served.TheVariants as served
use Rattle.pm_serve.specs.Serves.{ServeFaults}
use Rattle.pm_live.specs.declared.status.Status.{Status}
use Rattle.pm_live.specs.declared.status.Status.TheVariants.{Done, Refused, Usage, ReadFault, WriteFault, NoMemory, Spent}
use Rattle.pm_live.specs.Calls.{status_of, FaultsAt}

-- whether a status says that something was read
abbrev Speaks : Status → Type 0
Speaks Done = Unit {0}
Speaks Refused = Unit {0}
Speaks Usage = ⊥
Speaks ReadFault = Unit {0}
Speaks WriteFault = Unit {0}
Speaks NoMemory = ⊥
Speaks Spent = Unit {0}

speaks : (s : Served) (is_open : Bool) → Speaks (status_of s is_open)
speaks served.End true = tt
speaks served.End false = tt
speaks served.Closed is_open = tt
speaks served.ReadFault is_open = tt
speaks served.WriteFault is_open = tt
speaks served.Spent is_open = tt

faults-of : (s : Served) (is_open : Bool) (old new old_w new_w : ℕ) → ServeFaults s old new old_w new_w → FaultsAt (status_of s is_open) old new old_w new_w
faults-of served.End true old new old_w new_w h = h
faults-of served.End false old new old_w new_w h = h
faults-of served.Closed is_open old new old_w new_w h = h
faults-of served.ReadFault is_open old new old_w new_w h = h
faults-of served.WriteFault is_open old new old_w new_w h = h
faults-of served.Spent is_open old new old_w new_w h = h

pub faults-at : (s : Served) (is_open : Bool) (status : Status) (old new old_w new_w : ℕ) → status ≡ status_of s is_open
    → ServeFaults s old new old_w new_w → FaultsAt status old new old_w new_w
faults-at s is_open status old new old_w new_w e h =
    subst (λ (x : Status). FaultsAt x old new old_w new_w) (sym e) (faults-of s is_open old new old_w new_w h)

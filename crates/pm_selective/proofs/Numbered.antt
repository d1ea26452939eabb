-- The last event that has a number.
use Rattle.std.specs.Prelude.{◌≡◌, ◌↔◌, ◌<◌, ℕ, Bool, true, false, ◌||◌, List, [], ◌∷◌, ◌++◌, if◌then◌else◌, length, Contains, Option, Some, None, refl}
use Rattle.std.proofs.Common.{arith, ap, sym, subst, ◌∙◌}
use Rattle.std.proofs.lemmas.Bool.{true≢false}
use Rattle.std.proofs.lemmas.List.Elements.{Contains-append_right}
use Rattle.pm_meaning.specs.Steps.{Step}
use Rattle.pm_history.specs.declared.branch.Event.{Event}
use Rattle.pm_history.specs.declared.branches.Branches.{Branches}
use Rattle.pm_history.specs.Turns.{has_number, any_numbered, last_numbered}
use Rattle.pm_selective.specs.Histories.{IsApartIn}
use Rattle.pm_selective.specs.Standing.{HasTimeline, IsCount}
use Rattle.pm_selective.proofs.Leavings.{StandsIn}

pub some-event : (a b : Event) → Some a ≡ Some b → a ≡ b
some-event a b h = cc

-- it stands among the events
pub numbered-in : (k : ℕ) (es : List Event) (e : Event) → last_numbered k es ≡ Some e → StandsIn es e
numbered-in k [] e h = absurd (cc)
numbered-in k (x ∷ es) e h = from (any_numbered k es) (has_number k x) (numbered-in k es e) h
  where
    from : (later here : Bool) → (last_numbered k es ≡ Some e → StandsIn es e) → (if later then last_numbered k es else (if here then Some x else None)) ≡ Some e → StandsIn (x ∷ es) e
    from true here rest g = let i = rest g in record { front = x ∷ i.front; back = i.back; are = ap (λ ys. x ∷ ys) i.are }
    from false true rest g = record { front = []; back = es; are = ap (λ y. y ∷ es) (some-event x e g) }
    from false false rest g = absurd (cc)

pub numbered-there : (k : ℕ) (es : List Event) (e : Event) → last_numbered k es ≡ Some e → Contains es e
numbered-there k es e h =
    let i = numbered-in k es e h in
    subst (λ xs. Contains xs e) (sym i.are) (Contains-append_right i.front (e ∷ i.back) e (0, omega arith, refl))

-- where there is one, some event has the number
pub numbered-any : (k : ℕ) (es : List Event) (e : Event) → last_numbered k es ≡ Some e → any_numbered k es ≡ true
numbered-any k [] e h = absurd (cc)
numbered-any k (x ∷ es) e h = from (any_numbered k es) (has_number k x) h
  where
    from : (later here : Bool) → (if later then last_numbered k es else (if here then Some x else None)) ≡ Some e → (here || later) ≡ true
    from true true g = refl
    from true false g = refl
    from false true g = refl
    from false false g = absurd (cc)

-- an event that does not lie apart is not counted
pub not-counted : (h : Branches Step) (k : ℕ) (e : Event) (told : Bool) → last_numbered k h.undo ≡ Some e → ((t : HasTimeline h) → (told ≡ true) ↔ IsApartIn e.names t.steps) → told ≡ false
    → IsCount h k None
not-counted h k e told found tells fails = λ event t there apart.
    let same : event ≡ e = some-event event e (sym there ∙ found) in
    let yes : told ≡ true = (tells t).1 (subst (λ (x : Event). IsApartIn x.names t.steps) same apart) in
    true≢false (sym yes ∙ fails)

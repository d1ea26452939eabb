-- What keeps the serials that a client drew parted.
use Rattle.std.specs.Prelude.{◌≡◌, ℕ, suc, ◌+◌, ◌≤◌, ◌<◌, ◌==◌, if◌then◌else◌, List, [], ◌∷◌, ◌++◌, length}
use Rattle.std.specs.List.{AllByRecursion as Each}
use Rattle.std.proofs.Common.{sym, ap, ◌∙◌, subst, arith, append_assoc, append-nil}
use Rattle.pm_authority.specs.declared.named.Named.{Named}
use Rattle.pm_client.specs.Clients.{named}
use Rattle.pm_client.specs.Kins.{IsOwn, IsForeign}
use Rattle.pm_client.specs.Serials.{times, serials_of, own_serials, numbers_to, Rises, Parted}
use Rattle.pm_client.proofs.SerialLists.{times-append, serials-append, own_serials-append, own_serials-own, own_serials-foreign, each-bound, rises-append}

times-named : {C : Type 0} (s client d : ℕ) (cs : List C)
    → times s (serials_of (named client (d + 1) cs)) + times s (numbers_to d) ≡ times s (numbers_to (d + length cs))
times-named s client d [] = let e : d ≡ d + 0 = omega arith in omega (arith, ap (λ n. times s (numbers_to n)) e)
times-named s client d (c ∷ cs) =
    let go = times-named s client (suc d) cs in
    let e : suc d + length cs ≡ d + length (c ∷ cs) = omega arith in
    let f : suc d ≡ d + 1 = omega arith in
    let more : times s (serials_of (named client (d + 1 + 1) cs)) + ((if d + 1 == s then 1 else 0) + times s (numbers_to d))
    ≡ times s (numbers_to (d + length (c ∷ cs))) =
    rw (← f) (rw e at go) in
    omega (arith, more)

named-rises : {C : Type 0} (client n d : ℕ) (cs : List C) → n < d → Each (λ y. n < y) (serials_of (named client d cs)) × Rises (serials_of (named client d cs))
named-rises client n d [] l = (tt, tt)
named-rises client n d (c ∷ cs) l =
    let more = named-rises client n (d + 1) cs (omega arith) in
    let here = named-rises client d (d + 1) cs (omega arith) in
    ((l, more.0), (here.0, here.1))

module _ {C : Type 0} (client : ℕ) (before pending : List (Named C)) (dropped : List ℕ) (drawn : ℕ) (h : Parted client before pending dropped drawn) where
  bound : Each (λ x. x ≤ drawn) (own_serials client before ++ serials_of pending)
  bound =
      each-bound drawn (own_serials client before ++ serials_of pending)
      (λ s. omega (arith, h.parts s, times-append s (own_serials client before) (serials_of pending)))

  -- new steps are pending under the next serials
  pub parted-edited : (cs : List C) → Parted client before (pending ++ named client (drawn + 1) cs) dropped (drawn + length cs)
  parted-edited cs =
      let new : List (Named C) = named client (drawn + 1) cs in
      let o = named-rises client drawn (drawn + 1) cs (omega arith) in
      record {
        parts = λ s.
            omega (arith, h.parts s, times-named s client drawn cs, ap (times s) (serials-append pending new), times-append s (serials_of pending) (serials_of new));
        rise = subst Rises
            (append_assoc (own_serials client before) (serials_of pending) (serials_of new)
            ∙ ap (λ l. own_serials client before ++ l) (sym (serials-append pending new)))
            (rises-append drawn (own_serials client before ++ serials_of pending) (serials_of new) h.rise bound o.0 o.1);
        dropped_rise = h.dropped_rise;
      }

  -- others' entries come before the version
  pub parted-foreign : (front : List (Named C)) → Each (IsForeign client) front → Parted client (before ++ front) pending dropped drawn
  parted-foreign front far =
      let e : own_serials client (before ++ front) ≡ own_serials client before =
      own_serials-append client before front ∙ ap (λ l. own_serials client before ++ l) (own_serials-foreign client front far)
      ∙ append-nil (own_serials client before) in
      record { parts = λ s. rw e (h.parts s); rise = rw e h.rise; dropped_rise = h.dropped_rise }

-- pending steps come before the version
pub parted-confirmed : {C : Type 0} (client : ℕ) (before standing later : List (Named C)) (dropped : List ℕ) (drawn : ℕ) → Each (IsOwn client) standing
    → Parted client before (standing ++ later) dropped drawn → Parted client (before ++ standing) later dropped drawn
parted-confirmed client before standing later dropped drawn own h =
    let e : own_serials client (before ++ standing) ≡ own_serials client before ++ serials_of standing =
    own_serials-append client before standing ∙ ap (λ l. own_serials client before ++ l) (own_serials-own client standing own) in
    record {
      parts = λ s.
          omega (
            arith,
            h.parts s,
            ap (times s) e,
            times-append s (own_serials client before) (serials_of standing),
            ap (times s) (serials-append standing later),
            times-append s (serials_of standing) (serials_of later),
          );
      rise = subst Rises
          (ap (λ l. own_serials client before ++ l) (serials-append standing later)
          ∙ sym (append_assoc (own_serials client before) (serials_of standing) (serials_of later)) ∙ ap (λ l. l ++ serials_of later) (sym e))
          h.rise;
      dropped_rise = h.dropped_rise;
    }

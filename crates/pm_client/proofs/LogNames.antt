-- What a client's standing says of the names in the log.
use Rattle.std.specs.Prelude.{◌≡◌, ℕ, ◌≤◌, List, ◌++◌}
use Rattle.std.specs.List.{AllByRecursion as Each}
use Rattle.std.proofs.Common.{sym, ap, ◌∙◌, subst, arith, append_assoc, append-nil}
use Rattle.pm_change.specs.Changes.{Meaning}
use Rattle.pm_authority.specs.declared.named.Named.{Named}
use Rattle.pm_client.specs.declared.client.Client.{Client}
use Rattle.pm_client.specs.Kins.{IsOwn, Kin}
use Rattle.pm_client.proofs.Lists.{Each-front}
use Rattle.pm_client.specs.Serials.{times, serials_of, own_serials, Rises}
use Rattle.pm_client.proofs.SerialLists.{times-append, serials-append, own_serials-append, own_serials-own, own_serials-foreign, numbers-once, rises-front}

-- a client's entries in the log: their serials rise, and each stands once
pub record LogOf {C : Type 0} (client : ℕ) (log : List (Named C)) : Type 0 where
  pub rise : Rises (own_serials client log)
  pub once : (s : ℕ) → times s (own_serials client log) ≤ 1

pub kin-log : {Rules Doc Reason C : Type 0} (m : Meaning Rules Doc Reason C) (rules : Rules) (first : Doc) (log : List (Named C)) (c : Client C Rules Doc Reason)
    → Kin m rules first log c → LogOf c.name log
kin-log m rules first log c kin =
    let s = kin.stands in
    let own_all : Each (IsOwn c.name) (s.standing ++ s.later) = rw s.pending_is at kin.own in
    let past_is : own_serials c.name kin.past ≡ serials_of s.standing =
    ap (own_serials c.name) s.past_is ∙ own_serials-append c.name s.standing s.foreign
    ∙ ap (λ l. l ++ own_serials c.name s.foreign) (own_serials-own c.name s.standing (Each-front (IsOwn c.name) s.standing s.later own_all))
    ∙ ap (λ l. serials_of s.standing ++ l) (own_serials-foreign c.name s.foreign s.are_foreign) ∙ append-nil (serials_of s.standing) in
    let log_is : own_serials c.name log ≡ own_serials c.name kin.before ++ serials_of s.standing =
    ap (own_serials c.name) kin.log_is ∙ own_serials-append c.name kin.before kin.past ∙ ap (λ l. own_serials c.name kin.before ++ l) past_is in
    let pending_is : serials_of c.pending ≡ serials_of s.standing ++ serials_of s.later = ap serials_of s.pending_is ∙ serials-append s.standing s.later in
    let whole : own_serials c.name kin.before ++ serials_of c.pending ≡ own_serials c.name log ++ serials_of s.later =
    ap (λ l. own_serials c.name kin.before ++ l) pending_is ∙ sym (append_assoc (own_serials c.name kin.before) (serials_of s.standing) (serials_of s.later)) ∙ ap (λ l. l ++ serials_of s.later) (sym log_is) in
    record {
      rise = rises-front (own_serials c.name log) (serials_of s.later) (subst Rises whole kin.parted.rise);
      once = λ x.
          omega (arith, kin.parted.parts x, numbers-once x c.serials, ap (times x) whole, times-append x (own_serials c.name kin.before) (serials_of c.pending), times-append x (own_serials c.name log) (serials_of s.later));
    }

use Rattle.std.proofs.Common.{[], ◌∷◌, ◌++◌, sym, ap, ◌∙◌, subst}
use Rattle.pm_desk.specs.declared.history.Stored.{Stored}
use Rattle.pm_desk.proofs.Seats.{begins_at}
use Rattle.pm_desk.proofs.turn.Desk.new.Goals as goal

pub new-requires-2 : goal.new-requires-2
new-requires-2 g c =
    let about = c.of-about.ensures in
    let x : Stored g.row.M.Denot g.row.M-Request.Denot = record { machine = c.args.machine; history = c.new.result } in
    begins_at g.M.Machine.next g.M.Machine.good g.M.Machine.own c.of-about.result.value c.push_reserved.new.self.items x (c.push_reserved.ensures.items ∙ ap (λ l. l ++ x ∷ []) c.in_ok-slots.ensures.items) c.new.ensures.items
    (sym (ap (λ o. o.machine) about)) (subst (λ r. g.M.Machine.good r c.args.machine) (sym (ap (λ o. o.rules) about)) c.requires)

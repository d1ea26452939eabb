use Rattle.std.proofs.Common.{◌∷◌, ◌++◌, [], refl, ap, sym, ◌∙◌, subst}
use Rattle.atomic_table.specs.Table.{rest}
use Rattle.pm_desk.specs.declared.history.Stored.{Stored}
use Rattle.pm_desk.specs.Histories.{past}
use Rattle.pm_desk.proofs.Calls.{lent, one_more_call}
use Rattle.pm_desk.proofs.turn.Desk.answer.Goals as goal

pub slot_mut-stored-requires : goal.slot_mut-stored-requires
slot_mut-stored-requires g c = let h = c.requires.value in (c.requires.desk, (h.0, h.1 ∙ ap (λ l. (0, h.0) ∷ rest l) (sym h.1)))

pub returns-in-Ok-clause-ok : goal.returns-in-Ok-clause-ok
returns-in-Ok-clause-ok g c =
    let about = c.args.self.now.table.shared.key.value in
    let log = c.args.token.now.me.0.kept in
    let x = c.slot_mut-stored.result.now in
    let e = past c.args.seat c.args.request in
    let ruled = c.args.self.now.ruled in
    let y : Stored g.row.M.Denot g.row.M-Request.Denot = record { machine = c.answer.new.stored.machine; history = c.push_reserved.new.self } in
    let h = lent g.M.Machine.next g.M.Machine.reply g.M.Machine.good g.M.Machine.own about log c.args.token.now.me x c.requires.value c.slot_mut-stored.ensures.value in
    let told = c.in-Ok.ensures.ok in (
      told.0 ∙ (ap (λ r. g.M.Machine.reply r x.machine c.args.request) ruled ∙ ap (λ m. g.M.Machine.reply about.rules m c.args.request) h.0.1),
      (
        y,
        ap (λ l. (0, y) ∷ l) h.1,
        one_more_call g.M.Machine.next g.M.Machine.reply g.M.Machine.good g.M.Machine.own about x c.args.self.now.rules e y.machine log y.history.items h.0 ruled
            (c.push_reserved.ensures.items ∙ ap (λ l. l ++ e ∷ []) c.answer.ensures.history) told.1 c.answer.ensures.good,
      ),
    )

pub returns-in-Err-clause-err : goal.returns-in-Err-clause-err
returns-in-Err-clause-err g c =
    let x = c.slot_mut-stored.result.now in
    let h = lent g.M.Machine.next g.M.Machine.reply g.M.Machine.good g.M.Machine.own c.args.self.now.table.shared.key.value c.args.token.now.me.0.kept c.args.token.now.me x c.requires.value c.slot_mut-stored.ensures.value in
    (refl, (c.answer.new.stored, ap (λ l. (0, c.answer.new.stored) ∷ l) h.1, (c.answer.ensures.history ∙ h.0.0, c.in-Err.ensures.err ∙ h.0.1, subst (λ r. g.M.Machine.good r c.answer.new.stored.machine) c.args.self.now.ruled c.answer.ensures.good)))

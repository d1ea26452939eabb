use Rattle.std.proofs.Common.{inl, inr, length, sym, ap, ◌∙◌, subst}
use Rattle.std.proofs.lemmas.Result.{on_ok_weaker, on_err_weaker}
use Rattle.pm_client.specs.declared.taken.MessageKind.TheVariants.{Ask}
use Rattle.pm_session.specs.Events.{state_of}
use Rattle.pm_session.specs.Sessions.{exchanged, brought_up, in_turn}
use Rattle.pm_session.specs.Sounds.{AllCaughtUp}
use Rattle.pm_session.proofs.Lefts.{left-err, pulling-at}
use Rattle.pm_session.proofs.Settling.{settled-caught}
use Rattle.pm_session.proofs.room.Room.settle.Goals as goal

pub returns-in_err-bring_up_all-clause-names : goal.returns-in_err-bring_up_all-clause-names
returns-in_err-bring_up_all-clause-names g c = c.bring_up_all.ensures.sound.names

pub returns-clause-caught_up : goal.returns-clause-caught_up
returns-clause-caught_up g c =
    let m = g.C.Change.means in
    let s = state_of c.args.self.now in
    let up = in_turn (brought_up m c.args.rules.now) 0 (length s.members) s in
    let asks = in_turn (exchanged m c.args.rules.now Ask) 0 in
    on_ok_weaker c.pull_all.result
    (λ is.
    subst (λ t. AllCaughtUp t)
    (sym (is ∙ ap (λ n. asks n (state_of c.bring_up_all.new.self)) c.bring_up_all.ensures.members ∙ ap (asks (length s.members)) c.in_ok-bring_up_all.ensures.brings))
    (settled-caught m c.args.rules.now g.met.C.Change.laws s c.requires))
    c.pull_all.ensures.pulls

pub returns-clause-names : goal.returns-clause-names
returns-clause-names g c = c.pull_all.ensures.sound.names

pub returns-in_err-bring_up_all-clause-left : goal.returns-in_err-bring_up_all-clause-left
returns-in_err-bring_up_all-clause-left g c = left-err c.from_residual.result (inl c.in_err-bring_up_all.ensures.left)

pub returns-clause-left : goal.returns-clause-left
returns-clause-left g c =
    let m = g.C.Change.means in
    let s = state_of c.args.self.now in
    let up = in_turn (brought_up m c.args.rules.now) 0 (length s.members) s in
    on_err_weaker c.pull_all.result
    (λ h. inr (pulling-at m c.args.rules.now (state_of c.bring_up_all.new.self) up (state_of c.pull_all.new.self) c.in_ok-bring_up_all.ensures.brings h))
    c.pull_all.ensures.left

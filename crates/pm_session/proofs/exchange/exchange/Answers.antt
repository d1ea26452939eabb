use Rattle.std.proofs.Common.{◌≡◌, ◌+◌, length, Some, sym, subst, ◌∙◌, ap, inl, inr}
use Rattle.pm_client.specs.Clients.{message_of, composed, kept, answer_at}
use Rattle.pm_session.specs.Sounds.{EditorStands}
use Rattle.pm_session.specs.declared.member.Member.TheVariants.{Editor}
use Rattle.pm_session.proofs.Exchanges.{on-err, last-message, lost-ends, taken-ends}
use Rattle.pm_session.proofs.Hosted.{at-both, same-host, composer-stands, sending, taken-stands}
use Rattle.pm_session.proofs.Keeping.{answer-last}
use Rattle.pm_session.proofs.Lasts.{last-ends}
use Rattle.pm_session.proofs.Unrefusing.{told-none}
use Rattle.pm_session.proofs.exchange.exchange.Goals as goal

pub returns-in_err-answer-clause-stands : goal.returns-in_err-answer-clause-stands
returns-in_err-answer-clause-stands g c =
    let m = g.C.Change.means in
    let rules_now = c.args.rules.now in
    let old = c.args.client.now in
    let kind = c.args.kind in
    let host = c.args.host.now in
    same-host m rules_now g.H.Host.first g.H.Host.log host c.present.new.self c.in_err-answer.ensures.err (composed old kind) c.compose.new.self c.in_ok-message.ensures.composed
    (composer-stands m rules_now (g.H.Host.first host) (g.H.Host.log host) old c.requires.stands kind)

pub told-told-requires : goal.told-told-requires
told-told-requires g c =
    let m = g.C.Change.means in
    let laws = g.met.C.Change.laws in
    let rules_now = c.args.rules.now in
    let old = c.args.client.now in
    let kind = c.args.kind in
    let host = c.args.host.now in
    let x = c.message_at.result.now in
    let h = sending m rules_now laws (g.H.Host.first host) (g.H.Host.log host) old c.requires.stands kind c.compose.new.self c.in_ok-message.ensures.composed
    c.in_ok-message.message x c.message_at.ensures c.name.result c.name.ensures c.in_ok-answer.answer (g.H.Host.log c.present.new.self)
    c.in_ok-answer.ensures.answered (g.H.Host.first c.present.new.self) c.present.ensures.first in
    h.unrefused

pub returns-in_err-number-clause-err : goal.returns-in_err-number-clause-err
returns-in_err-number-clause-err g c =
    let m = g.C.Change.means in
    let laws = g.met.C.Change.laws in
    let rules_now = c.args.rules.now in
    let old = c.args.client.now in
    let kind = c.args.kind in
    let host = c.args.host.now in
    let x = c.message_at.result.now in
    let x_is = last-message old c.compose.new.self kind c.in_ok-message.message x c.in_ok-message.ensures.composed c.in_ok-message.ensures.number c.message_at.ensures in
    let name_is = c.name.ensures ∙ ap (λ k. k.name) c.in_ok-message.ensures.composed in
    let asked = at-both (λ n y. g.H.Host.told rules_now host n y c.in_ok-answer.answer c.present.new.self) c.name.result old.name x (message_of old kind) name_is x_is c.in_ok-answer.ensures.told in
    on-err c.from_residual-in_err-number.result
    (inr (inr (inl (c.in_ok-answer.answer, asked, ap Editor (c.in_err-number.ensures.err ∙ c.in_ok-message.ensures.composed)))))

pub returns-in_err-number-clause-stands : goal.returns-in_err-number-clause-stands
returns-in_err-number-clause-stands g c =
    let m = g.C.Change.means in
    let laws = g.met.C.Change.laws in
    let rules_now = c.args.rules.now in
    let old = c.args.client.now in
    let kind = c.args.kind in
    let host = c.args.host.now in
    let x = c.message_at.result.now in
    let h = sending m rules_now laws (g.H.Host.first host) (g.H.Host.log host) old c.requires.stands kind c.compose.new.self c.in_ok-message.ensures.composed
    c.in_ok-message.message x c.message_at.ensures c.name.result c.name.ensures c.in_ok-answer.answer (g.H.Host.log c.present.new.self)
    c.in_ok-answer.ensures.answered (g.H.Host.first c.present.new.self) c.present.ensures.first in
    subst (EditorStands m rules_now (g.H.Host.first c.present.new.self) (g.H.Host.log c.present.new.self)) (sym c.in_err-number.ensures.err) h.only

pub returns-then-lost-clause-exchanges : goal.returns-then-lost-clause-exchanges
returns-then-lost-clause-exchanges g c =
    let m = g.C.Change.means in
    let laws = g.met.C.Change.laws in
    let rules_now = c.args.rules.now in
    let old = c.args.client.now in
    let kind = c.args.kind in
    let host = c.args.host.now in
    let x = c.message_at.result.now in
    let x_is = last-message old c.compose.new.self kind c.in_ok-message.message x c.in_ok-message.ensures.composed c.in_ok-message.ensures.number c.message_at.ensures in
    let name_is = c.name.ensures ∙ ap (λ k. k.name) c.in_ok-message.ensures.composed in
    let asked = at-both (λ n y. g.H.Host.told rules_now host n y c.in_ok-answer.answer c.present.new.self) c.name.result old.name x (message_of old kind) name_is x_is c.in_ok-answer.ensures.told in
    let keeps = c.in_ok-number.ensures.kept ∙ ap (λ k. kept k c.in_ok-answer.answer) c.in_ok-message.ensures.composed in
    (c.in_ok-answer.answer, asked, lost-ends m rules_now old kind c.in_ok-answer.answer c.told-told.result c.told-told.ensures c.keep.new.self keeps c.args.lost c.if-lost.true)

pub returns-then-lost-clause-unrefused : goal.returns-then-lost-clause-unrefused
returns-then-lost-clause-unrefused g c =
    let m = g.C.Change.means in
    let laws = g.met.C.Change.laws in
    let rules_now = c.args.rules.now in
    let old = c.args.client.now in
    let kind = c.args.kind in
    let host = c.args.host.now in
    let x = c.message_at.result.now in
    let h = sending m rules_now laws (g.H.Host.first host) (g.H.Host.log host) old c.requires.stands kind c.compose.new.self c.in_ok-message.ensures.composed
    c.in_ok-message.message x c.message_at.ensures c.name.result c.name.ensures c.in_ok-answer.answer (g.H.Host.log c.present.new.self)
    c.in_ok-answer.ensures.answered (g.H.Host.first c.present.new.self) c.present.ensures.first in
    told-none c.in_ok-answer.answer c.told-told.result c.told-told.ensures h.unrefused

pub returns-then-lost-clause-stands : goal.returns-then-lost-clause-stands
returns-then-lost-clause-stands g c =
    let m = g.C.Change.means in
    let laws = g.met.C.Change.laws in
    let rules_now = c.args.rules.now in
    let old = c.args.client.now in
    let kind = c.args.kind in
    let host = c.args.host.now in
    let x = c.message_at.result.now in
    let h = sending m rules_now laws (g.H.Host.first host) (g.H.Host.log host) old c.requires.stands kind c.compose.new.self c.in_ok-message.ensures.composed
    c.in_ok-message.message x c.message_at.ensures c.name.result c.name.ensures c.in_ok-answer.answer (g.H.Host.log c.present.new.self)
    c.in_ok-answer.ensures.answered (g.H.Host.first c.present.new.self) c.present.ensures.first in
    subst (EditorStands m rules_now (g.H.Host.first c.present.new.self) (g.H.Host.log c.present.new.self)) (sym c.in_ok-number.ensures.kept) h.keeping

pub take_last-requires-clause-stands : goal.take_last-requires-clause-stands
take_last-requires-clause-stands g c =
    let m = g.C.Change.means in
    let laws = g.met.C.Change.laws in
    let rules_now = c.args.rules.now in
    let old = c.args.client.now in
    let kind = c.args.kind in
    let host = c.args.host.now in
    let x = c.message_at.result.now in
    let h = sending m rules_now laws (g.H.Host.first host) (g.H.Host.log host) old c.requires.stands kind c.compose.new.self c.in_ok-message.ensures.composed
    c.in_ok-message.message x c.message_at.ensures c.name.result c.name.ensures c.in_ok-answer.answer (g.H.Host.log c.present.new.self)
    c.in_ok-answer.ensures.answered (g.H.Host.first c.present.new.self) c.present.ensures.first in
    subst (EditorStands m rules_now (g.H.Host.first c.present.new.self) (g.H.Host.log c.present.new.self)) (sym c.in_ok-number.ensures.kept) h.keeping

pub take_last-requires-clause-served : goal.take_last-requires-clause-served
take_last-requires-clause-served g c =
    let same = c.name.ensures ∙ sym (ap (λ k. k.name) c.in_ok-number.ensures.kept) in
    subst (λ n. g.H.Host.serves c.present.new.self c.args.rules.now n) same c.present.ensures.served

pub take_last-requires-clause-last : goal.take_last-requires-clause-last
take_last-requires-clause-last g c =
    let m = g.C.Change.means in
    let rules_now = c.args.rules.now in
    let host = c.args.host.now in
    let log = g.H.Host.log c.present.new.self in
    let stands = take_last-requires-clause-stands g c in
    let at : answer_at c.keep.new.self c.in_ok-number.number ≡ Some c.in_ok-answer.answer =
    ap (λ k. answer_at k c.in_ok-number.number) c.in_ok-number.ensures.kept ∙ answer-last c.compose.new.self c.in_ok-answer.answer c.in_ok-number.number c.in_ok-number.ensures.number in
    last-ends m rules_now c.name.result (g.H.Host.first host) (g.H.Host.log host) log c.message_at.result.now c.in_ok-answer.answer c.in_ok-answer.ensures.answered
    (g.H.Host.first c.present.new.self) c.keep.new.self stands.kin c.in_ok-number.number at

pub returns-in_err-taken-clause-err : goal.returns-in_err-taken-clause-err
returns-in_err-taken-clause-err g c =
    let m = g.C.Change.means in
    let laws = g.met.C.Change.laws in
    let rules_now = c.args.rules.now in
    let old = c.args.client.now in
    let kind = c.args.kind in
    let host = c.args.host.now in
    let x = c.message_at.result.now in
    let x_is = last-message old c.compose.new.self kind c.in_ok-message.message x c.in_ok-message.ensures.composed c.in_ok-message.ensures.number c.message_at.ensures in
    let name_is = c.name.ensures ∙ ap (λ k. k.name) c.in_ok-message.ensures.composed in
    let asked = at-both (λ n y. g.H.Host.told rules_now host n y c.in_ok-answer.answer c.present.new.self) c.name.result old.name x (message_of old kind) name_is x_is c.in_ok-answer.ensures.told in
    let keeps = c.in_ok-number.ensures.kept ∙ ap (λ k. kept k c.in_ok-answer.answer) c.in_ok-message.ensures.composed in
    on-err c.from_residual-in_err-taken.result
    (inr (inr (inr (c.in_ok-answer.answer, asked, ap Editor (c.in_err-taken.ensures.err ∙ keeps)))))

pub returns-in_err-taken-clause-stands : goal.returns-in_err-taken-clause-stands
returns-in_err-taken-clause-stands g c =
    let m = g.C.Change.means in
    let laws = g.met.C.Change.laws in
    let rules_now = c.args.rules.now in
    let old = c.args.client.now in
    let kind = c.args.kind in
    let host = c.args.host.now in
    let x = c.message_at.result.now in
    let h = sending m rules_now laws (g.H.Host.first host) (g.H.Host.log host) old c.requires.stands kind c.compose.new.self c.in_ok-message.ensures.composed
    c.in_ok-message.message x c.message_at.ensures c.name.result c.name.ensures c.in_ok-answer.answer (g.H.Host.log c.present.new.self)
    c.in_ok-answer.ensures.answered (g.H.Host.first c.present.new.self) c.present.ensures.first in
    let keeper = subst (EditorStands m rules_now (g.H.Host.first c.present.new.self) (g.H.Host.log c.present.new.self)) (sym c.in_ok-number.ensures.kept) h.keeping in
    subst (EditorStands m rules_now (g.H.Host.first c.present.new.self) (g.H.Host.log c.present.new.self)) (sym c.in_err-taken.ensures.err) keeper

pub returns-clause-exchanges : goal.returns-clause-exchanges
returns-clause-exchanges g c =
    let m = g.C.Change.means in
    let laws = g.met.C.Change.laws in
    let rules_now = c.args.rules.now in
    let old = c.args.client.now in
    let kind = c.args.kind in
    let host = c.args.host.now in
    let x = c.message_at.result.now in
    let x_is = last-message old c.compose.new.self kind c.in_ok-message.message x c.in_ok-message.ensures.composed c.in_ok-message.ensures.number c.message_at.ensures in
    let name_is = c.name.ensures ∙ ap (λ k. k.name) c.in_ok-message.ensures.composed in
    let asked = at-both (λ n y. g.H.Host.told rules_now host n y c.in_ok-answer.answer c.present.new.self) c.name.result old.name x (message_of old kind) name_is x_is c.in_ok-answer.ensures.told in
    let keeps = c.in_ok-number.ensures.kept ∙ ap (λ k. kept k c.in_ok-answer.answer) c.in_ok-message.ensures.composed in
    let number = c.in_ok-number.ensures.number ∙ ap (λ k. length k.answers + 1) c.in_ok-message.ensures.composed in (
      c.in_ok-answer.answer,
      asked,
      taken-ends m rules_now old kind c.in_ok-answer.answer c.told-told.result c.told-told.ensures c.keep.new.self keeps c.args.lost c.if-lost.false
          c.in_ok-number.number number c.in_ok-taken.taken c.take_last.new.client c.in_ok-taken.ensures.takes,
    )

pub returns-clause-unrefused : goal.returns-clause-unrefused
returns-clause-unrefused g c =
    let m = g.C.Change.means in
    let laws = g.met.C.Change.laws in
    let rules_now = c.args.rules.now in
    let old = c.args.client.now in
    let kind = c.args.kind in
    let host = c.args.host.now in
    let x = c.message_at.result.now in
    let h = sending m rules_now laws (g.H.Host.first host) (g.H.Host.log host) old c.requires.stands kind c.compose.new.self c.in_ok-message.ensures.composed
    c.in_ok-message.message x c.message_at.ensures c.name.result c.name.ensures c.in_ok-answer.answer (g.H.Host.log c.present.new.self)
    c.in_ok-answer.ensures.answered (g.H.Host.first c.present.new.self) c.present.ensures.first in
    told-none c.in_ok-answer.answer c.told-told.result c.told-told.ensures h.unrefused

pub returns-clause-stands : goal.returns-clause-stands
returns-clause-stands g c =
    let m = g.C.Change.means in
    let laws = g.met.C.Change.laws in
    let rules_now = c.args.rules.now in
    let old = c.args.client.now in
    let kind = c.args.kind in
    let host = c.args.host.now in
    let x = c.message_at.result.now in
    let h = sending m rules_now laws (g.H.Host.first host) (g.H.Host.log host) old c.requires.stands kind c.compose.new.self c.in_ok-message.ensures.composed
    c.in_ok-message.message x c.message_at.ensures c.name.result c.name.ensures c.in_ok-answer.answer (g.H.Host.log c.present.new.self)
    c.in_ok-answer.ensures.answered (g.H.Host.first c.present.new.self) c.present.ensures.first in
    let keeper = subst (EditorStands m rules_now (g.H.Host.first c.present.new.self) (g.H.Host.log c.present.new.self)) (sym c.in_ok-number.ensures.kept) h.keeping in
    subst (EditorStands m rules_now (g.H.Host.first c.present.new.self) (g.H.Host.log c.present.new.self)) (sym (ap (λ p. p.1) c.in_ok-taken.ensures.takes))
    (taken-stands m rules_now laws (g.H.Host.first c.present.new.self) (g.H.Host.log c.present.new.self) c.keep.new.self keeper c.in_ok-number.number)

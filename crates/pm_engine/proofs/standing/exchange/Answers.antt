use Rattle.std.proofs.Common.{refl, ap, ◌∙◌, ◌+◌, length, inl, inr}
use Rattle.pm_client.specs.Clients.{composed, kept}
use Rattle.pm_session.proofs.Exchanges.{last-message, sent}
use Rattle.pm_engine.proofs.Exchanging.{on-err, composed-stood, answered-stood, kept-stood, last-ends, taken-stood, taken-left, taken-exchanged, taken-causes, refused}
use Rattle.pm_engine.proofs.standing.exchange.Goals as goal

pub returns-in_err-number-clause-left : goal.returns-in_err-number-clause-left
returns-in_err-number-clause-left g c =
    on-err c.from_residual.result (inl (refl, c.in_err-number.ensures.err))

pub returns-in_err-answer-clause-kept : goal.returns-in_err-answer-clause-kept
returns-in_err-answer-clause-kept g c =
    let m = g.C.Change.means in
    let now = c.args.rules.now in
    let laws = g.met.C.Change.laws in
    let a = c.args.authority.now in
    let old = c.args.client.now in
    let kind = c.args.kind in
    let h = composed-stood m now laws a c.requires.kept old c.requires.stands kind c.present.new.self c.compose.new.self c.in_err-answer.ensures.err c.in_ok-number.ensures.composed in
    h.kept

pub returns-in_err-answer-clause-stands : goal.returns-in_err-answer-clause-stands
returns-in_err-answer-clause-stands g c =
    let m = g.C.Change.means in
    let now = c.args.rules.now in
    let laws = g.met.C.Change.laws in
    let a = c.args.authority.now in
    let old = c.args.client.now in
    let kind = c.args.kind in
    let h = composed-stood m now laws a c.requires.kept old c.requires.stands kind c.present.new.self c.compose.new.self c.in_err-answer.ensures.err c.in_ok-number.ensures.composed in
    h.own

pub returns-in_err-answer-clause-others : goal.returns-in_err-answer-clause-others
returns-in_err-answer-clause-others g c =
    let m = g.C.Change.means in
    let now = c.args.rules.now in
    let laws = g.met.C.Change.laws in
    let a = c.args.authority.now in
    let old = c.args.client.now in
    let kind = c.args.kind in
    let h = composed-stood m now laws a c.requires.kept old c.requires.stands kind c.present.new.self c.compose.new.self c.in_err-answer.ensures.err c.in_ok-number.ensures.composed in
    h.other

pub returns-in_err-answer-clause-name : goal.returns-in_err-answer-clause-name
returns-in_err-answer-clause-name g c =
    let m = g.C.Change.means in
    let now = c.args.rules.now in
    let laws = g.met.C.Change.laws in
    let a = c.args.authority.now in
    let old = c.args.client.now in
    let kind = c.args.kind in
    let h = composed-stood m now laws a c.requires.kept old c.requires.stands kind c.present.new.self c.compose.new.self c.in_err-answer.ensures.err c.in_ok-number.ensures.composed in
    h.name

pub returns-in_err-answer-clause-left : goal.returns-in_err-answer-clause-left
returns-in_err-answer-clause-left g c =
    on-err c.from_residual-in_err-answer.result (inr (inl (c.in_err-answer.ensures.err, c.in_ok-number.ensures.composed)))

pub returns-in_err-kept-clause-kept : goal.returns-in_err-kept-clause-kept
returns-in_err-kept-clause-kept g c =
    let m = g.C.Change.means in
    let now = c.args.rules.now in
    let laws = g.met.C.Change.laws in
    let a = c.args.authority.now in
    let old = c.args.client.now in
    let kind = c.args.kind in
    let x_is = last-message old c.compose.new.self kind c.in_ok-number.number c.message_at.result.now c.in_ok-number.ensures.composed c.in_ok-number.ensures.number c.message_at.ensures in
    let s = sent m now a old kind c.present.new.self c.in_ok-answer.answer c.message_at.result.now x_is c.in_ok-answer.ensures.answer c.in_ok-answer.ensures.after in
    let h = answered-stood m now laws a c.requires.kept old c.requires.stands kind c.present.new.self c.keep.new.self s.authority_is (c.in_err-kept.ensures.err ∙ c.in_ok-number.ensures.composed) in
    h.kept

pub returns-in_err-kept-clause-stands : goal.returns-in_err-kept-clause-stands
returns-in_err-kept-clause-stands g c =
    let m = g.C.Change.means in
    let now = c.args.rules.now in
    let laws = g.met.C.Change.laws in
    let a = c.args.authority.now in
    let old = c.args.client.now in
    let kind = c.args.kind in
    let x_is = last-message old c.compose.new.self kind c.in_ok-number.number c.message_at.result.now c.in_ok-number.ensures.composed c.in_ok-number.ensures.number c.message_at.ensures in
    let s = sent m now a old kind c.present.new.self c.in_ok-answer.answer c.message_at.result.now x_is c.in_ok-answer.ensures.answer c.in_ok-answer.ensures.after in
    let h = answered-stood m now laws a c.requires.kept old c.requires.stands kind c.present.new.self c.keep.new.self s.authority_is (c.in_err-kept.ensures.err ∙ c.in_ok-number.ensures.composed) in
    h.own

pub returns-in_err-kept-clause-others : goal.returns-in_err-kept-clause-others
returns-in_err-kept-clause-others g c =
    let m = g.C.Change.means in
    let now = c.args.rules.now in
    let laws = g.met.C.Change.laws in
    let a = c.args.authority.now in
    let old = c.args.client.now in
    let kind = c.args.kind in
    let x_is = last-message old c.compose.new.self kind c.in_ok-number.number c.message_at.result.now c.in_ok-number.ensures.composed c.in_ok-number.ensures.number c.message_at.ensures in
    let s = sent m now a old kind c.present.new.self c.in_ok-answer.answer c.message_at.result.now x_is c.in_ok-answer.ensures.answer c.in_ok-answer.ensures.after in
    let h = answered-stood m now laws a c.requires.kept old c.requires.stands kind c.present.new.self c.keep.new.self s.authority_is (c.in_err-kept.ensures.err ∙ c.in_ok-number.ensures.composed) in
    h.other

pub returns-in_err-kept-clause-name : goal.returns-in_err-kept-clause-name
returns-in_err-kept-clause-name g c =
    let m = g.C.Change.means in
    let now = c.args.rules.now in
    let laws = g.met.C.Change.laws in
    let a = c.args.authority.now in
    let old = c.args.client.now in
    let kind = c.args.kind in
    let x_is = last-message old c.compose.new.self kind c.in_ok-number.number c.message_at.result.now c.in_ok-number.ensures.composed c.in_ok-number.ensures.number c.message_at.ensures in
    let s = sent m now a old kind c.present.new.self c.in_ok-answer.answer c.message_at.result.now x_is c.in_ok-answer.ensures.answer c.in_ok-answer.ensures.after in
    let h = answered-stood m now laws a c.requires.kept old c.requires.stands kind c.present.new.self c.keep.new.self s.authority_is (c.in_err-kept.ensures.err ∙ c.in_ok-number.ensures.composed) in
    h.name

pub returns-in_err-kept-clause-left : goal.returns-in_err-kept-clause-left
returns-in_err-kept-clause-left g c =
    let m = g.C.Change.means in
    let now = c.args.rules.now in
    let laws = g.met.C.Change.laws in
    let a = c.args.authority.now in
    let old = c.args.client.now in
    let kind = c.args.kind in
    let x_is = last-message old c.compose.new.self kind c.in_ok-number.number c.message_at.result.now c.in_ok-number.ensures.composed c.in_ok-number.ensures.number c.message_at.ensures in
    let s = sent m now a old kind c.present.new.self c.in_ok-answer.answer c.message_at.result.now x_is c.in_ok-answer.ensures.answer c.in_ok-answer.ensures.after in
    on-err c.from_residual-in_err-kept.result (inr (inr (inl (s.authority_is, c.in_err-kept.ensures.err ∙ c.in_ok-number.ensures.composed))))

pub take_last-requires-clause-stands : goal.take_last-requires-clause-stands
take_last-requires-clause-stands g c =
    let m = g.C.Change.means in
    let now = c.args.rules.now in
    let laws = g.met.C.Change.laws in
    let a = c.args.authority.now in
    let old = c.args.client.now in
    let kind = c.args.kind in
    let x_is = last-message old c.compose.new.self kind c.in_ok-number.number c.message_at.result.now c.in_ok-number.ensures.composed c.in_ok-number.ensures.number c.message_at.ensures in
    let s = sent m now a old kind c.present.new.self c.in_ok-answer.answer c.message_at.result.now x_is c.in_ok-answer.ensures.answer c.in_ok-answer.ensures.after in
    let keeps = c.in_ok-kept.ensures.kept ∙ (ap (λ k. kept k c.in_ok-answer.answer) c.in_ok-number.ensures.composed ∙ ap (λ x. kept (composed old kind) x) s.answer_is) in
    let number = c.in_ok-kept.ensures.number ∙ ap (λ k. length k.answers + 1) c.in_ok-number.ensures.composed in
    let h = kept-stood m now laws a c.requires.kept old c.requires.stands kind c.present.new.self c.keep.new.self s.authority_is keeps in
    h.own

pub take_last-requires-clause-last : goal.take_last-requires-clause-last
take_last-requires-clause-last g c =
    let m = g.C.Change.means in
    let now = c.args.rules.now in
    let laws = g.met.C.Change.laws in
    let a = c.args.authority.now in
    let old = c.args.client.now in
    let kind = c.args.kind in
    let x_is = last-message old c.compose.new.self kind c.in_ok-number.number c.message_at.result.now c.in_ok-number.ensures.composed c.in_ok-number.ensures.number c.message_at.ensures in
    let s = sent m now a old kind c.present.new.self c.in_ok-answer.answer c.message_at.result.now x_is c.in_ok-answer.ensures.answer c.in_ok-answer.ensures.after in
    let keeps = c.in_ok-kept.ensures.kept ∙ (ap (λ k. kept k c.in_ok-answer.answer) c.in_ok-number.ensures.composed ∙ ap (λ x. kept (composed old kind) x) s.answer_is) in
    let number = c.in_ok-kept.ensures.number ∙ ap (λ k. length k.answers + 1) c.in_ok-number.ensures.composed in
    last-ends m now laws a c.requires.kept old c.requires.stands kind c.in_ok-kept.kept number c.keep.new.self keeps c.present.new.self s.authority_is

pub returns-clause-kept : goal.returns-clause-kept
returns-clause-kept g c =
    let m = g.C.Change.means in
    let now = c.args.rules.now in
    let laws = g.met.C.Change.laws in
    let a = c.args.authority.now in
    let old = c.args.client.now in
    let kind = c.args.kind in
    let x_is = last-message old c.compose.new.self kind c.in_ok-number.number c.message_at.result.now c.in_ok-number.ensures.composed c.in_ok-number.ensures.number c.message_at.ensures in
    let s = sent m now a old kind c.present.new.self c.in_ok-answer.answer c.message_at.result.now x_is c.in_ok-answer.ensures.answer c.in_ok-answer.ensures.after in
    let keeps = c.in_ok-kept.ensures.kept ∙ (ap (λ k. kept k c.in_ok-answer.answer) c.in_ok-number.ensures.composed ∙ ap (λ x. kept (composed old kind) x) s.answer_is) in
    let number = c.in_ok-kept.ensures.number ∙ ap (λ k. length k.answers + 1) c.in_ok-number.ensures.composed in
    let h = taken-stood m now laws a c.requires.kept old c.requires.stands kind c.in_ok-kept.kept number c.present.new.self s.authority_is c.keep.new.self keeps c.take_last.new.client c.take_last.result c.take_last.ensures.takes c.take_last.ensures.err in
    h.kept

pub returns-clause-stands : goal.returns-clause-stands
returns-clause-stands g c =
    let m = g.C.Change.means in
    let now = c.args.rules.now in
    let laws = g.met.C.Change.laws in
    let a = c.args.authority.now in
    let old = c.args.client.now in
    let kind = c.args.kind in
    let x_is = last-message old c.compose.new.self kind c.in_ok-number.number c.message_at.result.now c.in_ok-number.ensures.composed c.in_ok-number.ensures.number c.message_at.ensures in
    let s = sent m now a old kind c.present.new.self c.in_ok-answer.answer c.message_at.result.now x_is c.in_ok-answer.ensures.answer c.in_ok-answer.ensures.after in
    let keeps = c.in_ok-kept.ensures.kept ∙ (ap (λ k. kept k c.in_ok-answer.answer) c.in_ok-number.ensures.composed ∙ ap (λ x. kept (composed old kind) x) s.answer_is) in
    let number = c.in_ok-kept.ensures.number ∙ ap (λ k. length k.answers + 1) c.in_ok-number.ensures.composed in
    let h = taken-stood m now laws a c.requires.kept old c.requires.stands kind c.in_ok-kept.kept number c.present.new.self s.authority_is c.keep.new.self keeps c.take_last.new.client c.take_last.result c.take_last.ensures.takes c.take_last.ensures.err in
    h.own

pub returns-clause-others : goal.returns-clause-others
returns-clause-others g c =
    let m = g.C.Change.means in
    let now = c.args.rules.now in
    let laws = g.met.C.Change.laws in
    let a = c.args.authority.now in
    let old = c.args.client.now in
    let kind = c.args.kind in
    let x_is = last-message old c.compose.new.self kind c.in_ok-number.number c.message_at.result.now c.in_ok-number.ensures.composed c.in_ok-number.ensures.number c.message_at.ensures in
    let s = sent m now a old kind c.present.new.self c.in_ok-answer.answer c.message_at.result.now x_is c.in_ok-answer.ensures.answer c.in_ok-answer.ensures.after in
    let keeps = c.in_ok-kept.ensures.kept ∙ (ap (λ k. kept k c.in_ok-answer.answer) c.in_ok-number.ensures.composed ∙ ap (λ x. kept (composed old kind) x) s.answer_is) in
    let number = c.in_ok-kept.ensures.number ∙ ap (λ k. length k.answers + 1) c.in_ok-number.ensures.composed in
    let h = taken-stood m now laws a c.requires.kept old c.requires.stands kind c.in_ok-kept.kept number c.present.new.self s.authority_is c.keep.new.self keeps c.take_last.new.client c.take_last.result c.take_last.ensures.takes c.take_last.ensures.err in
    h.other

pub returns-clause-name : goal.returns-clause-name
returns-clause-name g c =
    let m = g.C.Change.means in
    let now = c.args.rules.now in
    let laws = g.met.C.Change.laws in
    let a = c.args.authority.now in
    let old = c.args.client.now in
    let kind = c.args.kind in
    let x_is = last-message old c.compose.new.self kind c.in_ok-number.number c.message_at.result.now c.in_ok-number.ensures.composed c.in_ok-number.ensures.number c.message_at.ensures in
    let s = sent m now a old kind c.present.new.self c.in_ok-answer.answer c.message_at.result.now x_is c.in_ok-answer.ensures.answer c.in_ok-answer.ensures.after in
    let keeps = c.in_ok-kept.ensures.kept ∙ (ap (λ k. kept k c.in_ok-answer.answer) c.in_ok-number.ensures.composed ∙ ap (λ x. kept (composed old kind) x) s.answer_is) in
    let number = c.in_ok-kept.ensures.number ∙ ap (λ k. length k.answers + 1) c.in_ok-number.ensures.composed in
    let h = taken-stood m now laws a c.requires.kept old c.requires.stands kind c.in_ok-kept.kept number c.present.new.self s.authority_is c.keep.new.self keeps c.take_last.new.client c.take_last.result c.take_last.ensures.takes c.take_last.ensures.err in
    h.name

pub returns-clause-left : goal.returns-clause-left
returns-clause-left g c =
    let m = g.C.Change.means in
    let now = c.args.rules.now in
    let laws = g.met.C.Change.laws in
    let a = c.args.authority.now in
    let old = c.args.client.now in
    let kind = c.args.kind in
    let x_is = last-message old c.compose.new.self kind c.in_ok-number.number c.message_at.result.now c.in_ok-number.ensures.composed c.in_ok-number.ensures.number c.message_at.ensures in
    let s = sent m now a old kind c.present.new.self c.in_ok-answer.answer c.message_at.result.now x_is c.in_ok-answer.ensures.answer c.in_ok-answer.ensures.after in
    let keeps = c.in_ok-kept.ensures.kept ∙ (ap (λ k. kept k c.in_ok-answer.answer) c.in_ok-number.ensures.composed ∙ ap (λ x. kept (composed old kind) x) s.answer_is) in
    let number = c.in_ok-kept.ensures.number ∙ ap (λ k. length k.answers + 1) c.in_ok-number.ensures.composed in
    taken-left m now laws a c.requires.kept old c.requires.stands kind c.in_ok-kept.kept number c.present.new.self s.authority_is c.keep.new.self keeps c.take_last.new.client c.take_last.result c.take_last.ensures.err

pub returns-clause-exchanged : goal.returns-clause-exchanged
returns-clause-exchanged g c =
    let m = g.C.Change.means in
    let now = c.args.rules.now in
    let laws = g.met.C.Change.laws in
    let a = c.args.authority.now in
    let old = c.args.client.now in
    let kind = c.args.kind in
    let x_is = last-message old c.compose.new.self kind c.in_ok-number.number c.message_at.result.now c.in_ok-number.ensures.composed c.in_ok-number.ensures.number c.message_at.ensures in
    let s = sent m now a old kind c.present.new.self c.in_ok-answer.answer c.message_at.result.now x_is c.in_ok-answer.ensures.answer c.in_ok-answer.ensures.after in
    let keeps = c.in_ok-kept.ensures.kept ∙ (ap (λ k. kept k c.in_ok-answer.answer) c.in_ok-number.ensures.composed ∙ ap (λ x. kept (composed old kind) x) s.answer_is) in
    let number = c.in_ok-kept.ensures.number ∙ ap (λ k. length k.answers + 1) c.in_ok-number.ensures.composed in
    taken-exchanged m now laws a c.requires.kept old c.requires.stands kind c.in_ok-kept.kept number c.present.new.self s.authority_is c.keep.new.self keeps c.take_last.new.client c.take_last.result c.take_last.ensures.takes

pub returns-clause-causes : goal.returns-clause-causes
returns-clause-causes g c =
    let m = g.C.Change.means in
    let now = c.args.rules.now in
    let laws = g.met.C.Change.laws in
    let a = c.args.authority.now in
    let old = c.args.client.now in
    let kind = c.args.kind in
    let x_is = last-message old c.compose.new.self kind c.in_ok-number.number c.message_at.result.now c.in_ok-number.ensures.composed c.in_ok-number.ensures.number c.message_at.ensures in
    let s = sent m now a old kind c.present.new.self c.in_ok-answer.answer c.message_at.result.now x_is c.in_ok-answer.ensures.answer c.in_ok-answer.ensures.after in
    let keeps = c.in_ok-kept.ensures.kept ∙ (ap (λ k. kept k c.in_ok-answer.answer) c.in_ok-number.ensures.composed ∙ ap (λ x. kept (composed old kind) x) s.answer_is) in
    let number = c.in_ok-kept.ensures.number ∙ ap (λ k. length k.answers + 1) c.in_ok-number.ensures.composed in
    taken-causes m now laws a c.requires.kept old c.requires.stands kind c.in_ok-kept.kept number c.present.new.self s.authority_is c.keep.new.self keeps c.take_last.new.client c.take_last.result c.take_last.ensures.causes

pub returns-clause-refused : goal.returns-clause-refused
returns-clause-refused g c =
    let m = g.C.Change.means in
    let now = c.args.rules.now in
    let laws = g.met.C.Change.laws in
    let a = c.args.authority.now in
    let old = c.args.client.now in
    let kind = c.args.kind in
    let x_is = last-message old c.compose.new.self kind c.in_ok-number.number c.message_at.result.now c.in_ok-number.ensures.composed c.in_ok-number.ensures.number c.message_at.ensures in
    let s = sent m now a old kind c.present.new.self c.in_ok-answer.answer c.message_at.result.now x_is c.in_ok-answer.ensures.answer c.in_ok-answer.ensures.after in
    let keeps = c.in_ok-kept.ensures.kept ∙ (ap (λ k. kept k c.in_ok-answer.answer) c.in_ok-number.ensures.composed ∙ ap (λ x. kept (composed old kind) x) s.answer_is) in
    let number = c.in_ok-kept.ensures.number ∙ ap (λ k. length k.answers + 1) c.in_ok-number.ensures.composed in
    refused m now laws a c.requires.kept old c.requires.stands kind c.take_last.result
    (taken-causes m now laws a c.requires.kept old c.requires.stands kind c.in_ok-kept.kept number c.present.new.self s.authority_is c.keep.new.self keeps c.take_last.new.client c.take_last.result c.take_last.ensures.causes)

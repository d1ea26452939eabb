use Rattle.std.proofs.Common.{sym, subst}
use Rattle.pm_session.specs.Sounds.{EditorStands}
use Rattle.pm_session.proofs.Hosted.{presenting}
use Rattle.pm_session.proofs.Unrefusing.{told-none}
use Rattle.pm_session.proofs.exchange.present.Goals as goal

pub told-told-requires : goal.told-told-requires
told-told-requires g c =
    let m = g.C.Change.means in
    let rules_now = c.args.rules.now in
    let host = c.args.host.now in
    let h = presenting m rules_now g.met.C.Change.laws (g.H.Host.first host) (g.H.Host.log host) c.args.client.now c.requires.stands c.args.message c.message_at.result.now c.message_at.ensures
    c.name.result c.name.ensures c.in_ok-answer.answer (g.H.Host.log c.present.new.self) c.in_ok-answer.ensures.answered (g.H.Host.first c.present.new.self) c.present.ensures.first in
    h.unrefused

pub returns-in_err-_number-clause-stands : goal.returns-in_err-_number-clause-stands
returns-in_err-_number-clause-stands g c =
    let m = g.C.Change.means in
    let rules_now = c.args.rules.now in
    let host = c.args.host.now in
    let h = presenting m rules_now g.met.C.Change.laws (g.H.Host.first host) (g.H.Host.log host) c.args.client.now c.requires.stands c.args.message c.message_at.result.now c.message_at.ensures
    c.name.result c.name.ensures c.in_ok-answer.answer (g.H.Host.log c.present.new.self) c.in_ok-answer.ensures.answered (g.H.Host.first c.present.new.self) c.present.ensures.first in
    subst (EditorStands m rules_now (g.H.Host.first c.present.new.self) (g.H.Host.log c.present.new.self)) (sym c.in_err-_number.ensures.err) h.only

pub returns-clause-unrefused : goal.returns-clause-unrefused
returns-clause-unrefused g c =
    let m = g.C.Change.means in
    let rules_now = c.args.rules.now in
    let host = c.args.host.now in
    let h = presenting m rules_now g.met.C.Change.laws (g.H.Host.first host) (g.H.Host.log host) c.args.client.now c.requires.stands c.args.message c.message_at.result.now c.message_at.ensures
    c.name.result c.name.ensures c.in_ok-answer.answer (g.H.Host.log c.present.new.self) c.in_ok-answer.ensures.answered (g.H.Host.first c.present.new.self) c.present.ensures.first in
    told-none c.in_ok-answer.answer c.told-told.result c.told-told.ensures h.unrefused

pub returns-clause-stands : goal.returns-clause-stands
returns-clause-stands g c =
    let m = g.C.Change.means in
    let rules_now = c.args.rules.now in
    let host = c.args.host.now in
    let h = presenting m rules_now g.met.C.Change.laws (g.H.Host.first host) (g.H.Host.log host) c.args.client.now c.requires.stands c.args.message c.message_at.result.now c.message_at.ensures
    c.name.result c.name.ensures c.in_ok-answer.answer (g.H.Host.log c.present.new.self) c.in_ok-answer.ensures.answered (g.H.Host.first c.present.new.self) c.present.ensures.first in
    subst (EditorStands m rules_now (g.H.Host.first c.present.new.self) (g.H.Host.log c.present.new.self)) (sym c.in_ok-_number.ensures.kept) h.keeping

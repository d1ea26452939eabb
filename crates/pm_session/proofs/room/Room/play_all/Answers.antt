use Rattle.std.proofs.Common.{rules, inl, inr, take, ◌≡◌, ◌+◌, ◌∷◌, ◌++◌, [], ◌∙◌, append_assoc, drop, ap, sym, subst}
use Rattle.std.proofs.lemmas.List.{drop_more}
use Rattle.pm_session.specs.Events.{State, state_of, played}
use Rattle.pm_session.specs.Sessions.{session}
use Rattle.pm_session.specs.Suits.{LinesSuit}
use Rattle.pm_session.proofs.Lefts.{left-err, line-at}
use Rattle.pm_session.proofs.Playing.{suits-first, suits-rest, session-more, session-last, at-rest, outcomes-all}
use Rattle.pm_session.proofs.Restorings.{session-restores}
use Rattle.pm_session.proofs.Rooms.{session-stays}
use Rattle.pm_session.proofs.Unrefused.{session-none}
use Rattle.pm_session.proofs.room.Room.play_all.Goals as goal

pub play-requires-clause-suits : goal.play-requires-clause-suits
play-requires-clause-suits g c =
    let k = c.loop-line.line-index in
    let lines = c.args.lines.now in
    let rest : drop k lines ≡ c.line-item.result ∷ drop (k + 1) lines = search (rules, drop_more) in
    let suit = subst (λ l. LinesSuit (state_of c.loop-line.self) l) rest c.loop-line.invariant.suit in
    suits-first g.C.Change.means c.args.rules.now g.met.C.Change.laws (g.K.Maker.makes c.args.maker.now c.args.rules.now) (state_of c.loop-line.self) c.loop-line.invariant.sound
    c.line-item.result (drop (k + 1) lines) suit

pub loop-line-preserved : goal.loop-line-preserved
loop-line-preserved g c =
    let k = c.loop-line.line-index in
    let lines = c.args.lines.now in
    let rest : drop k lines ≡ c.line-item.result ∷ drop (k + 1) lines = search (rules, drop_more) in
    let suit = subst (λ l. LinesSuit (state_of c.loop-line.self) l) rest c.loop-line.invariant.suit in
    let later = suits-rest g.C.Change.means c.args.rules.now g.met.C.Change.laws (g.K.Maker.makes c.args.maker.now c.args.rules.now) (state_of c.loop-line.self) c.loop-line.invariant.sound
    c.line-item.result (drop (k + 1) lines) suit in
    let m = g.C.Change.means in
    let makes = g.K.Maker.makes c.args.maker.now c.args.rules.now in
    let s = state_of c.loop-line.self in
    let t = state_of c.play.new.self in
    let more = session-more m c.args.rules.now makes s t c.line-item.result (drop (k + 1) lines) c.in_ok-play.field-0 c.in_ok-play.ensures.plays in
    record {
      each = search rules;
      outcomes = ap (λ l. l ++ (session m c.args.rules.now makes t (drop (k + 1) lines)).0) c.in_ok-push.ensures.items
          ∙ append_assoc c.loop-line.outcomes.items (c.in_ok-play.field-0 ∷ []) (session m c.args.rules.now makes t (drop (k + 1) lines)).0
          ∙ ap (λ q. c.loop-line.outcomes.items ++ q.0) (sym more) ∙ ap (λ l. c.loop-line.outcomes.items ++ (session m c.args.rules.now makes s l).0) (sym rest) ∙ c.loop-line.invariant.outcomes;
      room = ap (λ q. q.1) (sym more) ∙ ap (λ l. (session m c.args.rules.now makes s l).1) (sym rest) ∙ c.loop-line.invariant.room;
      front = ap (λ q. q.1) c.in_ok-play.ensures.plays ∙ ap (λ (x : State g.row.C.Denot g.row.C-Rules.Denot g.row.C-Doc.Denot g.row.C-Reason.Denot). (played m c.args.rules.now makes x c.line-item.result).1) c.loop-line.invariant.front
          ∙ sym (session-last m c.args.rules.now makes (state_of c.args.self.now) lines k c.line-item.result (at-rest lines (drop (k + 1) lines) k c.line-item.result rest));
      suit = subst (λ t. LinesSuit t (drop (k + 1) lines)) (sym (ap (λ p. p.1) c.in_ok-play.ensures.plays)) later;
      sound = c.play.ensures.sound;
    }

pub returns-clause-names : goal.returns-clause-names
returns-clause-names g c = c.loop-line.invariant.sound.names

pub returns-clause-cursors : goal.returns-clause-cursors
returns-clause-cursors g c k =
    session-stays g.C.Change.means c.args.rules.now g.met.C.Change.laws (g.K.Maker.makes c.args.maker.now c.args.rules.now) (state_of c.args.self.now) c.args.lines.now
    c.requires.sound c.requires.suit k

pub returns-clause-restores : goal.returns-clause-restores
returns-clause-restores g c k line at =
    session-restores g.C.Change.means c.args.rules.now g.met.C.Change.laws (g.K.Maker.makes c.args.maker.now c.args.rules.now) (state_of c.args.self.now) c.args.lines.now
    k line at

pub returns-in_err-play-clause-left : goal.returns-in_err-play-clause-left
returns-in_err-play-clause-left g c =
    let m = g.C.Change.means in
    let makes = g.K.Maker.makes c.args.maker.now c.args.rules.now in
    let k = c.loop-line.line-index in
    let lines = c.args.lines.now in
    let rest : drop k lines ≡ c.line-item.result ∷ drop (k + 1) lines = search (rules, drop_more) in
    left-err c.from_residual.result (record {
      played = k;
      left = inr (
        c.line-item.result,
        at-rest lines (drop (k + 1) lines) k c.line-item.result rest,
        line-at m c.args.rules.now c.line-item.result (state_of c.loop-line.self) (session m c.args.rules.now makes (state_of c.args.self.now) (take k lines)).1 (state_of c.play.new.self)
            c.loop-line.invariant.front c.in_err-play.ensures.left,
      );
    })

pub returns-in_err-push-clause-left : goal.returns-in_err-push-clause-left
returns-in_err-push-clause-left g c =
    let m = g.C.Change.means in
    let makes = g.K.Maker.makes c.args.maker.now c.args.rules.now in
    let k = c.loop-line.line-index in
    let lines = c.args.lines.now in
    let rest : drop k lines ≡ c.line-item.result ∷ drop (k + 1) lines = search (rules, drop_more) in
    left-err c.from_residual-in_err-push.result (record {
      played = k + 1;
      left = inl (ap (λ q. q.1) c.in_ok-play.ensures.plays ∙ ap (λ (x : State g.row.C.Denot g.row.C-Rules.Denot g.row.C-Doc.Denot g.row.C-Reason.Denot). (played m c.args.rules.now makes x c.line-item.result).1) c.loop-line.invariant.front
          ∙ sym (session-last m c.args.rules.now makes (state_of c.args.self.now) lines k c.line-item.result (at-rest lines (drop (k + 1) lines) k c.line-item.result rest)));
    })

pub returns-clause-unrefused : goal.returns-clause-unrefused
returns-clause-unrefused g c =
    let m = g.C.Change.means in
    let makes = g.K.Maker.makes c.args.maker.now c.args.rules.now in
    let all = outcomes-all m c.args.rules.now makes (state_of c.loop-line.self) c.args.lines.now c.loop-line.line-index c.loop-line.outcomes.items
    (session m c.args.rules.now makes (state_of c.args.self.now) c.args.lines.now).0 (search rules) c.loop-line.invariant.outcomes in
    rw all (session-none m c.args.rules.now g.met.C.Change.laws makes (state_of c.args.self.now) c.args.lines.now c.requires.sound c.requires.suit)

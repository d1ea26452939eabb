use Rattle.std.proofs.Common.{rules, inl, inr, ◌≡◌, ◌+◌, ◌∷◌, ◌++◌, [], ◌∙◌, append_assoc, drop, ap, sym, subst}
use Rattle.std.proofs.lemmas.List.{drop_more}
use Rattle.pm_session.specs.Events.{State, state_of}
use Rattle.pm_session.proofs.Lefts.{left-err}
use Rattle.pm_session.proofs.Playing.{at-rest}
use Rattle.pm_versions.specs.Late.{late_played, LeftByLate}
use Rattle.pm_versions.specs.LateSessions.{LateLinesSuit, late_session}
use Rattle.pm_versions.proofs.LateLines.{late-first, late-rest}
use Rattle.pm_versions.proofs.LateRuns.{late-more, late-last, late-lines, late-outcomes, late-unrefused}
use Rattle.pm_versions.proofs.PulledRuns.{all-pulled}
use Rattle.pm_versions.proofs.late.LateRoom.play_all.Goals as goal

pub play-requires-clause-suits : goal.play-requires-clause-suits
play-requires-clause-suits g c =
    let k = c.loop-line.line-index in
    let lines = c.args.lines.now in
    let rest : drop k lines ≡ c.line-item.result ∷ drop (k + 1) lines = search (rules, drop_more) in
    let s = state_of c.loop-line.self.room in
    let suit = subst (λ l. LateLinesSuit s l) rest c.loop-line.invariant.suit in
    late-first s c.line-item.result (drop (k + 1) lines) suit g.C.Change.means c.args.rules.now g.met.C.Change.laws (g.K.Maker.makes c.args.maker.now c.args.rules.now)
    c.loop-line.invariant.kept.sound

pub loop-line-preserved : goal.loop-line-preserved
loop-line-preserved g c =
    let k = c.loop-line.line-index in
    let lines = c.args.lines.now in
    let line = c.line-item.result in
    let m = g.C.Change.means in
    let rules_now = c.args.rules.now in
    let makes = g.K.Maker.makes c.args.maker.now rules_now in
    let rest : drop k lines ≡ line ∷ drop (k + 1) lines = search (rules, drop_more) in
    let s = state_of c.loop-line.self.room in
    let t = state_of c.play.new.self.room in
    let suit = subst (λ l. LateLinesSuit s l) rest c.loop-line.invariant.suit in
    let later = late-rest s line (drop (k + 1) lines) suit m rules_now g.met.C.Change.laws makes c.loop-line.invariant.kept.sound in
    let more = late-more m rules_now makes s t line (drop (k + 1) lines) c.in_ok-play.field-0 c.in_ok-play.ensures.plays in
    record {
      each = search rules;
      outcomes = ap (λ l. l ++ (late_session m rules_now makes t (drop (k + 1) lines)).0) c.in_ok-push.ensures.items
          ∙ append_assoc c.loop-line.outcomes.items (c.in_ok-play.field-0 ∷ []) (late_session m rules_now makes t (drop (k + 1) lines)).0
          ∙ ap (λ q. c.loop-line.outcomes.items ++ q.0) (sym more) ∙ ap (λ l. c.loop-line.outcomes.items ++ (late_session m rules_now makes s l).0) (sym rest) ∙ c.loop-line.invariant.outcomes;
      room = ap (λ q. q.1) (sym more) ∙ ap (λ l. (late_session m rules_now makes s l).1) (sym rest) ∙ c.loop-line.invariant.room;
      front = ap (λ q. q.1) c.in_ok-play.ensures.plays
          ∙ ap (λ (x : State g.row.C.Denot g.row.C-Rules.Denot g.row.C-Doc.Denot g.row.C-Reason.Denot). (late_played m rules_now makes x line).1) c.loop-line.invariant.front
          ∙ sym (late-last m rules_now makes (state_of c.args.self.now.room) lines k line (at-rest lines (drop (k + 1) lines) k line rest));
      suit = subst (λ r. LateLinesSuit r (drop (k + 1) lines)) (sym (ap (λ p. p.1) c.in_ok-play.ensures.plays)) later;
      kept = c.play.ensures.kept;
      reached = c.in_ok-play.ensures.reached;
    }

pub returns-clause-unrefused : goal.returns-clause-unrefused
returns-clause-unrefused g c =
    let m = g.C.Change.means in
    let makes = g.K.Maker.makes c.args.maker.now c.args.rules.now in
    let s = state_of c.args.self.now.room in
    let all = late-outcomes m c.args.rules.now makes (state_of c.loop-line.self.room) c.args.lines.now c.loop-line.line-index c.loop-line.outcomes.items
    (late_session m c.args.rules.now makes s c.args.lines.now).0 (search rules) c.loop-line.invariant.outcomes in
    rw all (late-unrefused m c.args.rules.now makes g.met.C.Change.laws s c.args.lines.now c.requires.kept.sound c.requires.suit)

pub returns-clause-holds : goal.returns-clause-holds
returns-clause-holds g c =
    late-lines g.C.Change.means c.args.rules.now (g.K.Maker.makes c.args.maker.now c.args.rules.now) g.met.C.Change.laws (state_of c.args.self.now.room) c.args.lines.now
    c.requires.kept.sound c.requires.suit

pub returns-clause-pulled : goal.returns-clause-pulled
returns-clause-pulled g c =
    all-pulled g.C.Change.means c.args.rules.now (g.K.Maker.makes c.args.maker.now c.args.rules.now) g.met.C.Change.laws (state_of c.args.self.now.room) c.args.lines.now
    c.requires.kept.sound c.requires.suit

pub returns-in_err-play-clause-left : goal.returns-in_err-play-clause-left
returns-in_err-play-clause-left g c =
    let m = g.C.Change.means in
    let rules_now = c.args.rules.now in
    let makes = g.K.Maker.makes c.args.maker.now rules_now in
    let k = c.loop-line.line-index in
    let lines = c.args.lines.now in
    let line = c.line-item.result in
    let rest : drop k lines ≡ line ∷ drop (k + 1) lines = search (rules, drop_more) in
    left-err c.from_residual-in_err-play.result (record {
      played = k;
      left = inr (
        line,
        at-rest lines (drop (k + 1) lines) k line rest,
        subst (λ (r : State g.row.C.Denot g.row.C-Rules.Denot g.row.C-Doc.Denot g.row.C-Reason.Denot). LeftByLate m rules_now makes r line (state_of c.play.new.self.room)) c.loop-line.invariant.front
            c.in_err-play.ensures.left,
      );
    })

pub returns-in_err-push-clause-left : goal.returns-in_err-push-clause-left
returns-in_err-push-clause-left g c =
    let m = g.C.Change.means in
    let rules_now = c.args.rules.now in
    let makes = g.K.Maker.makes c.args.maker.now rules_now in
    let k = c.loop-line.line-index in
    let lines = c.args.lines.now in
    let line = c.line-item.result in
    let rest : drop k lines ≡ line ∷ drop (k + 1) lines = search (rules, drop_more) in
    left-err c.from_residual-in_err-push.result (record {
      played = k + 1;
      left = inl (ap (λ q. q.1) c.in_ok-play.ensures.plays
          ∙ ap (λ (x : State g.row.C.Denot g.row.C-Rules.Denot g.row.C-Doc.Denot g.row.C-Reason.Denot). (late_played m rules_now makes x line).1) c.loop-line.invariant.front
          ∙ sym (late-last m rules_now makes (state_of c.args.self.now.room) lines k line (at-rest lines (drop (k + 1) lines) k line rest)));
    })

use Rattle.std.proofs.Common.{rules, inl, inr, take, ◌≡◌, ◌+◌, ◌∷◌, ◌++◌, [], ◌∙◌, append_assoc, append-nil, drop, ap, sym, subst}
use Rattle.std.specs.Prelude.{if◌then◌else◌, refl}
use Rattle.std.proofs.lemmas.List.{drop_more}
use Rattle.pm_apply.specs.Changes.{meaning}
use Rattle.pm_apply.specs.Laws.{laws}
use Rattle.pm_session.specs.Events.{state_of, played}
use Rattle.pm_session.specs.Sessions.{session}
use Rattle.pm_session.specs.Suits.{LinesSuit}
use Rattle.pm_session.proofs.Lefts.{left-err, line-at}
use Rattle.pm_session.proofs.Opening.{drop-past}
use Rattle.pm_session.proofs.Playing.{suits-first, suits-rest, session-more, session-last, at-rest, outcomes-all}
use Rattle.pm_session.proofs.Restorings.{session-restores}
use Rattle.pm_session.proofs.Rooms.{session-stays}
use Rattle.pm_session.proofs.Unrefused.{session-none}
use Rattle.pm_selective.specs.Playing.{Room, AreApartLines}
use Rattle.pm_selective.proofs.Playings.{apart-next}
use Rattle.pm_selective.proofs.playing.play_all.Goals as goal

pub play-requires-clause-suits : goal.play-requires-clause-suits
play-requires-clause-suits g c =
    let k = c.loop-line.line-index in
    let lines = c.args.lines.now in
    let rest : drop k lines ≡ c.line-item.result ∷ drop (k + 1) lines = search (rules, drop_more) in
    let suit = subst (λ l. LinesSuit (state_of c.loop-line.room) l) rest c.loop-line.invariant.suit in
    suits-first meaning c.args.schema.now laws (g.K.Maker.makes c.args.maker.now c.args.schema.now) (state_of c.loop-line.room) c.loop-line.invariant.sound c.line-item.result (drop (k + 1) lines) suit

pub loop-line-preserved : goal.loop-line-preserved
loop-line-preserved g c =
    let k = c.loop-line.line-index in
    let lines = c.args.lines.now in
    let line = c.line-item.result in
    let rest : drop k lines ≡ line ∷ drop (k + 1) lines = search (rules, drop_more) in
    let schema = c.args.schema.now in
    let makes = g.K.Maker.makes c.args.maker.now schema in
    let s = state_of c.loop-line.room in
    let t = state_of c.play.new.room in
    let first = state_of c.args.room.now in
    let o = c.in_ok-played.played.outcome in
    let apart = c.in_ok-played.played.apart in
    let suit = subst (λ l. LinesSuit s l) rest c.loop-line.invariant.suit in
    let later = suits-rest meaning schema laws makes s c.loop-line.invariant.sound line (drop (k + 1) lines) suit in
    let more = session-more meaning schema makes s t line (drop (k + 1) lines) o c.in_ok-played.ensures.plays in
    record {
      each = search rules;
      outcomes = ap (λ l. l ++ (session meaning schema makes t (drop (k + 1) lines)).0) c.in_ok-push.ensures.items
          ∙ append_assoc c.loop-line.outcomes.items (o ∷ []) (session meaning schema makes t (drop (k + 1) lines)).0
          ∙ ap (λ q. c.loop-line.outcomes.items ++ q.0) (sym more) ∙ ap (λ l. c.loop-line.outcomes.items ++ (session meaning schema makes s l).0) (sym rest) ∙ c.loop-line.invariant.outcomes;
      room = ap (λ q. q.1) (sym more) ∙ ap (λ l. (session meaning schema makes s l).1) (sym rest) ∙ c.loop-line.invariant.room;
      front = ap (λ q. q.1) c.in_ok-played.ensures.plays ∙ ap (λ (x : Room). (played meaning schema makes x line).1) c.loop-line.invariant.front
          ∙ sym (session-last meaning schema makes first lines k line (at-rest lines (drop (k + 1) lines) k line rest));
      suit = subst (λ r. LinesSuit r (drop (k + 1) lines)) (sym (ap (λ p. p.1) c.in_ok-played.ensures.plays)) later;
      sound = c.play.ensures.sound;
      told = λ numbers h.
          let noted = if apart then line.number ∷ [] else [] in
          let next = apart-next schema s line makes o t c.in_ok-played.ensures.plays (drop (k + 1) lines) apart c.in_ok-played.ensures.apart c.in_ok-played.ensures.leaves numbers h in
          let here = subst (λ ls. AreApartLines schema makes s ls (noted ++ numbers)) (sym rest) next in
          subst (AreApartLines schema makes first lines) (sym (append_assoc c.loop-line.numbers.items noted numbers) ∙ ap (λ ns. ns ++ numbers) (sym c.in_ok-note.ensures))
          (c.loop-line.invariant.told (noted ++ numbers) here);
    }

pub returns-clause-apart : goal.returns-clause-apart
returns-clause-apart g c =
    let schema = c.args.schema.now in
    let makes = g.K.Maker.makes c.args.maker.now schema in
    let none = drop-past c.args.lines.now c.loop-line.line-index (search rules) in
    subst (AreApartLines schema makes (state_of c.args.room.now) c.args.lines.now) (append-nil c.loop-line.numbers.items)
    (c.loop-line.invariant.told [] (subst (λ ls. AreApartLines schema makes (state_of c.loop-line.room) ls []) (sym none) refl))

pub returns-in_err-played-clause-left : goal.returns-in_err-played-clause-left
returns-in_err-played-clause-left g c =
    let schema = c.args.schema.now in
    let makes = g.K.Maker.makes c.args.maker.now schema in
    let k = c.loop-line.line-index in
    let lines = c.args.lines.now in
    let rest : drop k lines ≡ c.line-item.result ∷ drop (k + 1) lines = search (rules, drop_more) in
    left-err c.from_residual.result (record {
      played = k;
      left = inr (
        c.line-item.result,
        at-rest lines (drop (k + 1) lines) k c.line-item.result rest,
        line-at meaning schema c.line-item.result (state_of c.loop-line.room) (session meaning schema makes (state_of c.args.room.now) (take k lines)).1 (state_of c.play.new.room)
            c.loop-line.invariant.front c.in_err-played.ensures.left,
      );
    })

pub returns-in_err-push-clause-left : goal.returns-in_err-push-clause-left
returns-in_err-push-clause-left g c =
    let schema = c.args.schema.now in
    let makes = g.K.Maker.makes c.args.maker.now schema in
    let k = c.loop-line.line-index in
    let lines = c.args.lines.now in
    let rest : drop k lines ≡ c.line-item.result ∷ drop (k + 1) lines = search (rules, drop_more) in
    left-err c.from_residual-in_err-push.result (record {
      played = k + 1;
      left = inl (ap (λ q. q.1) c.in_ok-played.ensures.plays ∙ ap (λ (x : Room). (played meaning schema makes x c.line-item.result).1) c.loop-line.invariant.front
          ∙ sym (session-last meaning schema makes (state_of c.args.room.now) lines k c.line-item.result (at-rest lines (drop (k + 1) lines) k c.line-item.result rest)));
    })

pub returns-in_err-note-clause-left : goal.returns-in_err-note-clause-left
returns-in_err-note-clause-left g c =
    let schema = c.args.schema.now in
    let makes = g.K.Maker.makes c.args.maker.now schema in
    let k = c.loop-line.line-index in
    let lines = c.args.lines.now in
    let rest : drop k lines ≡ c.line-item.result ∷ drop (k + 1) lines = search (rules, drop_more) in
    left-err c.from_residual-in_err-note.result (record {
      played = k + 1;
      left = inl (ap (λ q. q.1) c.in_ok-played.ensures.plays ∙ ap (λ (x : Room). (played meaning schema makes x c.line-item.result).1) c.loop-line.invariant.front
          ∙ sym (session-last meaning schema makes (state_of c.args.room.now) lines k c.line-item.result (at-rest lines (drop (k + 1) lines) k c.line-item.result rest)));
    })

pub returns-clause-unrefused : goal.returns-clause-unrefused
returns-clause-unrefused g c =
    let schema = c.args.schema.now in
    let makes = g.K.Maker.makes c.args.maker.now schema in
    let all = outcomes-all meaning schema makes (state_of c.loop-line.room) c.args.lines.now c.loop-line.line-index c.loop-line.outcomes.items
    (session meaning schema makes (state_of c.args.room.now) c.args.lines.now).0 (search rules) c.loop-line.invariant.outcomes in
    rw all (session-none meaning schema laws makes (state_of c.args.room.now) c.args.lines.now c.requires.sound c.requires.suit)

pub returns-clause-names : goal.returns-clause-names
returns-clause-names g c = c.loop-line.invariant.sound.names

pub returns-clause-cursors : goal.returns-clause-cursors
returns-clause-cursors g c k =
    session-stays meaning c.args.schema.now laws (g.K.Maker.makes c.args.maker.now c.args.schema.now) (state_of c.args.room.now) c.args.lines.now c.requires.sound c.requires.suit k

pub returns-clause-restores : goal.returns-clause-restores
returns-clause-restores g c k line at =
    session-restores meaning c.args.schema.now laws (g.K.Maker.makes c.args.maker.now c.args.schema.now) (state_of c.args.room.now) c.args.lines.now k line at

use Rattle.std.proofs.Common.{rules, ◌≡◌, ◌+◌, ◌≤◌, [], ◌∷◌, ◌++◌, length, take, drop, refl, sym, subst}
use Rattle.std.proofs.lemmas.List.{take_more, drop_more}
use Rattle.pm_session.proofs.Lefts.{left-err}
use Rattle.pm_session.proofs.Playing.{at-rest}
use Rattle.pm_workers.proofs.Working.{take-none, drop-none, take-all}
use Rattle.pm_rooms.specs.Halls.{hall_of, LinesSuitHall}
use Rattle.pm_rooms.proofs.HallLines.{Rooms, Outcomes, rooms-none, outcomes-none, rooms-more, outcomes-on, left-next, left-between, hall-suits-first, hall-suits-rest}
use Rattle.pm_rooms.proofs.HallRooms.{stay-on}
use Rattle.pm_rooms.proofs.hall.Hall.play_all.Goals as goal

pub loop-line-init : goal.loop-line-init
loop-line-init g c =
    let m = g.C.Change.means in
    let makes = g.K.Maker.makes c.args.maker.now in
    let h = hall_of c.args.self.now in
    let lines = c.args.lines.now in
    record {
      each = search rules;
      stay = record { rules = refl; count = refl };
      rooms = subst (λ l. Rooms m makes h l h) (sym (take-none lines)) (rooms-none m makes h);
      outcomes = subst (λ o. Outcomes m makes h (take 0 lines) o h) (sym c.new-outcomes.ensures.items)
          (subst (λ l. Outcomes m makes h l [] h) (sym (take-none lines)) (outcomes-none m makes h));
      suit = subst (LinesSuitHall h) (sym (drop-none lines)) c.requires.suit;
      sound = c.requires.sound;
    }

pub play-requires-clause-suits : goal.play-requires-clause-suits
play-requires-clause-suits g c =
    let k = c.loop-line.line-index in
    let lines = c.args.lines.now in
    let line = c.line-item.result in
    let h = hall_of c.loop-line.self in
    let rest : drop k lines ≡ line ∷ drop (k + 1) lines = search (rules, drop_more) in
    hall-suits-first g.C.Change.means g.met.C.Change.laws (g.K.Maker.makes c.args.maker.now) h c.loop-line.invariant.sound line (drop (k + 1) lines)
    (subst (LinesSuitHall h) rest c.loop-line.invariant.suit)

pub loop-line-preserved : goal.loop-line-preserved
loop-line-preserved g c =
    let m = g.C.Change.means in
    let makes = g.K.Maker.makes c.args.maker.now in
    let i = c.loop-line.invariant in
    let k = c.loop-line.line-index in
    let lines = c.args.lines.now in
    let line = c.line-item.result in
    let h0 = hall_of c.args.self.now in
    let h = hall_of c.loop-line.self in
    let next = hall_of c.play.new.self in
    let o = c.in_ok-play.field-0 in
    let xs = take k lines in
    let rest : drop k lines ≡ line ∷ drop (k + 1) lines = search (rules, drop_more) in
    let front : take (k + 1) lines ≡ take k lines ++ line ∷ [] = search (rules, take_more) in
    let each : length c.loop-line.outcomes.items ≡ length (take k lines) = search rules in
    let others = c.play.ensures.others in
    let plays = c.in_ok-play.ensures.plays in
    record {
      each = search rules;
      stay = stay-on h0 h next i.stay others.stay;
      rooms = subst (λ l. Rooms m makes h0 l next) (sym front) (rooms-more m makes h0 h next xs line i.rooms others o plays);
      outcomes = subst (λ l. Outcomes m makes h0 l c.push.new.self.items next) (sym front)
          (subst (λ l. Outcomes m makes h0 (xs ++ line ∷ []) l next) (sym c.in_ok-push.ensures.items)
          (outcomes-on m makes h0 h next xs line i.rooms others c.loop-line.outcomes.items o each i.outcomes plays));
      suit = hall-suits-rest m g.met.C.Change.laws makes h i.sound line (drop (k + 1) lines) (subst (LinesSuitHall h) rest i.suit) o next others plays;
      sound = c.play.ensures.sound;
    }

pub returns-in_err-play-clause-stay : goal.returns-in_err-play-clause-stay
returns-in_err-play-clause-stay g c =
    stay-on (hall_of c.args.self.now) (hall_of c.loop-line.self) (hall_of c.play.new.self) c.loop-line.invariant.stay c.play.ensures.others.stay

pub returns-in_err-push-clause-stay : goal.returns-in_err-push-clause-stay
returns-in_err-push-clause-stay g c =
    stay-on (hall_of c.args.self.now) (hall_of c.loop-line.self) (hall_of c.play.new.self) c.loop-line.invariant.stay c.play.ensures.others.stay

pub returns-in_err-play-clause-left : goal.returns-in_err-play-clause-left
returns-in_err-play-clause-left g c =
    let m = g.C.Change.means in
    let makes = g.K.Maker.makes c.args.maker.now in
    let i = c.loop-line.invariant in
    let k = c.loop-line.line-index in
    let lines = c.args.lines.now in
    let line = c.line-item.result in
    let h0 = hall_of c.args.self.now in
    let h = hall_of c.loop-line.self in
    let next = hall_of c.play.new.self in
    let xs = take k lines in
    let others = c.play.ensures.others in
    let rest : drop k lines ≡ line ∷ drop (k + 1) lines = search (rules, drop_more) in
    left-err c.from_residual.result (left-next m makes h0 h next xs line i.rooms others lines k refl (at-rest lines (drop (k + 1) lines) k line rest) c.in_err-play.ensures.left)

pub returns-in_err-push-clause-left : goal.returns-in_err-push-clause-left
returns-in_err-push-clause-left g c =
    let m = g.C.Change.means in
    let makes = g.K.Maker.makes c.args.maker.now in
    let i = c.loop-line.invariant in
    let k = c.loop-line.line-index in
    let lines = c.args.lines.now in
    let line = c.line-item.result in
    let h0 = hall_of c.args.self.now in
    let h = hall_of c.loop-line.self in
    let next = hall_of c.play.new.self in
    let xs = take k lines in
    let others = c.play.ensures.others in
    let o = c.in_ok-play.field-0 in
    let front : take (k + 1) lines ≡ take k lines ++ line ∷ [] = search (rules, take_more) in
    left-err c.from_residual-in_err-push.result (left-between m makes h0 next lines (k + 1)
    (subst (λ l. Rooms m makes h0 l next) (sym front) (rooms-more m makes h0 h next xs line i.rooms others o c.in_ok-play.ensures.plays)))

pub returns-clause-rooms : goal.returns-clause-rooms
returns-clause-rooms g c =
    let k = c.loop-line.line-index in
    let lines = c.args.lines.now in
    let all : length lines ≤ k = search rules in
    subst (λ l. Rooms g.C.Change.means (g.K.Maker.makes c.args.maker.now) (hall_of c.args.self.now) l (hall_of c.loop-line.self)) (take-all lines k all) c.loop-line.invariant.rooms

pub returns-clause-outcomes : goal.returns-clause-outcomes
returns-clause-outcomes g c =
    let k = c.loop-line.line-index in
    let lines = c.args.lines.now in
    let all : length lines ≤ k = search rules in
    subst (λ l. Outcomes g.C.Change.means (g.K.Maker.makes c.args.maker.now) (hall_of c.args.self.now) l c.loop-line.outcomes.items (hall_of c.loop-line.self)) (take-all lines k all)
    c.loop-line.invariant.outcomes

use Rattle.std.proofs.Common.{rules, ◌≡◌, ◌+◌, ◌≤◌, ◌<◌, [], ◌∷◌, ◌++◌, length, take, drop, sym, ap, ◌∙◌, subst}
use Rattle.std.proofs.lemmas.List.{take_more, drop_more, take-append-drop, length-take-le}
use Rattle.pm_workers.proofs.Working.{take-none, drop-none}
use Rattle.pm_rooms.specs.People.{StandsFinished}
use Rattle.pm_rooms.specs.Stands.{HasStand}
use Rattle.pm_rooms.proofs.Playings.{AllAt, all-begin, all-has, all-ends, all-line-ready, all-plays, all-breaks, desk-there}
use Rattle.pm_rooms.proofs.person.Floor.play.Goals as goal

pub loop-line-init : goal.loop-line-init
loop-line-init g c =
    let m = g.C.Change.means in
    let desks = c.args.self.now.desks.now in
    let makes = g.K.Maker.makes c.args.self.now.crew.now.maker.now in
    let old = c.args.stands.now in
    let lines = c.args.lines.now in
    let outs = c.args.outcomes.now.items in
    let none : length outs ≡ 0 = ap length c.requires.none in
    record {
      count = search rules;
      all = subst (λ f. AllAt m desks makes old old f (drop 0 lines) outs) (sym (take-none lines))
          (subst (λ r. AllAt m desks makes old old [] r outs) (sym (drop-none lines))
          (subst (AllAt m desks makes old old [] lines) (sym c.requires.none) (all-begin m desks makes old lines c.requires.ready)));
    }

pub play_line-requires-clause-there : goal.play_line-requires-clause-there
play_line-requires-clause-there g c =
    let m = g.C.Change.means in
    let desks = c.args.self.now.desks.now in
    let makes = g.K.Maker.makes c.args.self.now.crew.now.maker.now in
    let old = c.args.stands.now in
    let lines = c.args.lines.now in
    let k = c.loop-line.line-index in
    let stands = c.loop-line.stands in
    let outs = c.loop-line.outcomes.items in
    let line = c.line-item.result in
    let there : k < length lines = search rules in
    let has = subst (HasStand old) (sym c.line-item.is) (c.requires.ready.there k line there) in
    all-has m desks makes old stands (take k lines) outs (drop k lines) c.loop-line.invariant.all line has

pub play_line-requires-clause-desk : goal.play_line-requires-clause-desk
play_line-requires-clause-desk g c =
    let m = g.C.Change.means in
    let desks = c.args.self.now.desks.now in
    let makes = g.K.Maker.makes c.args.self.now.crew.now.maker.now in
    let old = c.args.stands.now in
    let lines = c.args.lines.now in
    let k = c.loop-line.line-index in
    let stands = c.loop-line.stands in
    let outs = c.loop-line.outcomes.items in
    let line = c.line-item.result in
    let there : k < length lines = search rules in
    let has = subst (HasStand old) (sym c.line-item.is) (c.requires.ready.there k line there) in
    desk-there m desks makes old lines c.requires.ready line has

pub play_line-requires-clause-ready : goal.play_line-requires-clause-ready
play_line-requires-clause-ready g c =
    let m = g.C.Change.means in
    let desks = c.args.self.now.desks.now in
    let makes = g.K.Maker.makes c.args.self.now.crew.now.maker.now in
    let old = c.args.stands.now in
    let lines = c.args.lines.now in
    let k = c.loop-line.line-index in
    let stands = c.loop-line.stands in
    let outs = c.loop-line.outcomes.items in
    let line = c.line-item.result in
    let rest : drop k lines ≡ line ∷ drop (k + 1) lines = search (rules, drop_more) in
    let all = subst (λ l. AllAt m desks makes old stands (take k lines) l outs) rest c.loop-line.invariant.all in
    all-line-ready m desks makes old stands (take k lines) outs line (drop (k + 1) lines) all

pub loop-line-preserved : goal.loop-line-preserved
loop-line-preserved g c =
    let m = g.C.Change.means in
    let desks = c.args.self.now.desks.now in
    let makes = g.K.Maker.makes c.args.self.now.crew.now.maker.now in
    let old = c.args.stands.now in
    let lines = c.args.lines.now in
    let k = c.loop-line.line-index in
    let stands = c.loop-line.stands in
    let outs = c.loop-line.outcomes.items in
    let line = c.line-item.result in
    let rest : drop k lines ≡ line ∷ drop (k + 1) lines = search (rules, drop_more) in
    let all = subst (λ l. AllAt m desks makes old stands (take k lines) l outs) rest c.loop-line.invariant.all in
    let within : k ≤ length lines = search rules in
    let count : length outs ≡ k = search rules in
    let each : length outs ≡ length (take k lines) = count ∙ sym (length-take-le k lines within) in
    let new = c.play_line.new.stands in
    let o = c.in_ok-outcome.outcome in
    let p = c.in_ok-outcome.ensures in
    let front : take (k + 1) lines ≡ take k lines ++ line ∷ [] = search (rules, take_more) in
    let items : c.push_reserved.new.self.items ≡ outs ++ o ∷ [] = c.push_reserved.ensures.items ∙ ap (λ l. l ++ o ∷ []) c.reserve.ensures.items in
    record {
      count = search rules;
      all = subst (λ f. AllAt m desks makes old new f (drop (k + 1) lines) c.push_reserved.new.self.items) (sym front)
          (subst (AllAt m desks makes old new (take k lines ++ line ∷ []) (drop (k + 1) lines)) (sym items)
          (all-plays m desks makes old stands (take k lines) outs line (drop (k + 1) lines) all _ new p c.requires.ready.differ o p.acts each));
    }

pub returns : goal.returns
returns g c =
    let m = g.C.Change.means in
    let desks = c.args.self.now.desks.now in
    let makes = g.K.Maker.makes c.args.self.now.crew.now.maker.now in
    let old = c.args.stands.now in
    let lines = c.args.lines.now in
    let k = c.loop-line.line-index in
    let stands = c.loop-line.stands in
    let outs = c.loop-line.outcomes.items in
    let within : k ≤ length lines = search rules in
    let count : length outs ≡ k = search rules in
    let each : length outs ≡ length (take k lines) = count ∙ sym (length-take-le k lines within) in
    subst (λ l. StandsFinished m desks makes l old outs stands) (take-append-drop k lines) (all-ends m desks makes old stands (take k lines) outs (drop k lines) each c.loop-line.invariant.all)

pub returns-in_err-reserve : goal.returns-in_err-reserve
returns-in_err-reserve g c =
    let m = g.C.Change.means in
    let desks = c.args.self.now.desks.now in
    let makes = g.K.Maker.makes c.args.self.now.crew.now.maker.now in
    let old = c.args.stands.now in
    let lines = c.args.lines.now in
    let k = c.loop-line.line-index in
    let stands = c.loop-line.stands in
    let outs = c.loop-line.outcomes.items in
    let within : k ≤ length lines = search rules in
    let count : length outs ≡ k = search rules in
    let each : length outs ≡ length (take k lines) = count ∙ sym (length-take-le k lines within) in
    subst (λ o. StandsFinished m desks makes lines old o stands) (sym c.reserve.ensures.items)
    (subst (λ l. StandsFinished m desks makes l old outs stands) (take-append-drop k lines) (all-ends m desks makes old stands (take k lines) outs (drop k lines) each c.loop-line.invariant.all))

pub returns-in_err-outcome : goal.returns-in_err-outcome
returns-in_err-outcome g c =
    let m = g.C.Change.means in
    let desks = c.args.self.now.desks.now in
    let makes = g.K.Maker.makes c.args.self.now.crew.now.maker.now in
    let old = c.args.stands.now in
    let lines = c.args.lines.now in
    let k = c.loop-line.line-index in
    let stands = c.loop-line.stands in
    let outs = c.loop-line.outcomes.items in
    let line = c.line-item.result in
    let rest : drop k lines ≡ line ∷ drop (k + 1) lines = search (rules, drop_more) in
    let all = subst (λ l. AllAt m desks makes old stands (take k lines) l outs) rest c.loop-line.invariant.all in
    let within : k ≤ length lines = search rules in
    let count : length outs ≡ k = search rules in
    let each : length outs ≡ length (take k lines) = count ∙ sym (length-take-le k lines within) in
    let new = c.play_line.new.stands in
    let p = c.in_err-outcome.ensures in
    subst (λ o. StandsFinished m desks makes lines old o new) (sym c.reserve.ensures.items)
    (subst (λ l. StandsFinished m desks makes l old outs new) (ap (λ l. take k lines ++ l) (sym rest) ∙ take-append-drop k lines)
    (all-breaks m desks makes old stands (take k lines) outs line (drop (k + 1) lines) all _ new p c.requires.ready.differ each))

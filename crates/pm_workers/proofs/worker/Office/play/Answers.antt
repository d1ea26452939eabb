use Rattle.std.proofs.Common.{rules, ◌≡◌, ◌+◌, ◌≤◌, [], ◌∷◌, ◌++◌, length, take, drop, refl, sym, ap, ◌∙◌, subst}
use Rattle.std.proofs.lemmas.List.{take_more, drop_more}
use Rattle.pm_session.specs.Members.{name_of}
use Rattle.pm_workers.specs.Seats.{Serves}
use Rattle.pm_workers.specs.Suiting.{SuitMember}
use Rattle.pm_workers.specs.Worked.{Worked}
use Rattle.pm_workers.proofs.Seatings.{sees-same}
use Rattle.pm_workers.proofs.Suitings.{acts-counted, suits-now, suits-later}
use Rattle.pm_workers.proofs.Working.{worked-none, worked-more, worked-began, take-none, drop-none, take-all}
use Rattle.pm_workers.proofs.worker.Office.play.Goals as goal

pub loop-line-init : goal.loop-line-init
loop-line-init g c =
    let m = g.C.Change.means in
    let d = c.args.self.now.desk.now in
    let makes = g.K.Maker.makes c.args.self.now.crew.now.maker.now d.opening.rules in
    let h = c.requires in
    let lines = c.args.lines.now in
    let x = c.args.member.now in
    let s = c.args.seat.now in
    record {
      count = search rules;
      worked = subst (λ l. Worked m makes d l x s c.args.outcomes.now.items x s) (sym (take-none lines))
          (subst (λ o. Worked m makes d [] x s o x s) (sym h.none) (worked-none m makes d x s));
      suit = subst (λ l. SuitMember x l) (sym (drop-none lines)) h.suit;
      serves = h.serves;
      stands = h.stands;
      name = refl;
    }

pub play_line-requires-clause-serves : goal.play_line-requires-clause-serves
play_line-requires-clause-serves g c =
    let m = g.C.Change.means in
    let d = c.args.self.now.desk.now in
    let i = c.loop-line.invariant in
    let k = c.loop-line.line-index in
    let lines = c.args.lines.now in
    let line = c.line-item.result in
    let rest : drop k lines ≡ line ∷ drop (k + 1) lines = search (rules, drop_more) in
    let suit = subst (λ l. SuitMember c.loop-line.member l) rest i.suit in
    let own = suits-now c.loop-line.member line (drop (k + 1) lines) suit in
    subst (λ n. Serves m d c.loop-line.seat d.opening.rules n) (sym i.name ∙ own.client) i.serves

pub play_line-requires-clause-suits : goal.play_line-requires-clause-suits
play_line-requires-clause-suits g c =
    let i = c.loop-line.invariant in
    let k = c.loop-line.line-index in
    let lines = c.args.lines.now in
    let line = c.line-item.result in
    let rest : drop k lines ≡ line ∷ drop (k + 1) lines = search (rules, drop_more) in
    suits-now c.loop-line.member line (drop (k + 1) lines) (subst (λ l. SuitMember c.loop-line.member l) rest i.suit)

pub loop-line-preserved : goal.loop-line-preserved
loop-line-preserved g c =
    let m = g.C.Change.means in
    let d = c.args.self.now.desk.now in
    let makes = g.K.Maker.makes c.args.self.now.crew.now.maker.now d.opening.rules in
    let i = c.loop-line.invariant in
    let k = c.loop-line.line-index in
    let lines = c.args.lines.now in
    let line = c.line-item.result in
    let x0 = c.args.member.now in
    let s = c.args.seat.now in
    let x = c.loop-line.member in
    let t = c.loop-line.seat in
    let y = c.play_line.new.member in
    let u = c.play_line.new.seat in
    let o = c.in_ok-outcome.outcome in
    let rest : drop k lines ≡ line ∷ drop (k + 1) lines = search (rules, drop_more) in
    let front : take (k + 1) lines ≡ take k lines ++ line ∷ [] = search (rules, take_more) in
    let suit = subst (λ l. SuitMember x l) rest i.suit in
    let own = suits-now x line (drop (k + 1) lines) suit in
    let acted = c.in_ok-outcome.ensures.acts in
    let counted = acts-counted m d.opening.rules makes _ _ line.act x o y own.suits acted.acts in
    let name : line.client ≡ name_of x0 = sym own.client ∙ i.name in
    let items : c.push_reserved.new.self.items ≡ c.loop-line.outcomes.items ++ o ∷ [] = c.push_reserved.ensures.items ∙ ap (λ l. l ++ o ∷ []) c.reserve.ensures.items in
    record {
      count = search rules;
      worked = subst (λ l. Worked m makes d l x0 s c.push_reserved.new.self.items y u) (sym front)
          (subst (λ l. Worked m makes d (take k lines ++ line ∷ []) x0 s l y u) (sym items)
          (worked-more m makes d x0 s (take k lines) c.loop-line.outcomes.items x t i.worked line o y u acted));
      suit = suits-later x y line (drop (k + 1) lines) suit counted;
      serves = subst (λ n. Serves m d u d.opening.rules n) name c.play_line.ensures.serves;
      stands = c.play_line.ensures.stands;
      name = counted.name ∙ i.name;
    }

pub returns-clause-worked : goal.returns-clause-worked
returns-clause-worked g c =
    let m = g.C.Change.means in
    let d = c.args.self.now.desk.now in
    let makes = g.K.Maker.makes c.args.self.now.crew.now.maker.now d.opening.rules in
    let lines = c.args.lines.now in
    let k = c.loop-line.line-index in
    let all : length lines ≤ k = search rules in
    subst (λ l. Worked m makes d l c.args.member.now c.args.seat.now c.loop-line.outcomes.items c.loop-line.member c.loop-line.seat) (take-all lines k all) c.loop-line.invariant.worked

pub returns-clause-began : goal.returns-clause-began
returns-clause-began g c =
    let d = c.args.self.now.desk.now in
    let t = c.loop-line.seat in
    let within : c.loop-line.line-index ≤ length c.args.lines.now = search rules in
    worked-began g.C.Change.means (g.K.Maker.makes c.args.self.now.crew.now.maker.now d.opening.rules) d c.args.member.now c.args.seat.now c.args.lines.now c.loop-line.line-index
    c.loop-line.outcomes.items c.loop-line.member t t within c.loop-line.invariant.worked (sees-same t t refl)

pub returns-in_err-reserve-clause-began : goal.returns-in_err-reserve-clause-began
returns-in_err-reserve-clause-began g c =
    let m = g.C.Change.means in
    let d = c.args.self.now.desk.now in
    let makes = g.K.Maker.makes c.args.self.now.crew.now.maker.now d.opening.rules in
    let t = c.loop-line.seat in
    let k = c.loop-line.line-index in
    let within : k ≤ length c.args.lines.now = search rules in
    worked-began m makes d c.args.member.now c.args.seat.now c.args.lines.now k
    c.reserve.new.self.items c.loop-line.member t t within
    (subst (λ l. Worked m makes d (take k c.args.lines.now) c.args.member.now c.args.seat.now l c.loop-line.member t) (sym c.reserve.ensures.items) c.loop-line.invariant.worked) (sees-same t t refl)

pub returns-in_err-outcome-clause-began : goal.returns-in_err-outcome-clause-began
returns-in_err-outcome-clause-began g c =
    let m = g.C.Change.means in
    let d = c.args.self.now.desk.now in
    let makes = g.K.Maker.makes c.args.self.now.crew.now.maker.now d.opening.rules in
    let t = c.loop-line.seat in
    let k = c.loop-line.line-index in
    let within : k ≤ length c.args.lines.now = search rules in
    worked-began m makes d c.args.member.now c.args.seat.now c.args.lines.now k
    c.reserve.new.self.items c.loop-line.member t c.play_line.new.seat within
    (subst (λ l. Worked m makes d (take k c.args.lines.now) c.args.member.now c.args.seat.now l c.loop-line.member t) (sym c.reserve.ensures.items) c.loop-line.invariant.worked) c.play_line.ensures.seat

pub returns-in_err-outcome-clause-serves : goal.returns-in_err-outcome-clause-serves
returns-in_err-outcome-clause-serves g c =
    let d = c.args.self.now.desk.now in
    let i = c.loop-line.invariant in
    let k = c.loop-line.line-index in
    let lines = c.args.lines.now in
    let line = c.line-item.result in
    let rest : drop k lines ≡ line ∷ drop (k + 1) lines = search (rules, drop_more) in
    let own = suits-now c.loop-line.member line (drop (k + 1) lines) (subst (λ l. SuitMember c.loop-line.member l) rest i.suit) in
    subst (λ n. Serves g.C.Change.means d c.play_line.new.seat d.opening.rules n) (sym own.client ∙ i.name) c.play_line.ensures.serves

use Rattle.std.proofs.Common.{◌≡◌, [], All, refl, sym, ◌∙◌, subst}
use Rattle.std.specs.Iterator.Adapters.{zip_second}
use Rattle.std.proofs.lemmas.Iterator.{YieldsList-from_zip}
use Rattle.std.proofs.lemmas.Iterator.Adapters.{YieldsList-from_vec}
use Rattle.std.proofs.lemmas.Iterator.Consumers.{YieldsList-end}
use Rattle.std.proofs.lemmas.List.Elements.{All-push}
use Rattle.pm_workers.proofs.Zipped.{more-of, yields-at, Three, three}
use Rattle.pm_workers.proofs.hiring.hire.Goals as goal

pub loop-member-preserved : goal.loop-member-preserved
loop-member-preserved g c =
    let i = c.loop-member.invariant in
    let is = c.in_ok-push.ensures.items in
    record {
      members = more-of (λ w. w.member) (λ p. p.0.0) _ _ _ _ _ is refl i.members;
      seats = more-of (λ w. w.seat) (λ p. p.0.1) _ _ _ _ _ is refl i.seats;
      lines = more-of (λ w. w.lines) (λ p. p.1) _ _ _ _ _ is refl i.lines;
      none = subst (λ l. All (λ w. w.outcomes.items ≡ []) l) (sym is) (All-push (λ w. w.outcomes.items ≡ []) c.loop-member.workers.items _ i.none c.new.ensures.items);
    }

-- the loop yielded all
yielded : (g : _) (c : goal.After-drop-member-iterator-4 g) → Three c.args.members.items c.args.seats.items c.args.lines.items c.loop-member.yielded
yielded g c =
    let z = c.zip.result in
    let y = c.zip-member-items.result in
    let one = YieldsList-from_zip {s = z}
    (yields-at c.zip.ensures.first (YieldsList-from_vec {s = c.into_iter.result} c.args.members.items c.into_iter.ensures.rest (c.into_iter.ensures.len ∙ c.args.members.ok.0)))
    (YieldsList-from_vec {s = zip_second z} c.args.seats.items c.zip.ensures.second.0 (c.zip.ensures.second.1 ∙ c.args.seats.ok.0)) in
    let two = YieldsList-from_zip {s = y} (yields-at c.zip-member-items.ensures.first one)
    (YieldsList-from_vec {s = zip_second y} c.args.lines.items c.zip-member-items.ensures.second.0 (c.zip-member-items.ensures.second.1 ∙ c.args.lines.ok.0)) in
    let end = YieldsList-end (yields-at c.into_iter-member-iterator.ensures.into_iter_gives two) c.loop-member.yielded c.loop-member.member-iterator c.loop-member.yielded_by
    c.next.result c.next.new.self c.in-None.is c.next.ensures.steps in
    three c.args.members.items c.args.seats.items c.args.lines.items c.loop-member.yielded
    (sym c.args.seats.ok.0 ∙ c.requires.seats ∙ c.args.members.ok.0) (sym c.args.lines.ok.0 ∙ c.requires.lines ∙ c.args.members.ok.0) end.0

pub returns-clause-members : goal.returns-clause-members
returns-clause-members g c = c.loop-member.invariant.members ∙ (yielded g c).first

pub returns-clause-seats : goal.returns-clause-seats
returns-clause-seats g c = c.loop-member.invariant.seats ∙ (yielded g c).second

pub returns-clause-lines : goal.returns-clause-lines
returns-clause-lines g c = c.loop-member.invariant.lines ∙ (yielded g c).third

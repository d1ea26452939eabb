use Rattle.std.proofs.Common.{◌≡◌, [], All, map, refl, sym, ap, ◌∙◌, subst}
use Rattle.std.specs.Iterator.Adapters.{zip_second}
use Rattle.std.specs.List.{zip}
use Rattle.std.proofs.lemmas.Iterator.{YieldsList-from_zip}
use Rattle.std.proofs.lemmas.Iterator.Adapters.{YieldsList-from_vec}
use Rattle.std.proofs.lemmas.Iterator.Consumers.{YieldsList-end}
use Rattle.std.proofs.lemmas.List.Elements.{All-push}
use Rattle.std.proofs.lemmas.Slice.Zip.{firsts-zip, seconds-zip}
use Rattle.pm_workers.proofs.Unused.{same-items}
use Rattle.pm_workers.proofs.Zipped.{more-of, yields-at}
use Rattle.pm_rooms.proofs.sharing.introduce.Goals as goal

pub loop-stands-preserved : goal.loop-stands-preserved
loop-stands-preserved g c =
    let i = c.loop-stands.invariant in
    let is = c.in_ok-push.ensures.items in
    record {
      stands = more-of (λ p. p.stands) (λ p. p.0) _ _ _ _ _ is refl i.stands;
      lines = more-of (λ p. p.lines) (λ p. p.1) _ _ _ _ _ is refl i.lines;
      none = subst (λ l. All (λ p. p.outcomes.items ≡ []) l) (sym is) (All-push (λ p. p.outcomes.items ≡ []) c.loop-stands.people.items _ i.none c.new.ensures.items);
    }

-- the loop yielded all
yielded : (g : _) (c : goal.After-drop-stands-iterator-3 g) → c.loop-stands.yielded ≡ zip c.args.stands.items c.args.lines.items
yielded g c =
    let z = c.zip-stands-items.result in
    let one = YieldsList-from_zip {s = z}
    (yields-at c.zip-stands-items.ensures.first (YieldsList-from_vec {s = c.into_iter.result} c.args.stands.items c.into_iter.ensures.rest (c.into_iter.ensures.len ∙ c.args.stands.ok.0)))
    (YieldsList-from_vec {s = zip_second z} c.args.lines.items c.zip-stands-items.ensures.second.0 (c.zip-stands-items.ensures.second.1 ∙ c.args.lines.ok.0)) in
    let end = YieldsList-end (yields-at c.into_iter-stands-iterator.ensures.into_iter_gives one) c.loop-stands.yielded c.loop-stands.stands-iterator c.loop-stands.yielded_by
    c.next.result c.next.new.self c.in-None.is c.next.ensures.steps in
    sym (same-items c.loop-stands.yielded) ∙ end.0

pub returns-clause-stands : goal.returns-clause-stands
returns-clause-stands g c =
    c.loop-stands.invariant.stands ∙ ap (map (λ p. p.0)) (yielded g c) ∙ firsts-zip c.args.stands.items c.args.lines.items (sym c.args.lines.ok.0 ∙ c.requires ∙ c.args.stands.ok.0)

pub returns-clause-lines : goal.returns-clause-lines
returns-clause-lines g c =
    c.loop-stands.invariant.lines ∙ ap (map (λ p. p.1)) (yielded g c) ∙ seconds-zip c.args.stands.items c.args.lines.items (sym c.args.lines.ok.0 ∙ c.requires ∙ c.args.stands.ok.0)

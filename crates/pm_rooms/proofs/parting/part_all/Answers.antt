use Rattle.std.proofs.Common.{◌++◌, [], ◌∷◌, length, sym, ◌∙◌, subst, arith}
use Rattle.std.proofs.lemmas.Iterator.Adapters.{YieldsList-from_vec}
use Rattle.std.proofs.lemmas.Iterator.Consumers.{YieldsList-end, YieldsList-turn}
use Rattle.pm_workers.proofs.Unused.{same-items}
use Rattle.pm_rooms.specs.Handed.{Matched}
use Rattle.pm_rooms.specs.Parted.{CanPart, IsParted}
use Rattle.pm_rooms.proofs.Dealt.{matched-push}
use Rattle.pm_rooms.proofs.parting.part_all.Goals as goal

pub part-requires : goal.part-requires
part-requires g c =
    let turn = YieldsList-turn (YieldsList-from_vec {s = c.into_iter-person-iterator.result} c.args.people.items (cc) (omega arith)) c.loop-person.yielded c.loop-person.person-iterator c.loop-person.yielded_by c.next.result c.next.new.self c.in-Some.person c.in-Some.is c.next.ensures.steps in
    subst (λ x. CanPart x) (sym turn.1) (c.requires (length c.loop-person.yielded) c.in-Some.person turn.0)

pub loop-person-preserved : goal.loop-person-preserved
loop-person-preserved g c =
    subst (λ l. Matched (λ p w. IsParted p w.items) (c.loop-person.yielded ++ c.in-Some.person ∷ []) l) (sym c.in_ok-push.ensures.items)
    (matched-push (λ p w. IsParted p w.items) c.loop-person.yielded c.loop-person.all.items c.in-Some.person c.in_ok-part.field-0 c.loop-person.invariant c.in_ok-part.ensures)

pub returns : goal.returns
returns g c =
    let t = YieldsList-end (YieldsList-from_vec {s = c.into_iter-person-iterator.result} c.args.people.items (cc) (omega arith)) c.loop-person.yielded c.loop-person.person-iterator c.loop-person.yielded_by c.next.result c.next.new.self c.in-None.is c.next.ensures.steps in
    subst (λ l. Matched (λ p w. IsParted p w.items) l c.loop-person.all.items) (sym (same-items c.loop-person.yielded) ∙ t.0) c.loop-person.invariant

use Rattle.std.proofs.Common.{refl, sym, ap, ◌∙◌, arith}
use Rattle.std.specs.Prelude.{is_some}
use Rattle.json.specs.Json as json
use Rattle.json.specs.Value.{value_view, members_view}
use Rattle.json.proofs.Trees.{view-Object}
use Rattle.serde_json.specs.Read.{of_json}
use Rattle.pm_json.proofs.Walks.{items-next, items-stop, items-end, members-next, members-stop, members-end, object-some}
use Rattle.pm_json.proofs.whole.+whole.Goals as goal

pub are_whole-loop-item-init : goal.are_whole-loop-item-init
are_whole-loop-item-init t c = refl

pub are_whole-returns-then-not-is_whole : goal.are_whole-returns-then-not-is_whole
are_whole-returns-then-not-is_whole t c = sym (items-stop c.args.items.now c.loop-item.item-index c.item-item.result c.loop-item-test.true c.item-item.is (sym c.if-not-is_whole.ensures) c.loop-item.invariant)

pub are_whole-loop-item-preserved : goal.are_whole-loop-item-preserved
are_whole-loop-item-preserved t c = items-next c.args.items.now c.loop-item.item-index c.item-item.result c.loop-item-test.true c.item-item.is (sym c.if-not-is_whole.ensures) c.loop-item.invariant

pub are_whole-returns : goal.are_whole-returns
are_whole-returns t c = sym (items-end c.args.items.now c.loop-item.item-index (omega (arith, c.loop-item-test.false)) c.loop-item.invariant)

pub have_whole-loop-member-init : goal.have_whole-loop-member-init
have_whole-loop-member-init t c = refl

pub have_whole-returns-then-not-is_whole : goal.have_whole-returns-then-not-is_whole
have_whole-returns-then-not-is_whole t c = sym (members-stop c.args.members.now c.loop-member.member-index c.member-item.result c.loop-member-test.true c.member-item.is (sym c.if-not-is_whole.ensures) c.loop-member.invariant)

pub have_whole-loop-member-preserved : goal.have_whole-loop-member-preserved
have_whole-loop-member-preserved t c = members-next c.args.members.now c.loop-member.member-index c.member-item.result c.loop-member-test.true c.member-item.is (sym c.if-not-is_whole.ensures) c.loop-member.invariant

pub have_whole-returns : goal.have_whole-returns
have_whole-returns t c = sym (members-end c.args.members.now c.loop-member.member-index (omega (arith, c.loop-member-test.false)) c.loop-member.invariant)

pub is_whole-returns-in-Object : goal.is_whole-returns-in-Object
is_whole-returns-in-Object t c =
    let seen = ap value_view c.in-Object.is ∙ (view-Object c.in-Object.members ∙ ap (λ es. json.object (members_view es)) (sym c.deref-in-Object.ensures.value)) in
    c.have_whole.ensures ∙ object-some (members_view c.deref-in-Object.result.now) ∙ sym (ap (λ j. is_some (of_json j)) seen)

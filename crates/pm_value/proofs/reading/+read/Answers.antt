use Rattle.std.proofs.Common.{◌≡◌, ◌++◌, subst, sym, ap, ◌∙◌, append-nil, arith, rules}
use Rattle.std.proofs.lemmas.Grind.{common_steps}
use Rattle.pm_value.specs.Views.{field_pairs}
use Rattle.pm_value.specs.Kept.{InOrder}
use Rattle.pm_value.specs.Reading.{list_at, pairs_at}
use Rattle.pm_value.proofs.Fronts.{pairs}
use Rattle.pm_value.proofs.Names.{names_of, keys, keys-sorted}
use Rattle.serde_json.specs.View.{items_view, members_view}
use Rattle.pm_value.proofs.SameJson.{list-read, list-whole, front, front-more, front-all}
use Rattle.pm_value.proofs.Keeping.{value-read, field-read}
use Rattle.pm_value.proofs.reading.+read.Goals as goal

pub list_at-loop-item-preserved : goal.list_at-loop-item-preserved
unfolding list_at
list_at-loop-item-preserved t c =
    (value-read c.loop-item.values.items c.push.new.self.items c.in_ok-value_at.field-0 (search rules) c.loop-item.invariant.0 c.in_ok-value_at.ensures.kept, grind (arith, common_steps), list-read c.loop-item.values.items c.push.new.self.items c.in_ok-value_at.field-0 c.args.items.now c.loop-item.item-index c.item-item.result (items_view c.args.items.now) (search rules) c.loop-item-test.true c.item-item.is c.in_ok-value_at.ensures.same c.loop-item.invariant.2)

pub pairs_at-loop-name-preserved : goal.pairs_at-loop-name-preserved
unfolding pairs_at
pairs_at-loop-name-preserved t c =
    (field-read c.loop-name.fields.items c.push_field.new.fields.items _ _ c.in_ok-push_field.ensures c.loop-name.invariant.0 c.in_ok-value.ensures.kept, grind (arith, common_steps), grind (arith, common_steps, pairs), grind (arith, common_steps, front-more))

-- the names of the fields that are read are the keys
all-read : goal.pairs_at-returns-clause-sorted
all-read t c =
    let l = c.loop-name in
    let all : keys c.args.members.now.entries ≡ names_of l.fields.items =
    sym l.invariant.1 ∙ ap (λ es. names_of l.fields.items ++ keys es) c.in-None.ensures.steps.0 ∙ append-nil (names_of l.fields.items) in
    subst InOrder all (keys-sorted c.args.members.now.entries c.iter-name-items.ensures.ordered)

pub pairs_at-returns-clause-sorted : goal.pairs_at-returns-clause-sorted
pairs_at-returns-clause-sorted t c = all-read t c

pub list_at-returns-clause-same : goal.list_at-returns-clause-same
list_at-returns-clause-same t c = list-whole c.loop-item.values.items c.args.items.now c.loop-item.item-index c.loop-item-test.false c.loop-item.invariant.2

pub pairs_at-returns-clause-same : goal.pairs_at-returns-clause-same
pairs_at-returns-clause-same t c =
    let l = c.loop-name in
    sym (front-all (field_pairs l.fields.items) (all-read t c)) ∙ sym (ap (λ es. front (field_pairs l.fields.items) (members_view es)) c.in-None.ensures.steps.0) ∙ l.invariant.3

use Rattle.std.proofs.Common.{◌≡◌, ◌++◌, ◌∷◌, [], ◌-◌, map, refl, ◌<◌, length, arith, rules, ap, ◌∙◌}
use Rattle.std.proofs.lemmas.List.{map-append}
use Rattle.serde_json.specs.Data.{put}
use Rattle.serde_json.specs.View.{view, members_view}
use Rattle.pm_value.specs.Plain.{plains_of}
use Rattle.pm_value.specs.Views.{plain, plains}
use Rattle.pm_value.specs.Writing.{written, items_written}
use Rattle.pm_value.proofs.Members.{item-falls, field-falls, list-step, list-end, put_before, pairs-end}
use Rattle.pm_value.proofs.Keeping.{value-before, values-end, field-before, fields-end}
use Rattle.pm_value.proofs.writing.+write.Goals as goal

pub items_json-json_of-requires : goal.items_json-json_of-requires
items_json-json_of-requires t c =
    let within : c.loop-value.value-index < length c.args.values.now = omega arith in
    (omega (arith, c.decreases, item-falls c.args.values.now c.loop-value.value-index c.value-item.result within c.value-item.is), tt)

pub items_json-loop-value-preserved : goal.items_json-loop-value-preserved
unfolding items_written
items_json-loop-value-preserved t c =
    let v = c.in_ok-json_of.field-0 in
    let items : map view c.push.new.self.items ≡ map view c.loop-value.items.items ++ view v ∷ [] = ap (map view) c.in_ok-push.ensures.items ∙ map-append view _ (v ∷ []) in (
      rw items (list-step (λ vs. items_written (plains_of (plains vs))) (λ w. written (plain w)) (λ x xs. refl) (map view c.loop-value.items.items) c.args.values.now c.loop-value.value-index c.value-item.result (view v) (items_written (plains_of (plains c.args.values.now))) (omega arith) c.value-item.is (search rules) c.loop-value.invariant.0),
      λ k. c.loop-value.invariant.1 (value-before c.args.values.now c.loop-value.value-index c.value-item.result (omega arith) c.value-item.is c.in_ok-json_of.ensures.kept k),
    )

pub items_json-returns-clause-written : goal.items_json-returns-clause-written
unfolding items_written
items_json-returns-clause-written t c =
    list-end (λ vs. items_written (plains_of (plains vs))) refl (map view c.loop-value.items.items) c.args.values.now c.loop-value.value-index (items_written (plains_of (plains c.args.values.now))) (omega arith) c.loop-value.invariant.0

pub items_json-returns-clause-kept : goal.items_json-returns-clause-kept
items_json-returns-clause-kept t c = c.loop-value.invariant.1 (values-end c.args.values.now c.loop-value.value-index (omega arith))

pub fields_json-loop-i-init : goal.fields_json-loop-i-init
fields_json-loop-i-init t c = (omega arith, pairs-end c.args.fields.now _ _ (omega arith) (search rules), fields-end c.args.fields.now _ (omega arith))

pub fields_json-json_of-requires : goal.fields_json-json_of-requires
fields_json-json_of-requires t c =
    let within : c.loop-i.i - 1 < length c.args.fields.now = omega arith in
    (omega (arith, c.decreases, field-falls c.args.fields.now (c.loop-i.i - 1) c.index-fields-i.result within c.index-fields-i.is), tt)

pub fields_json-loop-i-preserved : goal.fields_json-loop-i-preserved
fields_json-loop-i-preserved t c =
    let f = c.index-fields-i.result in
    let json = view c.in_ok-json.json in
    let wrote : members_view c.put.new.map.entries ≡ put f.name json (members_view c.loop-i.map.entries) = search rules in (
      search rules,
      wrote ∙ put_before c.args.fields.now (c.loop-i.i - 1) c.loop-i.i f json (members_view c.loop-i.map.entries) (omega arith) c.index-fields-i.is (omega arith) c.in_ok-json.ensures.written c.loop-i.invariant.1,
      field-before c.args.fields.now (c.loop-i.i - 1) c.loop-i.i f (omega arith) c.index-fields-i.is (omega arith) c.in_ok-json.ensures.kept c.loop-i.invariant.2,
    )

use Rattle.std.proofs.Common.{sym, ap, ◌∙◌, arith}
use Rattle.std.specs.Prelude.{Some, option_map}
use Rattle.json.specs.Json as json
use Rattle.json.specs.Value.{value_view, members_view}
use Rattle.json.proofs.Trees.{view-Object}
use Rattle.serde_json.specs.Data.{object}
use Rattle.serde_json.specs.Read.{of_json, of_members}
use Rattle.serde_json.specs.View.{view, members_view as map_view}
use Rattle.serde_json.proofs.Views.{view-Object as map-Object}
use Rattle.pm_json.proofs.Walks.{begins-none, begins-more, begins-stop, begins-end, leads-more, leads-stop, leads-end}
use Rattle.pm_json.proofs.owned.+owned.Goals as goal

pub owned-returns-in-Some-2 : goal.owned-returns-in-Some-2
owned-returns-in-Some-2 t c =
    let js = members_view c.deref-in-Object.result.now in
    let seen = ap value_view c.in-Object.is ∙ (view-Object c.in-Object.members ∙ ap (λ es. json.object (members_view es)) (sym c.deref-in-Object.ensures.value)) in
    let read = ap (option_map (λ m. map_view m.entries)) (sym c.in-Some-2.is) ∙ c.in_ok-map-in-Object.ensures in
    ap Some (map-Object c.in-Some-2.map) ∙ ap (option_map object) read ∙ sym (ap of_json seen)

pub owned_items-loop-item-init : goal.owned_items-loop-item-init
owned_items-loop-item-init t c = begins-none c.args.items.now c.new-values.result.items c.new-values.ensures.items

pub owned_items-returns-in-None : goal.owned_items-returns-in-None
owned_items-returns-in-None t c =
    let l = c.loop-item in
    sym (begins-stop c.args.items.now l.item-index c.item-item.result l.values.items c.loop-item-test.true c.item-item.is (sym (ap (option_map view) (sym c.in-None.is) ∙ c.in_ok-value.ensures)) l.invariant)

pub owned_items-loop-item-preserved : goal.owned_items-loop-item-preserved
owned_items-loop-item-preserved t c =
    let l = c.loop-item in
    begins-more c.args.items.now l.item-index c.item-item.result l.values.items c.push.new.self.items c.in-Some.value c.loop-item-test.true c.item-item.is (sym (ap (option_map view) (sym c.in-Some.is) ∙ c.in_ok-value.ensures))
    c.in_ok-push-in-Some.ensures.items l.invariant

pub owned_items-returns : goal.owned_items-returns
owned_items-returns t c =
    let l = c.loop-item in
    begins-end c.args.items.now l.item-index l.values.items (omega (arith, c.loop-item-test.false)) l.invariant

pub owned_members-loop-member-init : goal.owned_members-loop-member-init
owned_members-loop-member-init t c = ap (λ es. of_members (members_view c.args.members.now) (map_view es)) c.new-map.ensures.empty

pub owned_members-returns-in-None : goal.owned_members-returns-in-None
owned_members-returns-in-None t c =
    let l = c.loop-member in
    sym (leads-stop c.args.members.now l.member-index c.member-item.result (map_view l.map.entries) c.loop-member-test.true c.member-item.is (sym (ap (option_map view) (sym c.in-None.is) ∙ c.in_ok-value.ensures)) l.invariant)

pub owned_members-loop-member-preserved : goal.owned_members-loop-member-preserved
owned_members-loop-member-preserved t c =
    let l = c.loop-member in
    leads-more c.args.members.now l.member-index c.member-item.result (view c.in-Some.value) (map_view l.map.entries) (map_view c.put.new.map.entries) c.loop-member-test.true c.member-item.is
    (sym (ap (option_map view) (sym c.in-Some.is) ∙ c.in_ok-value.ensures)) c.in_ok-put-in-Some.ensures.ok l.invariant

pub owned_members-returns : goal.owned_members-returns
owned_members-returns t c =
    let l = c.loop-member in
    leads-end c.args.members.now l.member-index (map_view l.map.entries) (omega (arith, c.loop-member-test.false)) l.invariant

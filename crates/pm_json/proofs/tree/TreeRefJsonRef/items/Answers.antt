use Rattle.std.proofs.Common.{◌≡◌, ◌++◌, map, refl, sym, ap, ◌∙◌, subst, arith}
use Rattle.std.specs.Prelude.{Some}
use Rattle.json.specs.Json as json
use Rattle.json.specs.Value.{value_view, items_view}
use Rattle.json.proofs.Trees.{view-Array}
use Rattle.serde_json.specs.Find.{as_array}
use Rattle.serde_json.specs.View.{items_of}
use Rattle.pm_json.specs.Members.{data_of}
use Rattle.pm_json.proofs.Lists.{next-more, all-done}
use Rattle.pm_json.proofs.Trees.{IsWhole, tree_data, ref_data, item-whole, array-whole, array-items}
use Rattle.pm_json.proofs.tree.TreeRefJsonRef.items.Goals as goal

pub loop-tree-init : goal.loop-tree-init
loop-tree-init c = ap (λ l. map ref_data l ++ map tree_data c.deref-tree-items.result.now) c.in_ok-refs.ensures.items

pub invariant_of-push : goal.invariant_of-push
invariant_of-push c =
    let vs = c.deref-tree-items.result.now in
    let seen : value_view c.args.self.tree.now ≡ json.array (items_view vs) = ap value_view c.in-Array.is ∙ (view-Array c.in-Array.items ∙ ap (λ l. json.array (items_view l)) (sym c.deref-tree-items.ensures.value)) in
    record { whole = item-whole vs c.loop-tree.tree-index c.tree-item.result c.loop-tree-test.true c.tree-item.is (array-whole (items_view vs) (subst IsWhole seen c.args.self.whole)) }

pub loop-tree-preserved : goal.loop-tree-preserved
loop-tree-preserved c =
    let l = c.loop-tree in
    let vs = c.deref-tree-items.result.now in
    next-more ref_data tree_data l.refs.items c.push.new.self.items _ vs l.tree-index c.tree-item.result (map tree_data vs) c.loop-tree-test.true c.tree-item.is c.in_ok-push.ensures.items refl l.invariant

pub returns : goal.returns
returns c =
    let l = c.loop-tree in
    let vs = c.deref-tree-items.result.now in
    let seen : value_view c.args.self.tree.now ≡ json.array (items_view vs) = ap value_view c.in-Array.is ∙ (view-Array c.in-Array.items ∙ ap (λ l. json.array (items_view l)) (sym c.deref-tree-items.ensures.value)) in
    ap (λ xs. Some (items_of xs)) (all-done ref_data tree_data l.refs.items vs l.tree-index (map tree_data vs) (omega (arith, c.loop-tree-test.false)) l.invariant)
    ∙ array-items vs (subst IsWhole seen c.args.self.whole) ∙ ap (λ j. as_array (data_of j)) (sym seen)

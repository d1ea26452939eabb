use Rattle.std.proofs.Common.{◌≡◌, ◌++◌, map, append-nil, refl, sym, ap, ◌∙◌}
use Rattle.std.specs.Prelude.{Some}
use Rattle.json.specs.Json as json
use Rattle.json.specs.Value.{value_view, members_view}
use Rattle.json.proofs.Trees.{view-Object}
use Rattle.serde_json.specs.Find.{as_object}
use Rattle.pm_json.specs.Members.{members_of, data_of}
use Rattle.pm_json.proofs.Lists.{one-more}
use Rattle.pm_json.proofs.Members.{pair_of_tree, tree-sorted, tree-names}
use Rattle.pm_json.proofs.Trees.{object-members}
use Rattle.pm_json.proofs.tree.TreeRefJsonRef.members.Goals as goal

pub loop-key-init : goal.loop-key-init
loop-key-init c = ap (λ l. map pair_of_tree l ++ map pair_of_tree c.into_iter-key-iterator.result) c.in_ok-refs.ensures.items

pub loop-key-preserved : goal.loop-key-preserved
loop-key-preserved c =
    let l = c.loop-key in
    let before = ap (λ es. map pair_of_tree l.refs.items ++ map pair_of_tree es) (sym c.in-Some.ensures.steps) ∙ l.invariant in
    one-more pair_of_tree pair_of_tree l.refs.items c.push.new.self.items (c.in-Some.key.now, c.in-Some.value.now) (c.in-Some.key.now, c.in-Some.value.now) c.next.new.self (map pair_of_tree c.into_iter-key-iterator.result)
    c.in_ok-push.ensures.items refl before

-- all entries of the map were gone through
all-read : (c : goal.After-drop-map-2) → map pair_of_tree c.loop-key.refs.items ≡ map pair_of_tree c.in_ok-map.map.entries
all-read c =
    let l = c.loop-key in
    sym (append-nil (map pair_of_tree l.refs.items)) ∙ ap (λ es. map pair_of_tree l.refs.items ++ map pair_of_tree es) (sym c.in-None.ensures.steps.0) ∙ l.invariant
    ∙ ap (map pair_of_tree) (c.into_iter-key-iterator.ensures.into_iter_gives ∙ c.iter-key-items.ensures.rest)

pub returns-clause-members : goal.returns-clause-members
returns-clause-members c =
    let js = members_view c.deref.result.now in
    let seen : value_view c.args.self.now.tree.now ≡ json.object js = ap value_view c.in-Object.is ∙ (view-Object c.in-Object.members ∙ ap (λ es. json.object (members_view es)) (sym c.deref.ensures.value)) in
    ap (λ l. Some (members_of l)) (all-read c) ∙ object-members js (members_of (map pair_of_tree c.in_ok-map.map.entries)) c.in_ok-map.ensures ∙ ap (λ j. as_object (data_of j)) (sym seen)

pub returns-clause-ordered : goal.returns-clause-ordered
returns-clause-ordered c =
    tree-names c.loop-key.refs.items c.in_ok-map.map.entries (all-read c) (tree-sorted c.in_ok-map.map.entries c.iter-key-items.ensures.ordered)

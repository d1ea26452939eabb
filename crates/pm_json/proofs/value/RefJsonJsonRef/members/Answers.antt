use Rattle.std.proofs.Common.{◌≡◌, ◌++◌, map, append-nil, sym, ap, ◌∙◌}
use Rattle.std.specs.Prelude.{Some}
use Rattle.serde_json.specs.View.{view}
use Rattle.pm_value.proofs.Names.{keys-sorted}
use Rattle.pm_json.specs.Members.{members_of}
use Rattle.pm_json.proofs.Lists.{one-more}
use Rattle.pm_json.proofs.Members.{pair_of, pair_of_ref, pairs-members, names-same}
use Rattle.pm_json.proofs.value.RefJsonJsonRef.members.Goals as goal

pub loop-key-init : goal.loop-key-init
loop-key-init c = ap (λ l. map pair_of_ref l ++ map pair_of c.into_iter-key-iterator.result) c.in_ok-refs.ensures.items

pub loop-key-preserved : goal.loop-key-preserved
loop-key-preserved c =
    let l = c.loop-key in
    let before = ap (λ es. map pair_of_ref l.refs.items ++ map pair_of es) (sym c.in-Some-2.ensures.steps) ∙ l.invariant in
    one-more pair_of_ref pair_of l.refs.items c.push.new.self.items (c.as_str.result, c.in-Some-2.value) (c.in-Some-2.key.now, c.in-Some-2.value.now) c.next.new.self (map pair_of c.into_iter-key-iterator.result)
    c.in_ok-push.ensures.items (ap (λ k. (k, view c.in-Some-2.value.now)) c.as_str.ensures.value) before

-- all entries of the map were gone through
all-read : (c : goal.In-None) → map pair_of_ref c.loop-key.refs.items ≡ map pair_of c.in-Some.map.now.entries
all-read c =
    let l = c.loop-key in
    sym (append-nil (map pair_of_ref l.refs.items)) ∙ ap (λ es. map pair_of_ref l.refs.items ++ map pair_of es) (sym c.in-None.ensures.steps.0) ∙ l.invariant
    ∙ ap (map pair_of) (c.into_iter-key-iterator.ensures.into_iter_gives ∙ c.iter-key-items.ensures.rest)

pub returns-clause-members : goal.returns-clause-members
returns-clause-members c =
    ap (λ l. Some (members_of l)) (all-read c) ∙ ap Some (pairs-members c.in-Some.map.now.entries) ∙ c.in-Some.ensures

pub returns-clause-ordered : goal.returns-clause-ordered
returns-clause-ordered c =
    names-same c.loop-key.refs.items c.in-Some.map.now.entries (all-read c) (keys-sorted c.in-Some.map.now.entries c.iter-key-items.ensures.ordered)

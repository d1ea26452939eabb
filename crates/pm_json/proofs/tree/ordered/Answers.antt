use Rattle.std.proofs.Common.{map, sym, ap, ◌∙◌, arith}
use Rattle.json.specs.Value.{value_view, members_view}
use Rattle.serde_json.specs.Read.{of_members}
use Rattle.pm_json.specs.Members.{members_of, data_of}
use Rattle.pm_json.proofs.Members.{pair_of_tree, tree-insert}
use Rattle.pm_json.proofs.Trees.{data-is}
use Rattle.pm_json.proofs.Walks.{leads-more, leads-end, member-whole}
use Rattle.pm_json.proofs.tree.ordered.Goals as goal

pub loop-member-init : goal.loop-member-init
loop-member-init c = ap (λ es. of_members (members_view c.args.members.now) (members_of (map pair_of_tree es))) c.new-map.ensures.empty

pub invariant_of-insert : goal.invariant_of-insert
invariant_of-insert c =
    let l = c.loop-member in
    record { whole = member-whole c.args.members.now l.member-index c.member-item.result (members_of (map pair_of_tree l.map.entries)) c.loop-member-test.true c.member-item.is c.requires l.invariant }

pub loop-member-preserved : goal.loop-member-preserved
loop-member-preserved c =
    let l = c.loop-member in
    let e = c.member-item.result in
    let ms = members_of (map pair_of_tree l.map.entries) in
    let whole = member-whole c.args.members.now l.member-index e ms c.loop-member-test.true c.member-item.is c.requires l.invariant in
    leads-more c.args.members.now l.member-index e (data_of (value_view e.1)) ms (members_of (map pair_of_tree c.insert.new.self.entries)) c.loop-member-test.true c.member-item.is (data-is (value_view e.1) whole)
    (ap (λ es. members_of (map pair_of_tree es)) c.in_ok-insert.ensures.entries ∙ tree-insert l.map.entries _ _) l.invariant

pub returns : goal.returns
returns c =
    let l = c.loop-member in
    sym (leads-end c.args.members.now l.member-index (members_of (map pair_of_tree l.map.entries)) (omega (arith, c.loop-member-test.false)) l.invariant)

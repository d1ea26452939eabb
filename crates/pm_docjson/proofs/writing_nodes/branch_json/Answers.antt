use Rattle.std.proofs.Common.{◌≡◌, ℕ, List, subst}
use Rattle.std.specs.Prelude.{Some}
use Rattle.serde_json.proofs.Views.{view-Object}
use Rattle.serde_json.specs.View.{items_view, members_view}
use Rattle.pm_schema.specs.Names.{place_of}
use Rattle.pm_schema.specs.Types.{names_of_nodes}
use Rattle.pm_docjson.proofs.NodesAgain.{branch-put}
use Rattle.pm_docjson.proofs.writing_nodes.branch_json.Goals as goal

pub returns-clause-written : goal.returns-clause-written
returns-clause-written c =
    branch-put c.args.schema.now.spec c.args.kind c.args.attrs.now c.args.marks.now c.node_name-name.result.now (items_view c.args.content.items) (items_view c.in_ok-marks.marks.items) _ (members_view c.in_ok-map.map.entries) (members_view c.put_list.new.map.entries) (members_view c.put_list-2.new.map.entries) (members_view c.put_attrs.new.map.entries)
    c.node_name-name.ensures.name c.in_ok-map.ensures c.in_ok-marks.ensures.written c.in_ok-put_list.ensures c.in_ok-put_list-2.ensures c.in_ok-put_attrs.ensures.put (view-Object c.put_attrs.new.map)

pub returns-clause-named : goal.returns-clause-named
returns-clause-named c = λ inside. subst (λ (n : List ℕ). place_of n (names_of_nodes c.args.schema.now.spec) ≡ Some c.args.kind) c.node_name-name.ensures.name (c.node_name-name.ensures.found inside)

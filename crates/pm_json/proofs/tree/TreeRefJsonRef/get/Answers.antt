use Rattle.std.proofs.Common.{sym, ap, ◌∙◌}
use Rattle.std.specs.Prelude.{option_map}
use Rattle.json.specs.Value.{value_view}
use Rattle.pm_json.specs.Members.{data_of}
use Rattle.pm_json.proofs.Trees.{get-whole, get-is}
use Rattle.pm_json.proofs.tree.TreeRefJsonRef.get.Goals as goal

pub invariant_of-result : goal.invariant_of-result
invariant_of-result c = record { whole = get-whole c.args.key.now (value_view c.args.self.tree.now) (value_view c.in-Some.tree.now) c.args.self.whole (sym c.in-Some.ensures) }

pub returns-in-Some : goal.returns-in-Some
returns-in-Some c = ap (option_map data_of) c.in-Some.ensures ∙ get-is c.args.key.now (value_view c.args.self.tree.now) c.args.self.whole

pub returns-in-None : goal.returns-in-None
returns-in-None c = ap (option_map data_of) c.in-None.ensures ∙ get-is c.args.key.now (value_view c.args.self.tree.now) c.args.self.whole

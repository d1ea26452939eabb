use Rattle.std.proofs.Common.{subst}
use Rattle.pm_schema.specs.Types.{node_at}
use Rattle.pm_schema.specs.Attrs.{AreValues, pairs_of}
use Rattle.pm_node.proofs.FilledLaws.{values-defaults}
use Rattle.pm_fit.proofs.nodes.default_attrs.Goals as goal

pub returns-in-Ok : goal.returns-in-Ok
returns-in-Ok c =
    let attrs = (node_at c.args.schema.now.spec c.args.kind).attrs in
    values-defaults attrs c.in-Ok.attrs (subst (λ given. AreValues attrs (pairs_of given) c.in-Ok.attrs) c.new-2.ensures.items c.in-Ok.ensures.values)

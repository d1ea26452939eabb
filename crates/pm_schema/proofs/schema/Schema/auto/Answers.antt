use Rattle.std.proofs.Common.{◌≡◌, ◌<◌, ◌∙◌, List, length, get_or, ap, sym, subst, arith}
use Rattle.pm_auto.specs.declared.auto.Auto.{Auto}
use Rattle.pm_schema.specs.Types.{node_at}
use Rattle.pm_schema.specs.Contents.{Runs}
use Rattle.pm_schema.proofs.Tables.{all_run-at}
use Rattle.pm_schema.proofs.schema.Schema.auto.Goals as goal

pub returns-clause-runs : goal.returns-clause-runs
returns-clause-runs c =
    let l : c.args.kind < length c.args.self.now.autos = omega (arith, c.args.self.now.full, c.requires) in
    let e : c.index-as_slice-kind.result ≡ get_or c.args.self.now.autos c.args.kind c.index-as_slice-kind.result = c.index-as_slice-kind.is ∙ ap (λ (xs : List Auto). get_or xs c.args.kind c.index-as_slice-kind.result) c.as_slice.ensures in
    subst (λ (a : Auto). Runs (node_at c.args.self.now.spec c.args.kind).content a) (sym e) (all_run-at c.args.self.now.spec.nodes c.args.self.now.autos c.args.kind c.index-as_slice-kind.result l c.args.self.now.runs)

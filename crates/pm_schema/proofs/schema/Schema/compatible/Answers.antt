use Rattle.std.proofs.Common.{◌≡◌, ◌∙◌, refl, false}
use Rattle.std.specs.Prelude.{◌==◌}
use Rattle.pm_auto.specs.States.{edge_kinds}
use Rattle.pm_auto.specs.Walks.{edges_at}
use Rattle.pm_tokens.specs.Schemas.{share}
use Rattle.pm_schema.specs.Types.{node_at}
use Rattle.pm_schema.specs.Contents.{starts}
use Rattle.pm_schema.specs.Documents.{documents_of}
use Rattle.pm_schema.proofs.Shares.{share-is, not-same}
use Rattle.pm_schema.proofs.schema.Schema.compatible.Goals as goal

pub returns-else-a-b : goal.returns-else-a-b
unfolding documents_of
returns-else-a-b c =
    let r : c.compatible.result ≡ share (edge_kinds (edges_at c.auto.result.now.edges 0)) (edge_kinds (edges_at c.auto-else-a-b.result.now.edges 0)) = share-is c.compatible.result _ _ c.compatible.ensures in
    let f : edge_kinds (edges_at c.auto.result.now.edges 0) ≡ starts (node_at c.args.self.now.spec c.args.a).content = c.auto.ensures.runs.first in
    let g : edge_kinds (edges_at c.auto-else-a-b.result.now.edges 0) ≡ starts (node_at c.args.self.now.spec c.args.b).content = c.auto-else-a-b.ensures.runs.first in
    let n : (c.args.a == c.args.b) ≡ false = not-same c.args.a c.args.b c.if-a-b.false in
    r ∙ rw (f, g, n) refl

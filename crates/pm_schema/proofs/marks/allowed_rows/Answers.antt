use Rattle.std.proofs.Common.{◌≡◌, ◌<◌, ◌∙◌, ap, length, get_or, List, arith}
use Rattle.pm_schema.specs.declared.spec.NodeSpec.{NodeSpec}
use Rattle.pm_schema.proofs.Tables.{run-at}
use Rattle.pm_schema.proofs.marks.allowed_rows.Goals as goal

pub allowed-requires : goal.allowed-requires
allowed-requires c =
    let e : c.index-nodes-k.result ≡ get_or c.args.spec.now.nodes c.loop-k.k c.index-nodes-k.result = c.index-nodes-k.is ∙ ap (λ (ns : List NodeSpec). get_or ns c.loop-k.k c.index-nodes-k.result) c.as_slice-nodes.ensures in
    let l : c.loop-k.k < length c.args.autos.now = omega (arith, c.requires.full, ap length c.as_slice-nodes.ensures, c.loop-k-test.true) in
    run-at c.args.spec.now.nodes c.args.autos.now c.loop-k.k c.index-nodes-k.result c.index-autos-k.result l c.requires.runs e c.index-autos-k.is

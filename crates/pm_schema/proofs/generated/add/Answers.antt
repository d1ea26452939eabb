use Rattle.std.proofs.Common.{◌≡◌, ◌<◌, length, subst, arith}
use Rattle.pm_schema.specs.declared.spec.NodeSpec.{NodeSpec}
use Rattle.pm_schema.specs.Generated.{nth, IsMade}
use Rattle.pm_schema.proofs.Tables.{run-at, nth-is}
use Rattle.pm_schema.proofs.Rounds.{falses-set, filled-more}
use Rattle.pm_schema.proofs.generated.add.Goals as goal

pub is_made-requires : goal.is_made-requires
is_made-requires c =
    let l : c.args.k < length c.args.autos.now = omega (arith, c.requires.autos, c.requires.within) in
    run-at c.args.nodes.now c.args.autos.now c.args.k c.index-nodes-k.result c.index-autos-k.result l c.requires.runs c.index-nodes-k.is c.index-autos-k.is

pub returns-clause-filled : goal.returns-clause-filled
returns-clause-filled c = λ f.
    let n : c.index-nodes-k.result ≡ nth c.args.nodes.now c.args.k = nth-is c.args.nodes.now c.args.k c.index-nodes-k.result c.requires.within c.index-nodes-k.is in
    let m : IsMade c.index-nodes-k.result c.args.table.now = c.in_ok-made.ensures.0 c.if-not-made.false in
    filled-more c.args.nodes.now c.args.table.now c.args.k c.requires.within (subst (λ (x : NodeSpec). IsMade x c.args.table.now) n m) f

pub returns-clause-fewer : goal.returns-clause-fewer
returns-clause-fewer c =
    let l : c.args.k < length c.args.table.now = omega (arith, c.requires.table, c.requires.within) in
    let less = falses-set c.args.table.now c.args.k l c.if-table-k.false in
    omega (arith, less)

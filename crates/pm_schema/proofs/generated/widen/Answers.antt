use Rattle.std.proofs.Common.{◌≡◌, ◌<◌, length, sym, subst, true, false, arith}
use Rattle.pm_schema.specs.declared.spec.NodeSpec.{NodeSpec}
use Rattle.pm_schema.specs.Generated.{nth, IsMade}
use Rattle.pm_schema.proofs.Tables.{run-at, nth-is}
use Rattle.pm_schema.proofs.Rounds.{round-adds, round-passes}
use Rattle.pm_schema.proofs.generated.widen.Goals as goal
use Rattle.pm_schema.proofs.generated.widen.Goals.{then-not-table-k+in_ok-is_made+then-branch, else-not-table-k, else-not-table-k-via-then-not-table-k+in_ok-is_made+else-branch, else-not-table-k-via-else-not-table-k}

pub is_made-requires : goal.is_made-requires
is_made-requires c =
    let l : c.loop-k.k < length c.args.autos.now = omega (arith, c.requires.autos, c.loop-k-test.true) in
    run-at c.args.nodes.now c.args.autos.now c.loop-k.k c.index-nodes-k.result c.index-autos-k.result l c.requires.runs c.index-nodes-k.is c.index-autos-k.is

pub loop-k-preserved : goal.loop-k-preserved
loop-k-preserved c =
    let l : c.loop-k.k < length c.args.nodes.now = omega (arith, c.loop-k-test.true) in
    elim c.if-not-table-k.branch [
      | then-not-table-k+in_ok-is_made+then-branch w ↦
          let n : w.index-nodes-k.result ≡ nth c.args.nodes.now c.loop-k.k = nth-is c.args.nodes.now c.loop-k.k w.index-nodes-k.result l w.index-nodes-k.is in
          let m : IsMade w.index-nodes-k.result c.loop-k.table = w.in_ok-is_made.ensures.0 w.if-branch.true in
          let m' : IsMade (nth c.args.nodes.now c.loop-k.k) c.loop-k.table = subst (λ (x : NodeSpec). IsMade x c.loop-k.table) n m in
          rw (w.table-is, w.more-is) (round-adds c.args.nodes.now c.args.table.now c.loop-k.table c.loop-k.more c.loop-k.k l w.if-not-table-k.true m' c.loop-k.invariant)
      | else-not-table-k w ↦
          rw (w.table-is, w.more-is) (round-passes c.args.nodes.now c.args.table.now c.loop-k.table c.loop-k.more c.loop-k.k
          (elim w.else-not-table-k.branch [
            | else-not-table-k-via-then-not-table-k+in_ok-is_made+else-branch v ↦
                let n : v.index-nodes-k.result ≡ nth c.args.nodes.now c.loop-k.k = nth-is c.args.nodes.now c.loop-k.k v.index-nodes-k.result l v.index-nodes-k.is in
                λ m. absurd (let e : v.in_ok-is_made.field-0 ≡ true = v.in_ok-is_made.ensures.1 (subst (λ (x : NodeSpec). IsMade x c.loop-k.table) (sym n) m) in let f : v.in_ok-is_made.field-0 ≡ false = v.if-branch.false in cc)
            | else-not-table-k-via-else-not-table-k v ↦ λ m. v.if-not-table-k.false
          ])
          c.loop-k.invariant)
    ]

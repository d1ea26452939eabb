use Rattle.std.proofs.Common.{◌≡◌, ◌+◌, ◌<◌, length, arith, ap, sym, subst}
use Rattle.std.specs.Prelude.{if◌then◌else◌, ◌++◌}
use Rattle.std.proofs.lemmas.List.{append-nil}
use Rattle.std.specs.Arc.{arc_value}
use Rattle.pm_node.specs.Trees.{node_tokens, list_tokens, WholeBody}
use Rattle.pm_node.specs.Chunks.{nodes_of, Follows, Begun}
use Rattle.pm_node.proofs.RunLaws.{part-one, run-room}
use Rattle.pm_node.proofs.WalkLaws.{whole-at, some-at}
use Rattle.pm_node.proofs.ChunkLaws.{begun-none, begun-apart, begun-joined}
use Rattle.pm_node.proofs.chunks.join_first.Goals as goal

pub returns-then-from-to-clause-ok : goal.returns-then-from-to-clause-ok
returns-then-from-to-clause-ok c =
    subst (λ i. Begun (list_tokens (nodes_of c.args.nodes.now)) c.args.source.now c.args.from i c.args.from (nodes_of c.args.nodes.now)) c.if-from-to.true (begun-none c.args.source.now (nodes_of c.args.nodes.now) c.args.from)

pub join_last-requires-clause-whole : goal.join_last-requires-clause-whole
join_last-requires-clause-whole c =
    let xs = c.args.source.now in
    let f = c.args.from in
    let t = c.args.to in
    let x = c.get-child.result.now in
    let lt : f < t = omega (arith, c.requires.order, c.if-from-to.false) in
    subst (λ m. WholeBody m.body) (sym c.deref.ensures) (whole-at xs f x (omega (arith, lt, c.requires.within)) c.get-child.ensures c.requires.each)

pub join_last-requires-clause-some : goal.join_last-requires-clause-some
join_last-requires-clause-some c =
    let xs = c.args.source.now in
    let f = c.args.from in
    let t = c.args.to in
    let x = c.get-child.result.now in
    let lt : f < t = omega (arith, c.requires.order, c.if-from-to.false) in
    subst (λ m. 0 < length (node_tokens m)) (sym c.deref.ensures) (some-at xs f x (omega (arith, lt, c.requires.within)) c.get-child.ensures c.requires.normal)

pub join_last-requires-clause-room : goal.join_last-requires-clause-room
join_last-requires-clause-room c =
    let xs = c.args.source.now in
    let f = c.args.from in
    let t = c.args.to in
    let x = c.get-child.result.now in
    let lt : f < t = omega (arith, c.requires.order, c.if-from-to.false) in
    omega (
      arith,
      c.requires.room,
      ap (λ m. length (node_tokens m)) c.deref.ensures,
      ap (λ z. length (list_tokens z)) (part-one f xs x (omega (arith, lt, c.requires.within)) c.get-child.ensures),
      ap length (append-nil (node_tokens (arc_value x))),
      run-room xs f (f + 1) t (omega arith) (omega (arith, lt)),
    )

pub returns-then-joined-clause-ok : goal.returns-then-joined-clause-ok
returns-then-joined-clause-ok c =
    let xs = c.args.source.now in
    let f = c.args.from in
    let t = c.args.to in
    let x = c.get-child.result.now in
    let lt : f < t = omega (arith, c.requires.order, c.if-from-to.false) in
    let old = list_tokens (nodes_of c.args.nodes.now) in
    let new = nodes_of c.join_last.new.nodes in
    let k = c.in_ok-joined.ensures in
    let tokens = subst (λ b. list_tokens new ≡ (if b then old ++ node_tokens c.deref.result.now else old)) c.if-joined.true k.tokens in
    let ends = subst (λ b. Follows new c.deref.result.now b) c.if-joined.true k.ends in
    begun-joined old xs new f t x c.deref.result.now c.deref.ensures lt c.requires.within c.requires.normal c.get-child.ensures tokens ends

pub returns-clause-ok : goal.returns-clause-ok
returns-clause-ok c =
    let xs = c.args.source.now in
    let f = c.args.from in
    let t = c.args.to in
    let x = c.get-child.result.now in
    let lt : f < t = omega (arith, c.requires.order, c.if-from-to.false) in
    let old = list_tokens (nodes_of c.args.nodes.now) in
    let new = nodes_of c.join_last.new.nodes in
    let k = c.in_ok-joined.ensures in
    let tokens = subst (λ b. list_tokens new ≡ (if b then old ++ node_tokens c.deref.result.now else old)) c.if-joined.false k.tokens in
    let ends = subst (λ b. Follows new c.deref.result.now b) c.if-joined.false k.ends in
    begun-apart old xs new f t x c.deref.result.now c.deref.ensures lt c.requires.within c.get-child.ensures tokens ends

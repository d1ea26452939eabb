use Rattle.std.proofs.Common.{◌≡◌, ◌-◌, length, take, drop, get_or, ap, ◌∙◌, arith, length-drop}
use Rattle.std.proofs.lemmas.Result.{IfOk-weaker}
use Rattle.std.proofs.lemmas.List.{length-take-le}
use Rattle.pm_node.specs.Filled.{around}
use Rattle.pm_fit.specs.Wrappings.{in_nodes}
use Rattle.pm_fit.proofs.HollowLaws.{length-in_nodes, in_nodes-more}
use Rattle.pm_fit.proofs.nodes.+in_nodes.Goals as goal

pub in_node-requires : goal.in_node-requires
in_node-requires t c =
    let ks = c.args.kinds.now in
    let n = length ks - 1 in
    let size : length (take n (drop 1 ks)) ≡ n = length-take-le n (drop 1 ks) (omega (arith, length-drop 1 ks)) in
    omega (arith, c.requires, ap length c.in_ok-inner.ensures, length-in_nodes c.args.schema.now.spec (take n (drop 1 ks)) c.args.content, size, c.if-kinds-eq0.false)

pub returns : goal.returns
returns t c =
    let s = c.args.schema.now.spec in
    let ks = c.args.kinds.now in
    IfOk-weaker c.in_node.result (λ f. f ≡ around s (get_or ks 0 0) c.in_ok-inner.inner) (λ f. f ≡ in_nodes s ks c.args.content)
    (λ f h. h ∙ (ap (around s (get_or ks 0 0)) c.in_ok-inner.ensures ∙ in_nodes-more s ks c.args.content c.if-kinds-eq0.false)) c.in_node.ensures

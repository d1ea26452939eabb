use Rattle.std.proofs.Common.{◌≡◌, length, sym, ◌∙◌, arith}
use Rattle.std.proofs.lemmas.Result.{IfOk-weaker}
use Rattle.pm_auto.specs.Graph.{Is_shortest}
use Rattle.pm_auto.specs.Wraps.{wrap_links, wrap_goals}
use Rattle.pm_fit.specs.Wrappings.{wrapping_of}
use Rattle.pm_fit.proofs.StateLaws.{wrapping-none, wrapping-some}
use Rattle.pm_fit.proofs.wrapping.wrapping.Goals as goal

pub returns-in-Some : goal.returns-in-Some
returns-in-Some c =
    let s = c.args.schema.now in
    let a = c.auto-automaton.result.now in
    let k = c.args.parent in
    let to = c.args.to in
    IfOk-weaker c.wrapping.result (Is_shortest (wrap_links a c.in-Some.state c.autos.result.now c.wrappers.result.now) (wrap_goals a c.in-Some.state to c.autos.result.now) (length c.autos.result.now)) (λ w. w ≡ wrapping_of s k c.args.before.now to)
    (λ w h. wrapping-some s k c.args.before.now to a (omega (arith, c.if-parent-node_count.false, c.node_count.ensures)) c.auto-automaton.ensures.entry c.in-Some.state c.autos.result.now c.wrappers.result.now w (sym c.in-Some.is ∙ c.state_after.ensures.state) c.autos.ensures c.wrappers.ensures h) c.wrapping.ensures

pub returns-in-None : goal.returns-in-None
returns-in-None c =
    wrapping-none c.args.schema.now c.args.parent c.args.before.now c.args.to c.auto-automaton.result.now (omega (arith, c.if-parent-node_count.false, c.node_count.ensures)) c.auto-automaton.ensures.entry (sym c.in-None.is ∙ c.state_after.ensures.state)

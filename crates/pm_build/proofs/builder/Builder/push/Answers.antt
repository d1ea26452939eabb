use Rattle.std.proofs.Common.{◌≡◌, ◌∙◌, ap, arith, ◌+◌, ◌-◌, ◌++◌, length, refl}
use Rattle.std.specs.Arc.{arc_value}
use Rattle.pm_node.specs.Trees.{node_tokens}
use Rattle.pm_build.proofs.FrameLaws.{fed-last, whole-last, within-last}
use Rattle.pm_build.proofs.builder.Builder.push.Goals as goal

pub push-requires : goal.push-requires
push-requires c =
    let fs = c.self.inside.frames.items in
    let v : c.self.inside.frames.len ≡ length fs = c.self.inside.frames.ok.0 in
    let e : (c.len-len.result - 1) + 1 ≡ length fs = omega arith in
    omega (arith, within-last c.self.inside.base fs _ c.index_mut.result.now e c.index_mut.ensures.value, ap length c.self.view_is)

pub invariant_of-self-then-len-gt0 : goal.invariant_of-self-then-len-gt0
invariant_of-self-then-len-gt0 c =
    let fs = c.self.inside.frames.items in
    let v : c.self.inside.frames.len ≡ length fs = c.self.inside.frames.ok.0 in
    let e : (c.len-len.result - 1) + 1 ≡ length fs = omega arith in
    whole-last c.self.inside.base fs _ c.index_mut.result.now _ e c.index_mut.ensures.value c.size.ensures.whole c.self.invariant

pub returns-in_ok-push : goal.returns-in_ok-push
returns-in_ok-push c =
    let fs = c.self.inside.frames.items in
    let v : c.self.inside.frames.len ≡ length fs = c.self.inside.frames.ok.0 in
    let e : (c.len-len.result - 1) + 1 ≡ length fs = omega arith in
    let ts = node_tokens (arc_value c.args.node) in
    fed-last c.self.inside.base fs _ c.index_mut.result.now _ ts e c.index_mut.ensures.value refl c.in_ok-push.ensures.ok ∙ ap (λ z. z ++ ts) c.self.view_is

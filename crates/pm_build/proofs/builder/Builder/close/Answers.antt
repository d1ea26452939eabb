use Rattle.std.proofs.Common.{◌∙◌, ap, arith, ◌++◌, ◌∷◌, length, length-append, [], subst}
use Rattle.std.specs.Arc.{arc_value}
use Rattle.std.proofs.lemmas.Result.{IfOk-equal}
use Rattle.pm_tokens.specs.Tokens.{Close}
use Rattle.pm_tokens.specs.Scan.{unclosed}
use Rattle.pm_node.specs.Trees.{node_tokens}
use Rattle.pm_build.specs.Frames.{frames_tokens, AllWhole}
use Rattle.pm_build.proofs.FrameLaws.{unclosed-fed, length-kinds_up, whole-front, fed-close}
use Rattle.pm_build.proofs.builder.Builder.close.Goals as goal

pub invariant_of-self : goal.invariant_of-self
invariant_of-self c =
    let s = c.in-Some.ensures.items in
    record { at_base = c.self.invariant.at_base; at_frames = (whole-front c.pop.new.self.items c.in-Some.field-0 (subst AllWhole s c.self.invariant.at_frames)).0 }

pub invariant_of-self-in-Some : goal.invariant_of-self-in-Some
invariant_of-self-in-Some c =
    let s = c.in-Some.ensures.items in
    record { at_base = c.self.invariant.at_base; at_frames = (whole-front c.pop.new.self.items c.in-Some.field-0 (subst AllWhole s c.self.invariant.at_frames)).0 }

pub push-requires : goal.push-requires
push-requires c =
    let base = c.self.inside.base in
    let f = c.in-Some.field-0 in
    let e = fed-close base c.self.inside.frames.items c.pop.new.self.items f (node_tokens (arc_value c.in_ok-node-in-Some.node)) c.in-Some.ensures.items (ap node_tokens c.in_ok-node-in-Some.ensures.ok) in
    omega (arith, c.requires.room, ap length e, ap length c.self.view_is, length-append (base ++ frames_tokens c.pop.new.self.items) (node_tokens (arc_value c.in_ok-node-in-Some.node)), length-append (base ++ frames_tokens c.self.inside.frames.items) (Close ∷ []))

pub unreachable-requires : goal.unreachable-requires
unreachable-requires c =
    let fs = c.self.inside.frames.items in
    omega (arith, c.requires.open, ap (λ z. length (unclosed [] z)) c.self.view_is, ap length (unclosed-fed c.self.inside.base fs c.self.invariant), length-kinds_up fs [], c.in-None.ensures.cases.0, c.self.inside.frames.ok.0)

pub returns : goal.returns
returns c =
    let base = c.self.inside.base in
    let f = c.in-Some.field-0 in
    let e = fed-close base c.self.inside.frames.items c.pop.new.self.items f (node_tokens (arc_value c.in_ok-node-in-Some.node)) c.in-Some.ensures.items (ap node_tokens c.in_ok-node-in-Some.ensures.ok) in
    IfOk-equal c.push.result _ _ _ c.push.ensures (e ∙ ap (λ z. z ++ (Close ∷ [])) c.self.view_is)

use Rattle.std.proofs.Common.{◌≡◌, ◌∙◌, ap, arith, ◌+◌, ◌-◌, ◌++◌, length, refl}
use Rattle.std.proofs.lemmas.Result.{on_ok_weaker}
use Rattle.pm_tokens.specs.Scan.{part}
use Rattle.pm_node.specs.Trees.{list_tokens}
use Rattle.pm_build.proofs.FrameLaws.{fed-last, whole-last, within-last}
use Rattle.pm_build.proofs.builder.Builder.append.Goals as goal

pub append-done-requires-clause-room : goal.append-done-requires-clause-room
append-done-requires-clause-room c =
    let fs = c.self.inside.frames.items in
    let v : c.self.inside.frames.len ≡ length fs = c.self.inside.frames.ok.0 in
    let e : (c.len-len.result - 1) + 1 ≡ length fs = omega arith in
    omega (arith, c.requires.room, within-last c.self.inside.base fs _ c.index_mut.result.now e c.index_mut.ensures.value, ap length c.self.view_is)

pub invariant_of-self : goal.invariant_of-self
invariant_of-self c =
    let fs = c.self.inside.frames.items in
    let v : c.self.inside.frames.len ≡ length fs = c.self.inside.frames.ok.0 in
    let e : (c.len-len.result - 1) + 1 ≡ length fs = omega arith in
    whole-last c.self.inside.base fs _ c.index_mut.result.now _ e c.index_mut.ensures.value c.size.ensures.whole c.self.invariant

pub returns-then-len-gt0 : goal.returns-then-len-gt0
returns-then-len-gt0 c =
    let fs = c.self.inside.frames.items in
    let v : c.self.inside.frames.len ≡ length fs = c.self.inside.frames.ok.0 in
    let e : (c.len-len.result - 1) + 1 ≡ length fs = omega arith in
    let ts = list_tokens (part c.args.from c.args.to c.args.nodes.now) in
    on_ok_weaker c.append-done.result (λ ok. fed-last c.self.inside.base fs _ c.index_mut.result.now _ ts e c.index_mut.ensures.value refl ok ∙ ap (λ z. z ++ ts) c.self.view_is) c.append-done.ensures

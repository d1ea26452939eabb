use Rattle.std.proofs.Common.{◌≡◌, ◌+◌, map, drop, get_or, ap, sym, ◌∙◌, arith}
use Rattle.pm_node.specs.Filled.{joined, filled_tokens}
use Rattle.pm_node.proofs.FillLaws.{kind-inside, same-entry}
use Rattle.pm_node.proofs.FilledLaws.{onto, onto-none, onto-some, onto-all, onto-end, joined-at, joined-end}
use Rattle.pm_node.proofs.filled.content_size.Goals as goal

pub loop-kind-init : goal.loop-kind-init
loop-kind-init c = (omega arith, λ fills n z. sym (onto-all (joined (map (filled_tokens c.args.schema.now.spec fills n) c.args.kinds.now))))

pub returns-in-None : goal.returns-in-None
returns-in-None c = λ fills n z.
    let f = filled_tokens c.args.schema.now.spec fills n in
    let ks = c.args.kinds.now in
    let i = c.loop-kind.kind-index in
    let k = get_or ks i 0 in
    let is : k ≡ get_or ks i k = same-entry ks i 0 k c.loop-kind-test.true in
    let inside = kind-inside c.args.schema.now ks i k c.requires c.loop-kind-test.true is in
    sym (c.loop-kind.invariant.1 fills n z ∙ (ap (onto c.loop-kind.total) (joined-at f ks i k c.loop-kind-test.true is)
    ∙ onto-none c.loop-kind.total (f k) (joined (map f (drop (i + 1) ks))) (sym c.in-None.is ∙ (c.size_at.ensures ∙ z k inside))))

pub loop-kind-preserved : goal.loop-kind-preserved
loop-kind-preserved c = (
  omega (arith, c.capped-total.ensures),
  λ fills n z.
      let f = filled_tokens c.args.schema.now.spec fills n in
      let ks = c.args.kinds.now in
      let i = c.loop-kind.kind-index in
      let k = get_or ks i 0 in
      let is : k ≡ get_or ks i k = same-entry ks i 0 k c.loop-kind-test.true in
      let inside = kind-inside c.args.schema.now ks i k c.requires c.loop-kind-test.true is in
      c.loop-kind.invariant.1 fills n z ∙ (ap (onto c.loop-kind.total) (joined-at f ks i k c.loop-kind-test.true is)
      ∙ onto-some c.loop-kind.total c.in-Some.size c.capped-total.result (f k) (joined (map f (drop (i + 1) ks))) (sym c.in-Some.is ∙ (c.size_at.ensures ∙ z k inside)) c.capped-total.ensures),
)

pub returns : goal.returns
returns c = λ fills n z.
    let f = filled_tokens c.args.schema.now.spec fills n in
    sym (c.loop-kind.invariant.1 fills n z ∙ (ap (onto c.loop-kind.total) (joined-end f c.args.kinds.now c.loop-kind.kind-index c.loop-kind-test.false) ∙ onto-end c.loop-kind.total c.loop-kind.invariant.0))

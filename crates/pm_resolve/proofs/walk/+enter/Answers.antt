use Rattle.std.proofs.Common.{◌≡◌, ◌+◌, ◌-◌, ◌<◌, ◌∷◌, ◌∙◌, [], ap, sym, subst, arith, length, refl}
use Rattle.std.specs.Arc.{arc_value}
use Rattle.std.proofs.lemmas.Result.{on_ok_weaker}
use Rattle.std.proofs.Common.{length-append}
use Rattle.pm_tokens.specs.Tokens.{Close}
use Rattle.pm_node.specs.declared.node.Body.TheVariants.{Children}
use Rattle.pm_node.specs.Trees.{list_tokens}
use Rattle.pm_node.proofs.TreeLaws.{node_tokens_at}
use Rattle.pm_node.proofs.WalkLaws.{child-within}
use Rattle.pm_node.specs.Documents.{content_tokens}
use Rattle.pm_resolve.specs.Levels.{content_of, Enters}
use Rattle.pm_resolve.proofs.AmongLaws.{next-there}
use Rattle.pm_resolve.proofs.EnterLaws.{entered-lowest, entered-deeper, level-is, between-depth, flat-depth, enters-child}
use Rattle.pm_resolve.proofs.SearchLaws.{few-here, few-down}
use Rattle.pm_resolve.proofs.walk.+enter.Goals as goal

pub returns-else-found-gt0-clause-entered : goal.returns-else-found-gt0-clause-entered
returns-else-found-gt0-clause-entered g t c =
    let n = c.args.node.now in
    let xs = c.children-children.result in
    let e = c.children-children.ensures in
    let i = c.find_counted-found.result.index in
    let r = c.find_counted-found.result.rest in
    let is : content_of n ≡ list_tokens xs = sym (e.tokens ∙ c.requires.content) in
    let s = c.find_counted-found.ensures.found in
    entered-lowest c.in_ok-push.ensures.items (level-is n xs c.args.pos c.args.start i r is e.normal e.each s _ refl refl refl) (between-depth n xs c.args.pos c.args.start i r is e.normal e.each s (omega (arith, c.if-found-gt0.false)))

pub returns-in_default-clause-entered : goal.returns-in_default-clause-entered
returns-in_default-clause-entered g t c =
    let n = c.args.node.now in
    let xs = c.children-children.result in
    let e = c.children-children.ensures in
    let i = c.find_counted-found.result.index in
    let r = c.find_counted-found.result.rest in
    let is : content_of n ≡ list_tokens xs = sym (e.tokens ∙ c.requires.content) in
    let s = c.find_counted-found.ensures.found in
    let x = c.get.result.now in
    let lt : i < length xs = next-there s (omega (arith, c.if-found-gt0.true)) in
    entered-lowest c.in_ok-push.ensures.items (level-is n xs c.args.pos c.args.start i r is e.normal e.each s _ refl refl refl)
    (flat-depth n xs c.args.pos c.args.start i r is e.normal e.each s x lt c.get.ensures (λ ts b. c.in_default.not-Children ts (ap (λ v. v.body) c.deref-child.ensures ∙ b)))

pub returns-in-Children-clause-entered : goal.returns-in-Children-clause-entered
returns-in-Children-clause-entered g t c =
    let n = c.args.node.now in
    let xs = c.children-children.result in
    let e = c.children-children.ensures in
    let i = c.find_counted-found.result.index in
    let r = c.find_counted-found.result.rest in
    let is : content_of n ≡ list_tokens xs = sym (e.tokens ∙ c.requires.content) in
    let s = c.find_counted-found.ensures.found in
    let x = c.get.result.now in
    let lt : i < length xs = next-there s (omega (arith, c.if-found-gt0.true)) in
    let body = ap (λ v. v.body) (sym c.deref-child.ensures) ∙ c.in-Children.is in
    let child : Enters c.args.pos c.args.start n ((c.args.pos - r) + 1) (arc_value x) =
    enters-child n xs c.args.pos c.args.start i r is e.normal e.each s x lt c.get.ensures c.in-Children.inner ((c.args.pos - r) + 1) body c.size.ensures.whole c.requires.started (omega (arith, c.if-found-gt0.true)) refl in
    let down = subst (λ v. Enters c.args.pos c.args.start n ((c.args.pos - r) + 1) v) (sym c.deref-child.ensures) child in
    on_ok_weaker c.enter.result (λ more. entered-deeper c.in_ok-push.ensures.items (level-is n xs c.args.pos c.args.start i r is e.normal e.each s _ refl refl refl) down more) c.enter.ensures.entered

pub enter-requires : goal.enter-requires
enter-requires g t c =
    let n = c.args.node.now in
    let xs = c.children-children.result in
    let e = c.children-children.ensures in
    let i = c.find_counted-found.result.index in
    let r = c.find_counted-found.result.rest in
    let is : content_of n ≡ list_tokens xs = sym (e.tokens ∙ c.requires.content) in
    let s = c.find_counted-found.ensures.found in
    let x = c.get.result.now in
    let lt : i < length xs = next-there s (omega (arith, c.if-found-gt0.true)) in
    let body = ap (λ v. v.body) (sym c.deref-child.ensures) ∙ c.in-Children.is in
    let child : Enters c.args.pos c.args.start n ((c.args.pos - r) + 1) (arc_value x) =
    enters-child n xs c.args.pos c.args.start i r is e.normal e.each s x lt c.get.ensures c.in-Children.inner ((c.args.pos - r) + 1) body c.size.ensures.whole c.requires.started (omega (arith, c.if-found-gt0.true)) refl in
    let down = subst (λ v. Enters c.args.pos c.args.start n ((c.args.pos - r) + 1) v) (sym c.deref-child.ensures) child in
    let d : length c.args.content.now ≡ t = c.decreases in
    let small = child-within xs i x lt c.get.ensures in
    let size = ap length (node_tokens_at (arc_value x) (Children c.in-Children.inner) body) in
    let m = c.deref-child.result.now in
    let held : content_tokens m.marks m.body ≡ c.in-Children.inner = ap (content_tokens m.marks) c.in-Children.is in
    let less : length c.in-Children.inner < t = omega (arith, d, small, size, ap length e.tokens, length-append c.in-Children.inner (Close ∷ [])) in
    λ κs o. (less, (o, (sym held, (down.started, let k = down.within in omega (arith, k, ap (λ b. length (content_tokens m.marks b)) down.body, ap length held)))))

pub returns-else-found-gt0-clause-steps : goal.returns-else-found-gt0-clause-steps
returns-else-found-gt0-clause-steps g t c =
    let n = c.args.node.now in
    let xs = c.children-children.result in
    let e = c.children-children.ensures in
    few-here c.args.pos c.args.start n xs c.args.steps.now c.find_counted-found.new.steps (sym (e.tokens ∙ c.requires.content)) e.normal e.each c.find_counted-found.ensures.steps

pub returns-in_default-clause-steps : goal.returns-in_default-clause-steps
returns-in_default-clause-steps g t c =
    let n = c.args.node.now in
    let xs = c.children-children.result in
    let e = c.children-children.ensures in
    few-here c.args.pos c.args.start n xs c.args.steps.now c.find_counted-found.new.steps (sym (e.tokens ∙ c.requires.content)) e.normal e.each c.find_counted-found.ensures.steps

pub returns-in-Children-clause-steps : goal.returns-in-Children-clause-steps
returns-in-Children-clause-steps g t c =
    let n = c.args.node.now in
    let xs = c.children-children.result in
    let e = c.children-children.ensures in
    let i = c.find_counted-found.result.index in
    let r = c.find_counted-found.result.rest in
    let is : content_of n ≡ list_tokens xs = sym (e.tokens ∙ c.requires.content) in
    let s = c.find_counted-found.ensures.found in
    let x = c.get.result.now in
    let lt : i < length xs = next-there s (omega (arith, c.if-found-gt0.true)) in
    let body = ap (λ v. v.body) (sym c.deref-child.ensures) ∙ c.in-Children.is in
    let child : Enters c.args.pos c.args.start n ((c.args.pos - r) + 1) (arc_value x) =
    enters-child n xs c.args.pos c.args.start i r is e.normal e.each s x lt c.get.ensures c.in-Children.inner ((c.args.pos - r) + 1) body c.size.ensures.whole c.requires.started (omega (arith, c.if-found-gt0.true)) refl in
    let entered = subst (λ v. Enters c.args.pos c.args.start n ((c.args.pos - r) + 1) v) (sym c.deref-child.ensures) child in
    few-down c.args.pos c.args.start ((c.args.pos - r) + 1) n c.deref-child.result.now xs c.args.steps.now c.find_counted-found.new.steps c.enter.new.steps is e.normal e.each
    c.find_counted-found.ensures.steps entered c.enter.ensures.steps

-- no level was put: the search alone took steps
pub returns-in_err-push-clause-steps : goal.returns-in_err-push-clause-steps
returns-in_err-push-clause-steps g t c =
    let n = c.args.node.now in
    let xs = c.children-children.result in
    let e = c.children-children.ensures in
    few-here c.args.pos c.args.start n xs c.args.steps.now c.find_counted-found.new.steps (sym (e.tokens ∙ c.requires.content)) e.normal e.each c.find_counted-found.ensures.steps

use Rattle.std.proofs.Common.{◌≡◌, ◌+◌, ◌-◌, ◌≤◌, ◌<◌, ◌++◌, ◌∷◌, [], suc, length, take, vec_capacity, arith, ap, sym, ◌∙◌, refl, subst, IfOk}
use Rattle.pm_tokens.specs.Scan.{deepest, depth_at}
use Rattle.pm_view.specs.declared.around.Around.{Around}
use Rattle.pm_view.specs.Ahead.{ahead, AreFlat}
use Rattle.pm_view.specs.Grouped.{grouped}
use Rattle.pm_view.specs.Known.{tokens_of}
use Rattle.pm_view.proofs.ChildLaws.{child-next, stands-before, flat-between, depth-in-flat, child-shorter, child-room}
use Rattle.pm_view.proofs.AheadLaws.{flat-push, ahead-within, within-fits, flat-fits}
use Rattle.pm_view.proofs.tokens.Tokens.+enter.Goals as goal

pub get-requires : goal.get-requires
get-requires t c = stands-before c.children-children.result c.args.at c.find-found.result.index c.find-found.result.rest c.find-found.ensures (omega (arith, c.if-found-eq0.false))

pub overflow_add-end : goal.overflow_add-end
overflow_add-end t c =
    let ts = c.args.content.now in
    let xs = c.children-children.result in
    let e = c.children-children.ensures in
    let f = c.find-found.result in
    let n = c.deref-child.result.now in
    let end = c.args.at - f.rest + c.size-size.result in
    let k = child-next xs ts c.args.at f.index f.rest c.size-size.result c.get.result.now n e.tokens e.normal e.each c.find-found.ensures (stands-before xs c.args.at f.index f.rest c.find-found.ensures (omega (arith, c.if-found-eq0.false))) c.get.ensures c.deref-child.ensures c.size-size.ensures.size in
    omega (arith, k.behind.within, e.bound, ap length e.tokens)

pub invariant_of-result : goal.invariant_of-result
invariant_of-result t c =
    let e = c.children-children.ensures in
    let z = flat-between c.children-children.result c.args.content.now c.args.at c.find-found.result.index c.find-found.result.rest e.tokens e.each c.find-found.ensures c.if-found-eq0.true in
    (record { within = c.requires.within; flat = z }, c.requires.flat, flat-fits (vec_capacity c.args.outer) c.args.left c.args.content.now c.args.at c.args.outer.items z c.requires.fit)

pub invariant_of-result-in_default : goal.invariant_of-result-in_default
invariant_of-result-in_default t c =
    let ts = c.args.content.now in
    let xs = c.children-children.result in
    let e = c.children-children.ensures in
    let f = c.find-found.result in
    let n = c.deref-child.result.now in
    let end = c.args.at - f.rest + c.size-size.result in
    let k = child-next xs ts c.args.at f.index f.rest c.size-size.result c.get.result.now n e.tokens e.normal e.each c.find-found.ensures (stands-before xs c.args.at f.index f.rest c.find-found.ensures (omega (arith, c.if-found-eq0.false))) c.get.ensures c.deref-child.ensures c.size-size.ensures.size in
    let z = depth-in-flat ts c.args.at f.rest end n k c.in_default.not-Children in
    (record { within = c.requires.within; flat = z }, c.requires.flat, flat-fits (vec_capacity c.args.outer) c.args.left ts c.args.at c.args.outer.items z c.requires.fit)

pub enter-requires : goal.enter-requires
enter-requires t c =
    let ts = c.args.content.now in
    let xs = c.children-children.result in
    let e = c.children-children.ensures in
    let f = c.find-found.result in
    let n = c.deref-child.result.now in
    let end = c.args.at - f.rest + c.size-size.result in
    let k = child-next xs ts c.args.at f.index f.rest c.size-size.result c.get.result.now n e.tokens e.normal e.each c.find-found.ensures (stands-before xs c.args.at f.index f.rest c.find-found.ensures (omega (arith, c.if-found-eq0.false))) c.get.ensures c.deref-child.ensures c.size-size.ensures.size in
    let os = c.args.outer.items in
    let inner = c.in-Children.inner in
    let r = f.rest - 1 in
    let b = c.in-Children.is in
    let a : Around = record { node = c.deref-child.result; content = c.args.content; at = end } in
    let more : f.rest ≡ suc r = omega (arith, c.if-found-eq0.false) in
    let pushed : c.push.new.self.items ≡ os ++ (a ∷ []) = c.in_ok-push-in-Children.ensures.items in
    let d : length ts ≡ t = c.decreases in
    let g : length inner < t = omega (arith, d, child-shorter ts c.args.at f.rest c.size-size.result n inner k b c.size-size.ensures.size) in
    let fit = within-fits ts c.args.at f.rest end n k os inner r (vec_capacity c.args.outer) c.args.left a b more refl refl refl c.requires.fit in
    let fits = subst (λ z. deepest (length z + depth_at inner r) (tokens_of (take c.args.left (ahead inner r z))) ≤ vec_capacity c.args.outer) (sym pushed) fit in
    (g, (child-room ts c.args.at f.rest end n inner k b, (subst AreFlat (sym pushed) (flat-push os a c.requires.flat k.behind), omega (arith, fits, c.in_ok-push-in-Children.ensures.capacity))))

pub returns-in_ok-push-in-Children : goal.returns-in_ok-push-in-Children
returns-in_ok-push-in-Children t c =
    let ts = c.args.content.now in
    let xs = c.children-children.result in
    let e = c.children-children.ensures in
    let f = c.find-found.result in
    let n = c.deref-child.result.now in
    let end = c.args.at - f.rest + c.size-size.result in
    let k = child-next xs ts c.args.at f.index f.rest c.size-size.result c.get.result.now n e.tokens e.normal e.each c.find-found.ensures (stands-before xs c.args.at f.index f.rest c.find-found.ensures (omega (arith, c.if-found-eq0.false))) c.get.ensures c.deref-child.ensures c.size-size.ensures.size in
    let os = c.args.outer.items in
    let inner = c.in-Children.inner in
    let r = f.rest - 1 in
    let b = c.in-Children.is in
    let a : Around = record { node = c.deref-child.result; content = c.args.content; at = end } in
    let more : f.rest ≡ suc r = omega (arith, c.if-found-eq0.false) in
    let pushed : c.push.new.self.items ≡ os ++ (a ∷ []) = c.in_ok-push-in-Children.ensures.items in
    let same = ap (ahead inner r) pushed ∙ sym (ahead-within ts c.args.at f.rest end n k os inner r a b more refl refl refl) in
    subst (λ z. IfOk c.enter.result (λ t. t ≡ grouped (take c.args.left z))) same c.enter.ensures

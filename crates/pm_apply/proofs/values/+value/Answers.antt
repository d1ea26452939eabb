use Rattle.std.proofs.Common.{[], ◌∷◌, ◌≡◌, ◌+◌, ◌*◌, ◌<◌, ◌++◌, length, arith, ap, sym, ◌∙◌, length-append}
use Rattle.std.specs.Arc.{arc_value}
use Rattle.std.proofs.lemmas.Result.{IfOk-weaker}
use Rattle.pm_value.specs.Views.{plain}
use Rattle.pm_tokens.specs.Tokens.{Close}
use Rattle.pm_tokens.specs.Scan.{part}
use Rattle.pm_node.specs.declared.node.Body.TheVariants.{Children}
use Rattle.pm_node.specs.Trees.{node_tokens, body_tokens, list_tokens}
use Rattle.pm_node.proofs.TreeLaws.{node_tokens_at}
use Rattle.pm_node.proofs.WalkLaws.{front, rest, child-within}
use Rattle.pm_apply.specs.Nodes.{has_place, valued}
use Rattle.pm_apply.proofs.BetweenLaws.{front-is, rest-is}
use Rattle.pm_apply.proofs.HeadLaws.{head_at, head-among, stands-in}
use Rattle.pm_apply.proofs.ValuedLaws.{place-within, place-text, place-inside, valued-length, valued-inner, sized-parts, put-together}
use Rattle.pm_apply.proofs.values.+value.Goals as goal

pub value_content-find-found-requires : goal.value_content-find-found-requires
value_content-find-found-requires t c =
    let p = place-within c.args.place c.args.content.now c.args.pos c.requires in
    omega (arith, p, ap length c.children-children.ensures.tokens)

pub value_content-get-child-requires : goal.value_content-get-child-requires
value_content-get-child-requires t c =
    let p = place-within c.args.place c.args.content.now c.args.pos c.requires in
    stands-in c.find-found.ensures (omega (arith, p, ap length c.children-children.ensures.tokens))

pub value_content-value_node-requires : goal.value_content-value_node-requires
value_content-value_node-requires t c =
    let xs = c.children-children.result in
    let r = c.find-found.result.rest in
    let x = c.get-child.result.now in
    let all = c.children-children.ensures.tokens in
    let p = place-within c.args.place c.args.content.now c.args.pos c.requires in
    let h = stands-in c.find-found.ensures (omega (arith, p, ap length all)) in
    let d : 2 * length c.args.content.now + 1 ≡ t = c.decreases in
    let w = child-within xs _ x h c.get-child.ensures in
    let n = ap (λ m. length (node_tokens m)) c.deref.ensures in
    let g : 2 * length (node_tokens c.deref.result.now) < t = omega (arith, d, w, n, ap length all) in (
      g,
      (
        omega (arith, c.find-found.ensures.inside x h c.get-child.ensures, n),
        ap (λ m. has_place c.args.place (head_at (node_tokens m) r)) c.deref.ensures
            ∙ (ap (has_place c.args.place) (sym (head-among xs c.args.pos _ r x c.find-found.ensures h c.get-child.ensures)) ∙ (ap (λ z. has_place c.args.place (head_at z c.args.pos)) all ∙ c.requires)),
      ),
    )

pub value_content-push-requires : goal.value_content-push-requires
value_content-push-requires t c =
    let xs = c.children-children.result in
    let k = c.find-found.result.index in
    let x = c.get-child.result.now in
    let all = c.children-children.ensures.tokens in
    let p = place-within c.args.place c.args.content.now c.args.pos c.requires in
    let h = stands-in c.find-found.ensures (omega (arith, p, ap length all)) in
    let s = sized-parts xs k x h c.get-child.ensures in
    let n : length (node_tokens c.deref.result.now) ≡ length (node_tokens (arc_value x)) = ap (λ m. length (node_tokens m)) c.deref.ensures in
    let v = valued-length c.args.place (plain c.args.value.now) c.find-found.result.rest (node_tokens c.deref.result.now) in
    let m : length (node_tokens (arc_value c.in_ok-node.node)) ≡ length (node_tokens (arc_value x)) = ap length c.in_ok-node.ensures ∙ (v ∙ n) in
    let f : length c.append.new.self ≡ length (front xs k) = ap length (c.in_ok-append.ensures ∙ (ap (λ z. z ++ list_tokens (part 0 k xs)) c.new-made.ensures ∙ front-is xs k)) in
    omega (arith, s, m, f, c.children-children.ensures.bound)

pub value_content-append-requires-2-clause-room : goal.value_content-append-requires-2-clause-room
value_content-append-requires-2-clause-room t c =
    let xs = c.children-children.result in
    let k = c.find-found.result.index in
    let x = c.get-child.result.now in
    let all = c.children-children.ensures.tokens in
    let p = place-within c.args.place c.args.content.now c.args.pos c.requires in
    let h = stands-in c.find-found.ensures (omega (arith, p, ap length all)) in
    let s = sized-parts xs k x h c.get-child.ensures in
    let n : length (node_tokens c.deref.result.now) ≡ length (node_tokens (arc_value x)) = ap (λ m. length (node_tokens m)) c.deref.ensures in
    let v = valued-length c.args.place (plain c.args.value.now) c.find-found.result.rest (node_tokens c.deref.result.now) in
    let m : length (node_tokens (arc_value c.in_ok-node.node)) ≡ length (node_tokens (arc_value x)) = ap length c.in_ok-node.ensures ∙ (v ∙ n) in
    let f : length c.append.new.self ≡ length (front xs k) = ap length (c.in_ok-append.ensures ∙ (ap (λ z. z ++ list_tokens (part 0 k xs)) c.new-made.ensures ∙ front-is xs k)) in
    let g : length c.push.new.self ≡ length c.append.new.self + length (node_tokens (arc_value c.in_ok-node.node)) = ap length c.in_ok-push.ensures.ok ∙ length-append c.append.new.self (node_tokens (arc_value c.in_ok-node.node)) in
    let b : length (list_tokens (part (k + 1) c.len-count.result xs)) ≡ length (rest xs (k + 1)) = ap length (rest-is xs (k + 1) c.len-count.result c.len-count.ensures (omega (arith, c.len-count.ensures, h))) in
    omega (arith, s, m, f, g, b, c.children-children.ensures.bound)

pub value_content-returns : goal.value_content-returns
value_content-returns t c =
    let xs = c.children-children.result in
    let k = c.find-found.result.index in
    let r = c.find-found.result.rest in
    let x = c.get-child.result.now in
    let v = plain c.args.value.now in
    let all = c.children-children.ensures.tokens in
    let p = place-within c.args.place c.args.content.now c.args.pos c.requires in
    let h = stands-in c.find-found.ensures (omega (arith, p, ap length all)) in
    put-together c.args.place v xs c.args.pos k r c.len-count.result x c.new-made.result c.append.new.self c.push.new.self c.append-2.new.self (node_tokens (arc_value c.in_ok-node.node))
    c.new-made.ensures c.in_ok-append.ensures c.in_ok-push.ensures.ok c.in_ok-append-2.ensures (c.in_ok-node.ensures ∙ ap (λ m. valued c.args.place v r (node_tokens m)) c.deref.ensures)
    c.len-count.ensures c.find-found.ensures h c.get-child.ensures
    ∙ ap (valued c.args.place v c.args.pos) all

pub value_node-unreachable-requires : goal.value_node-unreachable-requires
value_node-unreachable-requires t c = place-text c.args.place c.args.node.now c.in-Text.field-0 c.args.pos c.in-Text.is c.requires.place

pub value_node-value_content-requires : goal.value_node-value_content-requires
value_node-value_content-requires t c =
    let n = c.args.node.now in
    let inner = c.in-Children.inner in
    let d : 2 * length (node_tokens n) ≡ t = c.decreases in
    let size : length (node_tokens n) ≡ length inner + 2 = omega (arith, ap length (node_tokens_at n (Children inner) c.in-Children.is), length-append inner (Close ∷ [])) in
    let at = place-inside c.args.place n inner c.args.pos c.in-Children.is (omega (arith, c.if-pos-eq0.false)) c.requires.inside c.requires.place in
    let g : 2 * length inner + 1 < t = omega (arith, d, size) in
    (g, at.1)

pub value_node-returns : goal.value_node-returns
value_node-returns t c =
    let n = c.args.node.now in
    let inner = c.in-Children.inner in
    let v = plain c.args.value.now in
    let made = c.in_ok-inner-in-Children.inner in
    let attrs = c.in_ok-attrs-in-Children.attrs in
    let b : 0 < c.args.pos = omega (arith, c.if-pos-eq0.false) in
    let at = place-inside c.args.place n inner c.args.pos c.in-Children.is b c.requires.inside c.requires.place in
    IfOk-weaker c.with_head.result (λ m. node_tokens (arc_value m) ≡ body_tokens n.kind attrs n.marks (Children made)) (λ m. node_tokens (arc_value m) ≡ valued c.args.place v c.args.pos (node_tokens n))
    (λ m e. e ∙ valued-inner c.args.place v n inner made c.args.pos attrs c.in-Children.is b at.0 c.in_ok-inner-in-Children.ensures c.in_ok-attrs-in-Children.ensures)
    c.with_head.ensures

use Rattle.std.proofs.Common.{◌≡◌, [], length, arith, ap, sym, ◌∙◌, subst}
use Rattle.std.specs.Prelude.{if◌then◌else◌, ◌++◌, false}
use Rattle.std.proofs.lemmas.List.{append-nil, nil_from_length}
use Rattle.std.specs.Arc.{arc_value}
use Rattle.pm_tokens.specs.Scan.{Balanced}
use Rattle.pm_sized.specs.Pairs.{pairs_of}
use Rattle.pm_sized.proofs.PartLaws.{total-values}
use Rattle.pm_sized.proofs.GrowLaws.{on_err_of}
use Rattle.pm_node.specs.Trees.{node_tokens, list_tokens, WholeBody}
use Rattle.pm_node.specs.Chunks.{nodes_of, Follows}
use Rattle.pm_node.proofs.ChunkLaws.{total-sized, kept-push, kept-values, tokens-push, tokens-along}
use Rattle.pm_node.proofs.node.Fragment.push.Goals as goal

pub returns-then-size-eq0-clause-ok : goal.returns-then-size-eq0-clause-ok
returns-then-size-eq0-clause-ok c =
    let z = arc_value c.args.node in
    let size : c.size-size.result ≡ length (node_tokens z) = c.size-size.ensures.size ∙ ap (λ m. length (node_tokens m)) c.deref.ensures in
    let none : node_tokens z ≡ [] = nil_from_length (node_tokens z) (omega (arith, size, c.if-size-eq0.true)) in
    sym (ap (λ t. c.args.self.now ++ t) none ∙ append-nil c.args.self.now)

pub join_last-requires-clause-whole : goal.join_last-requires-clause-whole
join_last-requires-clause-whole c = subst (λ m. WholeBody m.body) (c.deref.ensures ∙ sym c.deref-2.ensures) c.size-size.ensures.body

pub join_last-requires-clause-some : goal.join_last-requires-clause-some
join_last-requires-clause-some c =
    let s = c.self.inside.nodes in
    let z = arc_value c.args.node in
    let size : c.size-size.result ≡ length (node_tokens z) = c.size-size.ensures.size ∙ ap (λ m. length (node_tokens m)) c.deref.ensures in
    let l : length (list_tokens (nodes_of s)) ≡ length c.args.self.now = ap length c.self.view_is in
    omega (arith, size, c.if-size-eq0.false, ap (λ m. length (node_tokens m)) c.deref-2.ensures)

pub join_last-requires-clause-room : goal.join_last-requires-clause-room
join_last-requires-clause-room c =
    let s = c.self.inside.nodes in
    let z = arc_value c.args.node in
    let size : c.size-size.result ≡ length (node_tokens z) = c.size-size.ensures.size ∙ ap (λ m. length (node_tokens m)) c.deref.ensures in
    let l : length (list_tokens (nodes_of s)) ≡ length c.args.self.now = ap length c.self.view_is in
    omega (arith, l, c.requires, ap (λ m. length (node_tokens m)) c.deref-2.ensures)

pub returns-then-joined-clause-ok : goal.returns-then-joined-clause-ok
returns-then-joined-clause-ok c =
    let s = c.self.inside.nodes in
    let z = arc_value c.args.node in
    let size : c.size-size.result ≡ length (node_tokens z) = c.size-size.ensures.size ∙ ap (λ m. length (node_tokens m)) c.deref.ensures in
    let l : length (list_tokens (nodes_of s)) ≡ length c.args.self.now = ap length c.self.view_is in
    let k = c.in_ok-joined.ensures in
    let m = c.deref-2.result.now in
    let mid = c.join_last.new.nodes in
    let old = list_tokens (nodes_of s) in
    let tokens = subst (λ b. list_tokens (nodes_of mid) ≡ (if b then old ++ node_tokens m else old)) c.if-joined.true k.tokens in
    let ends = subst (λ b. Follows (nodes_of mid) m b) c.if-joined.true k.ends in
    tokens ∙ (ap (λ t. t ++ node_tokens m) c.self.view_is ∙ ap (λ v. c.args.self.now ++ node_tokens v) c.deref-2.ensures)

pub push-requires-clause-room : goal.push-requires-clause-room
push-requires-clause-room c =
    let s = c.self.inside.nodes in
    let z = arc_value c.args.node in
    let size : c.size-size.result ≡ length (node_tokens z) = c.size-size.ensures.size ∙ ap (λ m. length (node_tokens m)) c.deref.ensures in
    let l : length (list_tokens (nodes_of s)) ≡ length c.args.self.now = ap length c.self.view_is in
    let k = c.in_ok-joined.ensures in
    let m = c.deref-2.result.now in
    let mid = c.join_last.new.nodes in
    let old = list_tokens (nodes_of s) in
    let tokens = subst (λ b. list_tokens (nodes_of mid) ≡ (if b then old ++ node_tokens m else old)) c.if-joined.false k.tokens in
    let ends = subst (λ b. Follows (nodes_of mid) m b) c.if-joined.false k.ends in
    omega (arith, l, size, c.requires, total-values (pairs_of mid), total-sized (pairs_of mid) k.kept.sized, ap length tokens)

pub returns-clause-ok : goal.returns-clause-ok
returns-clause-ok c =
    let s = c.self.inside.nodes in
    let z = arc_value c.args.node in
    let size : c.size-size.result ≡ length (node_tokens z) = c.size-size.ensures.size ∙ ap (λ m. length (node_tokens m)) c.deref.ensures in
    let l : length (list_tokens (nodes_of s)) ≡ length c.args.self.now = ap length c.self.view_is in
    let k = c.in_ok-joined.ensures in
    let m = c.deref-2.result.now in
    let mid = c.join_last.new.nodes in
    let old = list_tokens (nodes_of s) in
    let tokens = subst (λ b. list_tokens (nodes_of mid) ≡ (if b then old ++ node_tokens m else old)) c.if-joined.false k.tokens in
    let ends = subst (λ b. Follows (nodes_of mid) m b) c.if-joined.false k.ends in
    tokens-push mid c.push.new.self c.args.node c.size-size.result c.in_ok-push.ensures.ok ∙ (ap (λ t. t ++ node_tokens z) (tokens ∙ c.self.view_is))

pub returns-in_err-push-clause-err : goal.returns-in_err-push-clause-err
returns-in_err-push-clause-err c =
    let s = c.self.inside.nodes in
    let z = arc_value c.args.node in
    let size : c.size-size.result ≡ length (node_tokens z) = c.size-size.ensures.size ∙ ap (λ m. length (node_tokens m)) c.deref.ensures in
    let l : length (list_tokens (nodes_of s)) ≡ length c.args.self.now = ap length c.self.view_is in
    let k = c.in_ok-joined.ensures in
    let m = c.deref-2.result.now in
    let mid = c.join_last.new.nodes in
    let old = list_tokens (nodes_of s) in
    let tokens = subst (λ b. list_tokens (nodes_of mid) ≡ (if b then old ++ node_tokens m else old)) c.if-joined.false k.tokens in
    let ends = subst (λ b. Follows (nodes_of mid) m b) c.if-joined.false k.ends in
    on_err_of c.from_residual-in_err-push.result (tokens-along (pairs_of c.push.new.self) (pairs_of mid) c.in_err-push.ensures.err ∙ (tokens ∙ c.self.view_is))

pub invariant_of-self-in_err-push : goal.invariant_of-self-in_err-push
invariant_of-self-in_err-push c = kept-values c.join_last.new.nodes c.push.new.self c.in_ok-joined.ensures.kept c.in_err-push.ensures.laid c.in_err-push.ensures.err

pub invariant_of-self-2 : goal.invariant_of-self-2
invariant_of-self-2 c =
    let s = c.self.inside.nodes in
    let z = arc_value c.args.node in
    let size : c.size-size.result ≡ length (node_tokens z) = c.size-size.ensures.size ∙ ap (λ m. length (node_tokens m)) c.deref.ensures in
    let l : length (list_tokens (nodes_of s)) ≡ length c.args.self.now = ap length c.self.view_is in
    let k = c.in_ok-joined.ensures in
    let m = c.deref-2.result.now in
    let mid = c.join_last.new.nodes in
    let old = list_tokens (nodes_of s) in
    let tokens = subst (λ b. list_tokens (nodes_of mid) ≡ (if b then old ++ node_tokens m else old)) c.if-joined.false k.tokens in
    let ends = subst (λ b. Follows (nodes_of mid) m b) c.if-joined.false k.ends in
    kept-push mid c.push.new.self c.args.node c.size-size.result k.kept c.in_ok-push.ensures.laid c.in_ok-push.ensures.ok size
    (omega (arith, c.if-size-eq0.false))
    (omega (arith, l, size, c.requires, ap length tokens))
    (subst (λ v. Balanced (node_tokens v)) c.deref.ensures c.size-size.ensures.whole)
    (subst (λ v. WholeBody v.body) c.deref.ensures c.size-size.ensures.body)
    (subst (λ v. Follows (nodes_of mid) v false) c.deref-2.ensures ends)

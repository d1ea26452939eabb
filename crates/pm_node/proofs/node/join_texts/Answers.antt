use Rattle.std.proofs.Common.{◌≡◌, ◌∙◌, sym, ap, ◌++◌, subst}
use Rattle.pm_node.specs.Trees.{node_tokens, IsText}
use Rattle.pm_tokens.specs.Kids.{text_tokens}
use Rattle.pm_node.proofs.TreeLaws.{node_tokens_at, text_tokens-append}
use Rattle.pm_node.proofs.node.join_texts.Goals as goal

pub returns-in_ok-join-in-Text-Text : goal.returns-in_ok-join-in-Text-Text
returns-in_ok-join-in-Text-Text c =
    let l = c.args.left.now in
    let r = c.args.right.now in
    let e = c.in_ok-copy-in-Text-Text-2.ensures in
    let same : l.marks ≡ r.marks = c.same.ensures.equality.0 c.if-same.true in
    let j = c.in_ok-join-in-Text-Text.ensures in
    let a = c.in-Text-Text.a in
    let b = c.in-Text-Text.b in
    let t = text_tokens-append l.marks a b ∙ (ap (λ z. z ++ text_tokens l.marks b) (sym (node_tokens_at l _ c.in-Text-Text.is-0)) ∙ ap (λ z. node_tokens l ++ z) (ap (λ m. text_tokens m b) same ∙ sym (node_tokens_at r _ c.in-Text-Text.is-1))) in
    (rw (j, e) t, (subst IsText (sym c.in-Text-Text.is-0) tt, tt, sym e), (tt, subst IsText (sym c.in-Text-Text.is-1) tt, e ∙ same))

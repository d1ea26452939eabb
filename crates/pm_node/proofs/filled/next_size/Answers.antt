use Rattle.std.proofs.Common.{suc, map, ap, sym, ◌∙◌}
use Rattle.pm_node.specs.Filled.{joined, filled_tokens}
use Rattle.pm_node.specs.Sizes.{measured}
use Rattle.pm_node.proofs.FilledLaws.{filled-leaf, filled-node, around-none, around-size}
use Rattle.pm_node.proofs.filled.next_size.Goals as goal

pub content_size-requires : goal.content_size-requires
content_size-requires c =
    let a = c.requires.table.made c.args.kind c.requires.known in
    rw c.fill_at.ensures a

pub returns-then-is_leaf : goal.returns-then-is_leaf
returns-then-is_leaf c = λ n z. sym (ap measured (filled-leaf c.args.schema.now.spec c.args.fills.now (suc n) c.args.kind (sym c.is_leaf.ensures ∙ c.if-is_leaf.true)))

pub returns-in-None : goal.returns-in-None
returns-in-None c = λ n z.
    let s = c.args.schema.now.spec in
    let fills = c.args.fills.now in
    let k = c.args.kind in
    let whole = filled-node s fills n k (sym c.is_leaf.ensures ∙ c.if-is_leaf.false) in
    let content = sym c.in-None.is ∙ (c.content_size.ensures fills n z ∙ ap (λ ks. measured (joined (map (filled_tokens s fills n) ks))) c.fill_at.ensures) in
    around-none s k _ content ∙ sym (ap measured whole)

pub returns-in-Some : goal.returns-in-Some
returns-in-Some c = λ n z.
    let s = c.args.schema.now.spec in
    let fills = c.args.fills.now in
    let k = c.args.kind in
    let whole = filled-node s fills n k (sym c.is_leaf.ensures ∙ c.if-is_leaf.false) in
    let content = sym c.in-Some.is ∙ (c.content_size.ensures fills n z ∙ ap (λ ks. measured (joined (map (filled_tokens s fills n) ks))) c.fill_at.ensures) in
    rw c.capped.ensures (around-size s k _ c.in-Some.size content ∙ sym (ap measured whole))

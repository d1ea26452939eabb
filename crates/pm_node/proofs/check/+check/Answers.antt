use Rattle.std.proofs.Common.{◌≡◌, ◌+◌, ◌*◌, ◌<◌, ◌∷◌, length, arith, ap, sym, ◌∙◌, subst}
use Rattle.std.proofs.lemmas.Result.{err_from_is_err_and}
use Rattle.pm_tokens.specs.Faults.{first_fault}
use Rattle.pm_schema.specs.Documents.{documents_of}
use Rattle.pm_node.specs.Trees.{node_tokens}
use Rattle.pm_node.specs.Checks.{Tells, Checks}
use Rattle.pm_node.proofs.WalkLaws.{Child, child-within, child-at, in-range}
use Rattle.pm_node.proofs.FaultWalk.{Sound, sound-more, sound-fault, sound-room, fault-text, node-bad-content, node-inner}
use Rattle.pm_node.proofs.check.+check.Goals as goal

pub node_fault-returns-else-len-eq0 : goal.node_fault-returns-else-len-eq0
node_fault-returns-else-len-eq0 t c = λ ps.
    let s = documents_of c.args.schema.now.spec in
    let some : 0 < length c.in-Text.units = omega (arith, c.len.ensures, c.if-len-eq0.false) in
    subst (Checks c.marks_fault.result) (sym (fault-text s c.args.parent c.args.at ps c.args.node.now c.in-Text.units c.in-Text.is some)) c.marks_fault.ensures.first

pub node_fault-returns-then-not-content_fits : goal.node_fault-returns-then-not-content_fits
node_fault-returns-then-not-content_fits t c = λ ps.
    let s = documents_of c.args.schema.now.spec in
    node-bad-content s c.args.parent c.args.at ps c.args.node.now c.in-Children.content c.node_attrs_fit-fit-in-Children.result c.in-Children.is c.size.ensures.whole c.node_attrs_fit-fit-in-Children.ensures.fit c.in_ok-marks_fault-in-Children.ensures.first (sym c.content_fits.ensures ∙ c.if-not-content_fits.true)

pub node_fault-returns-else-not-content_fits : goal.node_fault-returns-else-not-content_fits
node_fault-returns-else-not-content_fits t c = λ ps.
    let s = documents_of c.args.schema.now.spec in
    let e = node-inner s c.args.parent c.args.at ps c.args.node.now c.in-Children.content c.node_attrs_fit-fit-in-Children.result c.in-Children.is c.size.ensures.whole c.node_attrs_fit-fit-in-Children.ensures.fit c.in_ok-marks_fault-in-Children.ensures.first (sym c.content_fits.ensures ∙ c.if-not-content_fits.false) in
    subst (Checks c.nodes_fault.result) (sym e) (c.nodes_fault.ensures (c.args.parent ∷ ps))

pub nodes_fault-node_fault-requires : goal.nodes_fault-node_fault-requires
nodes_fault-node_fault-requires t c =
    let s = documents_of c.args.schema.now.spec in
    let xs = c.children-children.result in
    let e = c.children-children.ensures in
    let d : 2 * length c.args.content.now + 1 ≡ t = c.decreases in
    let w = child-within xs _ c.get-child.result.now (in-range c.len-i-end.ensures c.loop-i-test.true) c.get-child.ensures in
    let n = ap (λ m. length (node_tokens m)) c.deref-in-loop-i.ensures in
    let room = sound-room s c.args.parent xs _ _ (child-at xs c.loop-i.i c.get-child.result.now e.normal e.each (in-range c.len-i-end.ensures c.loop-i-test.true) c.get-child.ensures) c.args.at c.loop-i.at c.loop-i.invariant in
    let g : 2 * length (node_tokens c.deref-in-loop-i.result.now) < t = omega (arith, d, w, n, ap length e.tokens) in
    (g, (c.requires.known, omega (arith, room, n, c.requires.room, ap length e.tokens)))

pub nodes_fault-returns-in_err-node_fault : goal.nodes_fault-returns-in_err-node_fault
nodes_fault-returns-in_err-node_fault t c = λ ps.
    let s = documents_of c.args.schema.now.spec in
    let xs = c.children-children.result in
    let e = c.children-children.ensures in
    let i = c.loop-i.i in
    let n = c.deref-in-loop-i.result.now in
    let k : Child xs i n = subst (Child xs i) (sym c.deref-in-loop-i.ensures) (child-at xs i c.get-child.result.now e.normal e.each (in-range c.len-i-end.ensures c.loop-i-test.true) c.get-child.ensures) in
    let p = err_from_is_err_and c.from_residual.result c.from_residual.ensures.1 in
    rw (p.1, p.2) (subst (λ ts. Tells c.in_err-node_fault.field-0.0 (first_fault s c.args.at (c.args.parent ∷ ps) ts)) e.tokens (sound-fault s c.args.parent xs i n k c.args.at c.loop-i.at c.in_err-node_fault.field-0.0 c.loop-i.invariant c.in_err-node_fault.ensures ps))

pub nodes_fault-loop-i-preserved : goal.nodes_fault-loop-i-preserved
nodes_fault-loop-i-preserved t c =
    let s = documents_of c.args.schema.now.spec in
    let xs = c.children-children.result in
    let e = c.children-children.ensures in
    let i = c.loop-i.i in
    let n = c.deref-in-loop-i.result.now in
    let k : Child xs i n = subst (Child xs i) (sym c.deref-in-loop-i.ensures) (child-at xs i c.get-child.result.now e.normal e.each (in-range c.len-i-end.ensures c.loop-i-test.true) c.get-child.ensures) in
    let size : length (node_tokens n) ≡ c.size-size.result = ap (λ m. length (node_tokens m)) (c.deref-in-loop-i.ensures ∙ sym c.deref.ensures) ∙ sym c.size-size.ensures.size in
    subst (λ z. Sound s c.args.parent xs (i + 1) c.args.at (c.loop-i.at + z)) size (sound-more s c.args.parent xs i n k c.args.at c.loop-i.at c.loop-i.invariant c.in_ok-node_fault.ensures)

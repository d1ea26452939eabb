use Rattle.std.proofs.Common.{◌≡◌, ◌+◌, ◌<◌, ◌*◌, [], length, arith, sym, ap, ◌∙◌, subst, refl, inl, inr}
use Rattle.std.specs.Arc.{arc_value}
use Rattle.std.proofs.lemmas.Result.{err_from_is_err_and}
use Rattle.pm_tokens.specs.Scan.{part, owned}
use Rattle.pm_tokens.specs.Schemas.{compatible}
use Rattle.pm_tokens.proofs.SchemaLaws.{compatible-itself}
use Rattle.pm_schema.specs.Documents.{documents_of}
use Rattle.pm_node.specs.Trees.{node_tokens, list_tokens}
use Rattle.pm_node.proofs.WalkLaws.{child-within}
use Rattle.pm_build.specs.Fed.{Crossed, Crosses}
use Rattle.pm_build.proofs.SpanLaws.{part-clipped, first-within, last-within, in-one}
use Rattle.pm_build.proofs.CrossSpan.{crossed-between, crosses-between, stopped-between}
use Rattle.pm_build.proofs.CrossLaws.{crossed_err, crossed-none, crossed-whole, crossed-flat, crossed-node, stopped-node}
use Rattle.pm_tokens.proofs.ScanLaws.{length-owned}
use Rattle.pm_tokens.proofs.ListLaws.{part_none, part_past, part_all}
use Rattle.pm_build.proofs.crossing.OpenTypes.+cross.Goals as goal

pub cross-returns-then-end-from : goal.cross-returns-then-end-from
cross-returns-then-end-from t c =
    let own = owned [] c.args.source.now in
    let clip = part-clipped c.args.from c.args.to _ _ c.args.source.now c.size.ensures.size c.min-end.ensures in
    subst (λ p. Crossed (compatible (documents_of c.args.schema.now.spec)) c.args.self.now p c.args.self.now) (sym (part_none c.args.from c.min-end.result own c.if-end-from.true) ∙ clip) (crossed-none _ _)

pub cross-returns : goal.cross-returns
cross-returns t c =
    let clip = part-clipped c.args.from c.args.to _ _ c.args.source.now c.size.ensures.size c.min-end.ensures in
    subst (λ p. Crosses (compatible (documents_of c.args.schema.now.spec)) c.args.self.now p c.cross_between.result c.cross_between.new.self) (ap (λ z. part c.args.from c.min-end.result (owned [] z)) c.children-children.ensures.tokens ∙ clip) c.cross_between.ensures

pub cross_between-cross_child-requires : goal.cross_between-cross_child-requires
cross_between-cross_child-requires t c =
    let d : 4 * length (list_tokens c.args.nodes.now) + 2 ≡ t = c.decreases in
    let w = child-within c.args.nodes.now _ c.get-child.result.now (first-within c.args.nodes.now _ _ _ _ _ _ c.find-first.ensures c.find-last.ensures c.requires.some c.requires.within) c.get-child.ensures in
    let g : 4 * length (node_tokens c.deref.result.now) + 1 < t = omega (arith, d, w, ap (λ m. length (node_tokens m)) c.deref.ensures) in
    (g, tt)

pub cross_between-returns-then-last-first : goal.cross_between-returns-then-last-first
cross_between-returns-then-last-first t c =
    let h = first-within c.args.nodes.now _ _ _ _ _ _ c.find-first.ensures c.find-last.ensures c.requires.some c.requires.within in
    let own = ap (λ n. part c.find-first.result.rest c.find-last.result.rest (owned [] (node_tokens n))) c.deref.ensures in
    let one = in-one c.args.nodes.now _ _ _ _ _ _ c.find-first.ensures c.find-last.ensures c.requires.some c.get-child.result.now c.requires.normal c.requires.each h c.get-child.ensures c.if-last-first.true in
    subst (λ p. Crosses (compatible (documents_of c.args.schema.now.spec)) c.args.self.now p c.cross_child.result c.cross_child.new.self) (own ∙ sym one) c.cross_child.ensures

pub cross_between-cross_child-requires-2 : goal.cross_between-cross_child-requires-2
cross_between-cross_child-requires-2 t c =
    let d : 4 * length (list_tokens c.args.nodes.now) + 2 ≡ t = c.decreases in
    let w = child-within c.args.nodes.now _ c.get-child.result.now (first-within c.args.nodes.now _ _ _ _ _ _ c.find-first.ensures c.find-last.ensures c.requires.some c.requires.within) c.get-child.ensures in
    let g : 4 * length (node_tokens c.deref-2.result.now) + 1 < t = omega (arith, d, w, ap (λ m. length (node_tokens m)) c.deref-2.ensures) in
    (g, tt)

pub cross_between-returns-in_err-cross_child : goal.cross_between-returns-in_err-cross_child
cross_between-returns-in_err-cross_child t c =
    let p = err_from_is_err_and c.from_residual.result c.from_residual.ensures.1 in
    let h = first-within c.args.nodes.now _ _ _ _ _ _ c.find-first.ensures c.find-last.ensures c.requires.some c.requires.within in
    let size = c.size.ensures.size ∙ ap (λ n. length (node_tokens n)) c.deref-3.ensures in
    let own = ap (λ n. part c.find-first.result.rest c.size.result (owned [] (node_tokens n))) c.deref-2.ensures ∙ ap (λ k. part c.find-first.result.rest k (owned [] (node_tokens (arc_value c.get-child.result.now)))) size in
    crossed_err _ _ _ _ _ _ _ _ p.1 p.2 c.in_err-cross_child.ensures (λ refused. stopped-between _ _ c.args.self.now c.args.nodes.now _ _ _ _ _ _ c.find-first.ensures c.find-last.ensures c.requires.some c.requires.normal c.requires.each c.if-last-first.false c.get-child.result.now h c.get-child.ensures (rw own at refused))

pub cross_between-returns-then-last-eq0 : goal.cross_between-returns-then-last-eq0
cross_between-returns-then-last-eq0 t c =
    let h = first-within c.args.nodes.now _ _ _ _ _ _ c.find-first.ensures c.find-last.ensures c.requires.some c.requires.within in
    let size = c.size.ensures.size ∙ ap (λ n. length (node_tokens n)) c.deref-3.ensures in
    let own = ap (λ n. part c.find-first.result.rest c.size.result (owned [] (node_tokens n))) c.deref-2.ensures ∙ ap (λ k. part c.find-first.result.rest k (owned [] (node_tokens (arc_value c.get-child.result.now)))) size in
    crossed-between _ _ _ c.args.nodes.now _ _ _ _ _ _ c.find-first.ensures c.find-last.ensures c.requires.some c.requires.normal c.requires.each c.if-last-first.false c.get-child.result.now h c.get-child.ensures (compatible-itself (documents_of c.args.schema.now.spec)) (rw own at c.in_ok-cross_child.ensures) c.if-last-eq0.true

pub cross_between-cross_child-requires-3 : goal.cross_between-cross_child-requires-3
cross_between-cross_child-requires-3 t c =
    let d : 4 * length (list_tokens c.args.nodes.now) + 2 ≡ t = c.decreases in
    let h = last-within c.args.nodes.now _ _ _ _ _ _ c.find-first.ensures c.find-last.ensures c.requires.some c.if-last-eq0.false in
    let w = child-within c.args.nodes.now _ c.get.result.now h c.get.ensures in
    let g : 4 * length (node_tokens c.deref-4.result.now) + 1 < t = omega (arith, d, w, ap (λ m. length (node_tokens m)) c.deref-4.ensures) in
    (g, tt)

pub cross_between-returns : goal.cross_between-returns
cross_between-returns t c =
    let h = first-within c.args.nodes.now _ _ _ _ _ _ c.find-first.ensures c.find-last.ensures c.requires.some c.requires.within in
    let k = last-within c.args.nodes.now _ _ _ _ _ _ c.find-first.ensures c.find-last.ensures c.requires.some c.if-last-eq0.false in
    let size = c.size.ensures.size ∙ ap (λ n. length (node_tokens n)) c.deref-3.ensures in
    let own = ap (λ n. part c.find-first.result.rest c.size.result (owned [] (node_tokens n))) c.deref-2.ensures ∙ ap (λ k. part c.find-first.result.rest k (owned [] (node_tokens (arc_value c.get-child.result.now)))) size in
    let last = ap (λ n. part 0 c.find-last.result.rest (owned [] (node_tokens n))) c.deref-4.ensures in
    crosses-between _ _ _ c.args.nodes.now _ _ _ _ _ _ c.find-first.ensures c.find-last.ensures c.requires.some c.requires.normal c.requires.each c.if-last-first.false c.get-child.result.now h c.get-child.ensures (compatible-itself (documents_of c.args.schema.now.spec)) (rw own at c.in_ok-cross_child.ensures) c.get.result.now _ _ k c.get.ensures (rw last at c.cross_child-3.ensures)

pub cross_child-returns-then-to-from : goal.cross_child-returns-then-to-from
cross_child-returns-then-to-from t c =
    let ts = node_tokens c.args.node.now in
    let own = owned [] ts in
    let n : length own ≡ c.size-size.result = length-owned [] ts ∙ sym c.size-size.ensures.size in
    let e : part c.args.from c.args.to own ≡ [] = elim c.then-to-from.either [
      | inl h ↦ part_none c.args.from c.args.to own h
      | inr h ↦ part_past c.args.from c.args.to own (omega (arith, n, h.1))
    ] in
    subst (λ p. Crossed (compatible (documents_of c.args.schema.now.spec)) c.args.self.now p c.args.self.now) (sym e) (crossed-none _ _)

pub cross_child-returns-then-size-to : goal.cross_child-returns-then-size-to
cross_child-returns-then-size-to t c =
    let ts = node_tokens c.args.node.now in
    let e : part c.args.from c.args.to (owned [] ts) ≡ owned [] ts = part_all c.args.from c.args.to (owned [] ts) c.if-from-eq0.true (omega (arith, c.size-size.ensures.size, length-owned [] ts)) in
    subst (λ p. Crossed (compatible (documents_of c.args.schema.now.spec)) c.args.self.now p c.args.self.now) (sym e) (crossed-whole _ (compatible-itself (documents_of c.args.schema.now.spec)) _ ts c.size-size.ensures.whole)

pub cross_part-returns-in_err-cross-in-Children : goal.cross_part-returns-in_err-cross-in-Children
cross_part-returns-in_err-cross-in-Children t c =
    let p = err_from_is_err_and c.from_residual-in_err-cross-in-Children.result c.from_residual-in_err-cross-in-Children.ensures.1 in
    crossed_err _ _ _ _ _ _ _ _ p.1 p.2 c.in_err-cross-in-Children.ensures (stopped-node (compatible (documents_of c.args.schema.now.spec)) c.args.self.now c.cross_open.new.self c.args.from c.args.to c.args.node.now c.in-Children.content _ _ c.in-Children.is c.size-size.ensures.whole c.requires c.in_ok-cross_open-in-Children.ensures c.saturating_sub-start.ensures refl)

pub cross_part-returns-in_ok-cross-in-Children : goal.cross_part-returns-in_ok-cross-in-Children
cross_part-returns-in_ok-cross-in-Children t c =
    crossed-node (compatible (documents_of c.args.schema.now.spec)) c.args.self.now c.cross_open.new.self c.args.from c.args.to c.args.node.now c.in-Children.content _ _ c.in-Children.is c.size-size.ensures.whole c.requires c.in_ok-cross_open-in-Children.ensures c.saturating_sub-start.ensures refl c.cross.new.self _ _ _ c.size-size.result _ c.size-size.ensures.size c.in_ok-cross-in-Children.ensures c.saturating_sub.ensures c.saturating_sub-in-Children.ensures c.cross_close.ensures

pub cross_part-returns-in_default : goal.cross_part-returns-in_default
cross_part-returns-in_default t c = crossed-flat _ _ c.args.from c.args.to c.args.node.now c.in_default.not-Children

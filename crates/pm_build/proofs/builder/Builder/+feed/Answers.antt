use Rattle.std.proofs.Common.{◌≡◌, ◌+◌, ◌<◌, ◌≤◌, [], ◌++◌, length, length-append, drop, ◌*◌, arith, sym, ap, ◌∙◌, subst, refl, inl, inr}
use Rattle.std.specs.Arc.{arc_value}
use Rattle.std.proofs.lemmas.Result.{err_from_is_err_and}
use Rattle.pm_build.specs.Fed.{Fed, Appended}
use Rattle.pm_tokens.specs.Scan.{part, owned, Balanced}
use Rattle.pm_node.specs.Trees.{node_tokens, list_tokens}
use Rattle.pm_tokens.specs.Schemas.{compatible}
use Rattle.pm_schema.specs.Documents.{documents_of}
use Rattle.pm_build.proofs.SpanLaws.{part-clipped, first-within, first-skip, last-within, in-one, in-order, run-whole, run-one, run-first, run-length}
use Rattle.pm_build.proofs.FeedSpan.{appended-run, refused-run, room-run, appended-between, fed-between, refused-between, room-between}
use Rattle.pm_node.proofs.WalkLaws.{child-within, front}
use Rattle.pm_build.proofs.FedLaws.{fed_err, appended-none, appended-whole, appended-text, fed-node, refused-node, room-node}
use Rattle.pm_tokens.proofs.ScanLaws.{length-owned}
use Rattle.pm_tokens.proofs.ListLaws.{part_none, part_past, part_all}
use Rattle.pm_node.proofs.TreeLaws.{node_tokens_at}
use Rattle.pm_build.proofs.builder.Builder.+feed.Goals as goal
use Rattle.pm_tokens.proofs.SchemaLaws.{compatible-itself}

pub feed-returns-then-end-from : goal.feed-returns-then-end-from
feed-returns-then-end-from t c =
    let own = owned [] c.args.source.now in
    let clip = part-clipped c.args.from c.args.to _ _ c.args.source.now c.size.ensures.size c.min-end.ensures in
    subst (λ p. Appended (compatible (documents_of c.args.schema.now.spec)) c.args.self.now p c.args.self.now) (sym (part_none c.args.from c.min-end.result own c.if-end-from.true) ∙ clip) (appended-none _ _)

pub feed-returns : goal.feed-returns
feed-returns t c =
    let clip = part-clipped c.args.from c.args.to _ _ c.args.source.now c.size.ensures.size c.min-end.ensures in
    subst (λ p. Fed (compatible (documents_of c.args.schema.now.spec)) c.args.self.now p c.feed_between.result c.feed_between.new.self) (ap (λ z. part c.args.from c.min-end.result (owned [] z)) c.children-children.ensures.tokens ∙ clip) c.feed_between.ensures

pub feed_between-feed_child-requires : goal.feed_between-feed_child-requires
feed_between-feed_child-requires t c =
    let d : 5 * length (list_tokens c.args.nodes.now) + 3 ≡ t = c.decreases in
    let w = child-within c.args.nodes.now _ c.get-child.result.now (first-within c.args.nodes.now _ _ _ _ _ _ c.find-first.ensures c.find-last.ensures c.requires.some c.requires.within) c.get-child.ensures in
    let g : 5 * length (node_tokens (arc_value c.get-child.result.now)) + 1 < t = omega (arith, d, w) in
    let same : c.find-last.result.index ≡ c.find-first.result.index = omega (arith, c.if-last-first.true, in-order c.args.nodes.now _ _ _ _ _ _ c.find-first.ensures c.find-last.ensures c.requires.some) in
    (g, omega (arith, c.requires.room, c.requires.some, c.find-first.ensures.offset, c.find-last.ensures.offset, ap (λ k. length (front c.args.nodes.now k)) same))

pub feed_between-returns-then-last-first : goal.feed_between-returns-then-last-first
feed_between-returns-then-last-first t c =
    let h = first-within c.args.nodes.now _ _ _ _ _ _ c.find-first.ensures c.find-last.ensures c.requires.some c.requires.within in
    let one = in-one c.args.nodes.now _ _ _ _ _ _ c.find-first.ensures c.find-last.ensures c.requires.some c.get-child.result.now c.requires.normal c.requires.each h c.get-child.ensures c.if-last-first.true in
    subst (λ p. Fed (compatible (documents_of c.args.schema.now.spec)) c.args.self.now p c.feed_child.result c.feed_child.new.self) (sym one) c.feed_child.ensures

pub feed_between-feed_rest-requires : goal.feed_between-feed_rest-requires
feed_between-feed_rest-requires t c =
    let d : 5 * length (list_tokens c.args.nodes.now) + 3 ≡ t = c.decreases in
    let g : 5 * length (list_tokens c.args.nodes.now) + 2 < t = omega (arith, d) in
    let h = first-within c.args.nodes.now _ _ _ _ _ _ c.find-first.ensures c.find-last.ensures c.requires.some c.requires.within in
    let skip = first-skip c.args.nodes.now _ _ _ _ _ _ c.find-first.ensures c.find-last.ensures c.requires.some h in
    let size = run-length c.args.nodes.now _ _ _ _ _ _ c.find-first.ensures c.find-last.ensures c.requires.some c.requires.each c.if-last-first.false in
    (g, (c.if-last-first.false, (c.find-last.ensures.within, (c.requires.normal, (c.requires.each, (skip, omega (arith, c.requires.room, size)))))))

pub feed_between-returns-in_err-feed_rest : goal.feed_between-returns-in_err-feed_rest
feed_between-returns-in_err-feed_rest t c =
    let p = err_from_is_err_and c.from_residual.result c.from_residual.ensures.1 in
    fed_err _ _ _ _ _ _ _ _ p.1 p.2 c.in_err-feed_rest.ensures (λ refused. refused-between _ c.args.self.now c.args.self.now c.args.nodes.now _ _ _ _ _ _ c.find-first.ensures c.find-last.ensures c.requires.some c.requires.each c.if-last-first.false refused)

pub feed_between-returns-then-last-eq0 : goal.feed_between-returns-then-last-eq0
feed_between-returns-then-last-eq0 t c =
    appended-between _ _ _ c.args.nodes.now _ _ _ _ _ _ c.find-first.ensures c.find-last.ensures c.requires.some c.requires.each c.if-last-first.false c.in_ok-feed_rest.ensures c.if-last-eq0.true

pub feed_between-feed_child-requires-2 : goal.feed_between-feed_child-requires-2
feed_between-feed_child-requires-2 t c =
    let d : 5 * length (list_tokens c.args.nodes.now) + 3 ≡ t = c.decreases in
    let k = last-within c.args.nodes.now _ _ _ _ _ _ c.find-first.ensures c.find-last.ensures c.requires.some c.if-last-eq0.false in
    let w = child-within c.args.nodes.now _ c.get.result.now k c.get.ensures in
    let g : 5 * length (node_tokens (arc_value c.get.result.now)) + 1 < t = omega (arith, d, w) in
    let room = room-between _ _ _ c.args.nodes.now _ _ _ _ _ _ c.find-first.ensures c.find-last.ensures c.requires.some c.requires.each c.if-last-first.false c.in_ok-feed_rest.ensures in
    (g, omega (arith, c.requires.room, room))

pub feed_between-returns : goal.feed_between-returns
feed_between-returns t c =
    let k = last-within c.args.nodes.now _ _ _ _ _ _ c.find-first.ensures c.find-last.ensures c.requires.some c.if-last-eq0.false in
    fed-between _ _ _ c.args.nodes.now _ _ _ _ _ _ c.find-first.ensures c.find-last.ensures c.requires.some c.requires.each c.if-last-first.false c.in_ok-feed_rest.ensures c.requires.normal c.get.result.now _ _ k c.get.ensures c.feed_child-2.ensures

pub feed_rest-returns-then-skip-eq0 : goal.feed_rest-returns-then-skip-eq0
feed_rest-returns-then-skip-eq0 t c =
    let run = list_tokens (part c.args.index c.args.end c.args.nodes.now) in
    subst (λ k. Appended (compatible (documents_of c.args.schema.now.spec)) c.args.self.now (drop k (owned [] run)) c.append.new.self) (sym c.if-skip-eq0.true) (appended-whole _ (compatible-itself (documents_of c.args.schema.now.spec)) _ run _ (run-whole c.args.nodes.now c.args.index c.args.end c.requires.each) c.in_ok-append.ensures)

pub feed_rest-feed_child-requires : goal.feed_rest-feed_child-requires
feed_rest-feed_child-requires t c =
    let d : 5 * length (list_tokens c.args.nodes.now) + 2 ≡ t = c.decreases in
    let xs = c.args.nodes.now in
    let h : c.args.index < length xs = omega (arith, c.requires.order, c.requires.within) in
    let w = child-within xs _ c.get-child.result.now h c.get-child.ensures in
    let g : 5 * length (node_tokens (arc_value c.get-child.result.now)) + 1 < t = omega (arith, d, w) in
    let size = c.size.ensures.size ∙ ap (λ n. length (node_tokens n)) c.deref.ensures in
    let run = run-first xs c.args.index c.args.end c.get-child.result.now c.requires.order h c.get-child.ensures in
    (g, omega (arith, c.requires.room, size, ap length run, length-append (node_tokens (arc_value c.get-child.result.now)) (list_tokens (part (c.args.index + 1) c.args.end xs))))

pub feed_rest-returns-in_err-feed_child : goal.feed_rest-returns-in_err-feed_child
feed_rest-returns-in_err-feed_child t c =
    let p = err_from_is_err_and c.from_residual-in_err-feed_child.result c.from_residual-in_err-feed_child.ensures.1 in
    let xs = c.args.nodes.now in
    let h : c.args.index < length xs = omega (arith, c.requires.order, c.requires.within) in
    let size = c.size.ensures.size ∙ ap (λ n. length (node_tokens n)) c.deref.ensures in
    let skip : c.args.skip ≤ length (node_tokens (arc_value c.get-child.result.now)) = omega (arith, c.requires.inside, ap length (run-one xs c.args.index c.get-child.result.now h c.get-child.ensures)) in
    fed_err _ _ _ _ _ _ _ _ p.1 p.2 c.in_err-feed_child.ensures (λ refused. refused-run (compatible (documents_of c.args.schema.now.spec)) c.args.self.now c.args.self.now xs c.args.index c.args.end c.args.skip c.get-child.result.now c.requires.normal c.requires.each c.requires.order h c.get-child.ensures skip (rw size at refused))

pub feed_rest-append-requires-2-clause-room : goal.feed_rest-append-requires-2-clause-room
feed_rest-append-requires-2-clause-room t c =
    let xs = c.args.nodes.now in
    let h : c.args.index < length xs = omega (arith, c.requires.order, c.requires.within) in
    let size = c.size.ensures.size ∙ ap (λ n. length (node_tokens n)) c.deref.ensures in
    let skip : c.args.skip ≤ length (node_tokens (arc_value c.get-child.result.now)) = omega (arith, c.requires.inside, ap length (run-one xs c.args.index c.get-child.result.now h c.get-child.ensures)) in
    let room = room-run _ _ _ xs c.args.index c.args.end c.args.skip c.get-child.result.now c.requires.normal c.requires.each c.requires.order h c.get-child.ensures skip (rw size at c.in_ok-feed_child.ensures) in
    omega (arith, c.requires.room, room)

pub feed_rest-returns : goal.feed_rest-returns
feed_rest-returns t c =
    let xs = c.args.nodes.now in
    let h : c.args.index < length xs = omega (arith, c.requires.order, c.requires.within) in
    let size = c.size.ensures.size ∙ ap (λ n. length (node_tokens n)) c.deref.ensures in
    let skip : c.args.skip ≤ length (node_tokens (arc_value c.get-child.result.now)) = omega (arith, c.requires.inside, ap length (run-one xs c.args.index c.get-child.result.now h c.get-child.ensures)) in
    appended-run _ _ _ xs c.args.index c.args.end c.args.skip c.get-child.result.now c.requires.normal c.requires.each c.requires.order h c.get-child.ensures skip (compatible-itself (documents_of c.args.schema.now.spec)) (rw size at c.in_ok-feed_child.ensures) _ c.in_ok-append-2.ensures

pub feed_child-returns-then-to-from : goal.feed_child-returns-then-to-from
feed_child-returns-then-to-from t c =
    let ts = node_tokens (arc_value c.args.node.now) in
    let own = owned [] ts in
    let n : length own ≡ c.size-size.result = length-owned [] ts ∙ sym (c.size-size.ensures.size ∙ ap (λ m. length (node_tokens m)) c.deref.ensures) in
    let e : part c.args.from c.args.to own ≡ [] = elim c.then-to-from.either [
      | inl h ↦ part_none c.args.from c.args.to own h
      | inr h ↦ part_past c.args.from c.args.to own (omega (arith, n, h.1))
    ] in
    subst (λ p. Appended (compatible (documents_of c.args.schema.now.spec)) c.args.self.now p c.args.self.now) (sym e) (appended-none _ _)

pub feed_child-returns-then-size-to : goal.feed_child-returns-then-size-to
feed_child-returns-then-size-to t c =
    let ts = node_tokens (arc_value c.args.node.now) in
    let n : c.size-size.result ≡ length ts = c.size-size.ensures.size ∙ ap (λ m. length (node_tokens m)) c.deref.ensures in
    let e : part c.args.from c.args.to (owned [] ts) ≡ owned [] ts = part_all c.args.from c.args.to (owned [] ts) c.if-from-eq0.true (omega (arith, n, length-owned [] ts)) in
    let bal = subst (λ m. Balanced (node_tokens m)) c.deref.ensures c.size-size.ensures.whole in
    subst (λ p. Appended (compatible (documents_of c.args.schema.now.spec)) c.args.self.now p c.push.new.self) (sym e) (appended-whole _ (compatible-itself (documents_of c.args.schema.now.spec)) _ ts _ bal (c.in_ok-push.ensures ∙ ap (λ z. c.args.self.now ++ node_tokens z) c.in_ok-node.ensures))

pub feed_part-returns-in_err-feed-in-Children : goal.feed_part-returns-in_err-feed-in-Children
feed_part-returns-in_err-feed-in-Children t c =
    let p = err_from_is_err_and c.from_residual-in_err-feed-in-Children.result c.from_residual-in_err-feed-in-Children.ensures.1 in
    fed_err _ _ _ _ _ _ _ _ p.1 p.2 c.in_err-feed-in-Children.ensures (refused-node (compatible (documents_of c.args.schema.now.spec)) c.args.self.now c.feed_open.new.self c.args.from c.args.to c.args.node.now c.in-Children.content _ _ c.in-Children.is c.size-size.ensures.whole c.requires.some c.in_ok-feed_open-in-Children.ensures c.saturating_sub-start.ensures refl)

pub feed_part-feed_close-requires : goal.feed_part-feed_close-requires
feed_part-feed_close-requires t c =
    omega (arith, c.requires.room, room-node (compatible (documents_of c.args.schema.now.spec)) c.args.self.now c.feed_open.new.self c.args.from c.args.to c.args.node.now c.in-Children.content _ _ c.in-Children.is c.size-size.ensures.whole c.requires.some c.in_ok-feed_open-in-Children.ensures c.saturating_sub-start.ensures refl c.feed.new.self _ _ c.size-size.result c.size-size.ensures.size c.in_ok-feed-in-Children.ensures c.saturating_sub.ensures c.saturating_sub-in-Children.ensures)

pub feed_part-returns-in_ok-feed_text-in-Text : goal.feed_part-returns-in_ok-feed_text-in-Text
feed_part-returns-in_ok-feed_text-in-Text t c =
    let m = c.args.node.now.marks in
    let us = c.in-Text.units in
    subst (λ z. Appended (compatible (documents_of c.args.schema.now.spec)) c.args.self.now (part c.args.from c.args.to (owned [] z)) c.feed_text.new.self) (sym (node_tokens_at c.args.node.now _ c.in-Text.is)) (appended-text _ _ _ c.args.from c.args.to m us c.in_ok-feed_text-in-Text.ensures)

pub feed_part-returns-in_ok-feed-in-Children : goal.feed_part-returns-in_ok-feed-in-Children
feed_part-returns-in_ok-feed-in-Children t c =
    fed-node (compatible (documents_of c.args.schema.now.spec)) c.args.self.now c.feed_open.new.self c.args.from c.args.to c.args.node.now c.in-Children.content _ _ c.in-Children.is c.size-size.ensures.whole c.requires.some c.in_ok-feed_open-in-Children.ensures c.saturating_sub-start.ensures refl c.feed.new.self _ _ _ c.size-size.result _ c.size-size.ensures.size c.in_ok-feed-in-Children.ensures c.saturating_sub.ensures c.saturating_sub-in-Children.ensures c.feed_close.ensures

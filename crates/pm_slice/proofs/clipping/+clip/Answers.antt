use Rattle.std.proofs.Common.{◌≡◌, min, ℕ, ◌+◌, ◌-◌, ◌*◌, ◌<◌, ◌≤◌, ◌++◌, [], ◌∷◌, List, length, arith, sym, ap, ◌∙◌, subst, refl, IfOk}
use Rattle.std.specs.Arc.{arc_value}
use Rattle.std.proofs.lemmas.Result.{IfOk-weaker}
use Rattle.pm_tokens.specs.Tokens.{Open, Close}
use Rattle.pm_tokens.specs.Kids.{text_tokens}
use Rattle.pm_tokens.proofs.OwnedParts.{part_min}
use Rattle.pm_node.specs.declared.node.Body.TheVariants.{Text}
use Rattle.pm_node.proofs.TreeLaws.{node_tokens_at, length-text_tokens, no-more-nodes}
use Rattle.pm_tokens.specs.Scan.{part}
use Rattle.pm_node.specs.Trees.{node_tokens, list_tokens}
use Rattle.pm_node.proofs.WalkLaws.{front, child-within}
use Rattle.pm_slice.specs.Sides.{clipped}
use Rattle.pm_slice.proofs.ClipWalk.{stands-before, stands-within, clipped-start, clipped-first, clipped-run, part-room, last-room, clipped-last, clipped-end, clipped-small}
use Rattle.pm_slice.proofs.ClipLaws.{clipped-within, clipped-node, clipped-text, text-small}
use Rattle.pm_slice.proofs.clipping.+clip.Goals as goal

pub clip-returns : goal.clip-returns
clip-returns t c =
    let e = c.children.ensures.tokens in
    let same = clipped-within c.args.content.now c.args.from c.args.to c.size-size.result c.min-start.result c.min-end.result c.size-size.ensures.whole c.requires c.size-size.ensures.size c.min-start.ensures c.min-end.ensures in
    record {
      tokens = c.in_ok-made.ensures.tokens ∙ (ap (λ z. clipped z c.min-start.result c.min-end.result) e ∙ same);
      small = omega (arith, c.in_ok-made.ensures.small, ap length e);
    }

-- ---- of children

pub clip_children-append-requires-clause-room : goal.clip_children-append-requires-clause-room
clip_children-append-requires-clause-room t c =
    let room = part-room c.args.children.now c.args.from c.args.to c.requires.order c.requires.each c.in_ok-next.next c.find-last.result.index c.find-last.result.rest c.put_first.new.made c.in_ok-next.ensures c.if-last-next.false c.find-last.ensures in
    omega (arith, room, c.requires.bound)

pub clip_children-returns-then-last-next : goal.clip_children-returns-then-last-next
clip_children-returns-then-last-next t c =
    let xs = c.args.children.now in
    let k = c.in_ok-next.ensures in
    let within = stands-within xs c.args.from c.args.to c.requires.order c.requires.each c.in_ok-next.next c.find-last.result.index c.find-last.result.rest c.find-last.ensures c.if-last-next.true k.within in
    record {
      tokens = clipped-end xs c.args.from c.args.to c.requires.order c.requires.each c.in_ok-next.next c.put_first.new.made k within;
      small = clipped-small xs c.args.from c.args.to c.requires.order c.requires.each c.in_ok-next.next c.put_first.new.made k;
    }

pub clip_children-returns-then-last-eq0 : goal.clip_children-returns-then-last-eq0
clip_children-returns-then-last-eq0 t c =
    let xs = c.args.children.now in
    let j = c.find-last.result.index in
    let k = clipped-run xs c.args.from c.args.to c.requires.order c.requires.each c.in_ok-next.next j c.find-last.result.rest c.put_first.new.made c.append.new.self c.in_ok-next.ensures c.if-last-next.false c.find-last.ensures c.in_ok-append.ensures in
    let at = c.find-last.ensures.offset in
    record {
      tokens = clipped-end xs c.args.from c.args.to c.requires.order c.requires.each j c.append.new.self k (omega (arith, at, c.if-last-eq0.true));
      small = clipped-small xs c.args.from c.args.to c.requires.order c.requires.each j c.append.new.self k;
    }

pub clip_children-put_part-requires : goal.clip_children-put_part-requires
clip_children-put_part-requires t c =
    let xs = c.args.children.now in
    let j = c.find-last.result.index in
    let x = c.get.result.now in
    let d : 5 * length (list_tokens xs) + 3 ≡ t = c.decreases in
    let lt = stands-before c.find-last.ensures c.if-last-eq0.false in
    let size : length (node_tokens c.deref.result.now) ≡ length (node_tokens (arc_value x)) = ap (λ n. length (node_tokens n)) c.deref.ensures in
    let w = child-within xs j x lt c.get.ensures in
    let k = clipped-run xs c.args.from c.args.to c.requires.order c.requires.each c.in_ok-next.next j c.find-last.result.rest c.put_first.new.made c.append.new.self c.in_ok-next.ensures c.if-last-next.false c.find-last.ensures c.in_ok-append.ensures in
    let room = last-room xs c.args.from c.args.to c.requires.order c.requires.each j x c.append.new.self k lt c.get.ensures in
    let inside = c.find-last.ensures.inside x lt c.get.ensures in
    let g : 5 * length (node_tokens c.deref.result.now) + 1 < t = omega (arith, d, w, size) in
    (g, (omega (arith, room, size, c.requires.bound), (omega arith, (omega (arith, inside, size), (omega (arith, c.if-last-eq0.false), λ z. omega (arith, inside, size))))))

pub clip_children-returns : goal.clip_children-returns
clip_children-returns t c =
    let xs = c.args.children.now in
    let j = c.find-last.result.index in
    let r = c.find-last.result.rest in
    let lt = stands-before c.find-last.ensures c.if-last-eq0.false in
    let k = clipped-run xs c.args.from c.args.to c.requires.order c.requires.each c.in_ok-next.next j r c.put_first.new.made c.append.new.self c.in_ok-next.ensures c.if-last-next.false c.find-last.ensures c.in_ok-append.ensures in
    let is = subst (λ n. c.put_part.new.made ≡ c.append.new.self ++ clipped (node_tokens n) 0 r) c.deref.ensures c.in_ok-put_part.ensures.tokens in
    let small = subst (λ n. length (clipped (node_tokens n) 0 r) ≤ length (node_tokens n)) c.deref.ensures c.in_ok-put_part.ensures.small in
    let last = clipped-last xs c.args.from c.args.to c.requires.order c.requires.each j r c.get.result.now c.append.new.self c.put_part.new.made k c.find-last.ensures lt c.get.ensures is small in
    let behind = stands-within xs c.args.from c.args.to c.requires.order c.requires.each (j + 1) j r c.find-last.ensures (omega arith) last.within in
    record {
      tokens = clipped-end xs c.args.from c.args.to c.requires.order c.requires.each (j + 1) c.put_part.new.made last behind;
      small = clipped-small xs c.args.from c.args.to c.requires.order c.requires.each (j + 1) c.put_part.new.made last;
    }

-- ---- of the child that the part begins in

pub put_first-returns-then-first-eq0 : goal.put_first-returns-then-first-eq0
put_first-returns-then-first-eq0 t c =
    clipped-start c.args.children.now c.args.from c.args.to c.requires.order c.requires.each c.find-first.result.index c.find-first.result.rest c.args.made.now c.find-first.ensures c.if-first-eq0.true c.requires.empty

pub put_first-put_part-requires : goal.put_first-put_part-requires
put_first-put_part-requires t c =
    let xs = c.args.children.now in
    let i = c.find-first.result.index in
    let r = c.find-first.result.rest in
    let x = c.get.result.now in
    let d : 5 * length (list_tokens xs) + 2 ≡ t = c.decreases in
    let lt = stands-before c.find-first.ensures c.if-first-eq0.false in
    let size : length (node_tokens c.deref.result.now) ≡ length (node_tokens (arc_value x)) = ap (λ n. length (node_tokens n)) c.deref.ensures in
    let w = child-within xs i x lt c.get.ensures in
    let inside = c.find-first.ensures.inside x lt c.get.ensures in
    let at : length (front xs i) + r ≡ c.args.from = c.find-first.ensures.offset in
    let order : r ≤ c.args.to - (c.args.from - r) = omega (arith, at, c.requires.order) in
    let g : 5 * length (node_tokens c.deref.result.now) + 1 < t = omega (arith, d, w, size) in
    (g, (omega (arith, ap length c.requires.empty, w, size, c.requires.bound), (order, (omega (arith, inside, size), (omega (arith, order, c.if-first-eq0.false), λ z. absurd (c.if-first-eq0.false z))))))

pub put_first-overflow_add-result : goal.put_first-overflow_add-result
put_first-overflow_add-result t c =
    let lt = stands-before c.find-first.ensures c.if-first-eq0.false in
    omega (arith, lt, no-more-nodes c.args.children.now c.requires.normal, c.requires.bound)

pub put_first-returns : goal.put_first-returns
put_first-returns t c =
    let r = c.find-first.result.rest in
    let end = c.args.to - (c.args.from - r) in
    let lt = stands-before c.find-first.ensures c.if-first-eq0.false in
    let is = subst (λ n. c.put_part.new.made ≡ c.args.made.now ++ clipped (node_tokens n) r end) c.deref.ensures c.in_ok-put_part.ensures.tokens in
    let small = subst (λ n. length (clipped (node_tokens n) r end) ≤ length (node_tokens n)) c.deref.ensures c.in_ok-put_part.ensures.small in
    clipped-first c.args.children.now c.args.from c.args.to c.requires.order c.requires.each c.find-first.result.index r end c.get.result.now c.args.made.now c.put_part.new.made c.find-first.ensures lt c.get.ensures refl c.requires.empty is small

-- ---- of a node

pub clip_part-cut-requires-clause-order : goal.clip_part-cut-requires-clause-order
clip_part-cut-requires-clause-order t c =
    let us = c.in-Text.units in
    let size : length (node_tokens c.args.node.now) ≡ length us = ap length (node_tokens_at c.args.node.now (Text us) c.in-Text.is) ∙ length-text_tokens c.args.node.now.marks us in
    omega (arith, size, c.requires.order, c.requires.start, c.min-end.ensures, c.len.ensures)

-- the units that were cut
cut_is : (us cut : List ℕ) (from to end len : ℕ) → cut ≡ part from end us → end ≡ min len to → len ≡ length us → cut ≡ part from to us
cut_is us cut from to end len e n l = e ∙ (ap (λ z. part from z us) (n ∙ ap (λ z. min z to) l) ∙ part_min from to us)

pub clip_part-returns-in_ok-cut-in-Text-clause-tokens : goal.clip_part-returns-in_ok-cut-in-Text-clause-tokens
clip_part-returns-in_ok-cut-in-Text-clause-tokens t c =
    let us = c.in-Text.units in
    let same = cut_is us c.in_ok-cut-in-Text.cut c.args.from c.args.to _ _ c.in_ok-cut-in-Text.ensures c.min-end.ensures c.len.ensures in
    subst (λ z. IfOk c.with_body.result (λ n. node_tokens n ≡ z)) (clipped-text c.args.node.now us c.in_ok-cut-in-Text.cut c.args.from c.args.to c.in-Text.is same) c.with_body.ensures

pub clip_part-returns-in_ok-cut-in-Text-clause-small : goal.clip_part-returns-in_ok-cut-in-Text-clause-small
clip_part-returns-in_ok-cut-in-Text-clause-small t c =
    let us = c.in-Text.units in
    let n = c.args.node.now in
    let same = cut_is us c.in_ok-cut-in-Text.cut c.args.from c.args.to _ _ c.in_ok-cut-in-Text.ensures c.min-end.ensures c.len.ensures in
    let small : length (text_tokens n.marks c.in_ok-cut-in-Text.cut) ≤ length (node_tokens n) =
    omega (arith, text-small n.marks us c.args.from c.args.to, ap (λ z. length (text_tokens n.marks z)) same, ap length (node_tokens_at n (Text us) c.in-Text.is)) in
    IfOk-weaker c.with_body.result (λ m. node_tokens m ≡ text_tokens n.marks c.in_ok-cut-in-Text.cut) (λ m. length (node_tokens m) ≤ length (node_tokens n)) (λ m e. omega (arith, small, ap length e)) c.with_body.ensures

pub clip_part-returns-in_ok-inner-in-Children-clause-tokens : goal.clip_part-returns-in_ok-inner-in-Children-clause-tokens
clip_part-returns-in_ok-inner-in-Children-clause-tokens t c =
    let n = c.args.node.now in
    let inner = c.in-Children.content in
    let same : clipped (node_tokens n) c.args.from c.args.to ≡ Open n.kind n.attrs n.marks ∷ (clipped inner (c.args.from - 1) (c.args.to - 1) ++ (Close ∷ [])) =
    clipped-node n inner c.args.from c.args.to c.in-Children.is c.size.ensures.whole c.requires.order c.requires.start c.requires.some c.requires.parted in
    let made : c.in_ok-inner-in-Children.inner ≡ clipped inner (c.args.from - 1) (c.args.to - 1) =
    c.in_ok-inner-in-Children.ensures.tokens ∙ ap (λ z. clipped inner z (c.args.to - 1)) c.saturating_sub-start.ensures in
    subst (λ z. IfOk c.with_body-in-Children.result (λ m. node_tokens m ≡ z)) (ap (λ z. Open n.kind n.attrs n.marks ∷ (z ++ (Close ∷ []))) made ∙ sym same) c.with_body-in-Children.ensures

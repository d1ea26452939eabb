use Rattle.std.proofs.Common.{◌≡◌, ◌<◌, ℕ, List, length, get_or, ap, sym, ◌∙◌, subst, arith}
use Rattle.std.proofs.lemmas.Grind.{get_or_default_zero}
use Rattle.pm_node.specs.Reached.{IsAmong, AreBelow}
use Rattle.pm_node.proofs.ReachedLaws.{among-push, below-push, still-among, closed-more, if-only}
use Rattle.pm_node.proofs.reached.only_state.Goals as goal

pub loop-i-init : goal.loop-i-init
loop-i-init c =
    let a = c.args.automaton.now in
    let xs = c.new-found.result.items in
    let ys = c.push.new.self.items in
    let P : ℕ → Type 0 = IsAmong ys in
    record {
      below = below-push (length a.sets) xs ys c.start.result c.in_ok-push.ensures.items c.start.ensures.inside (λ j l. absurd (omega (arith, l, ap length c.new-found.ensures.items)));
      start = subst P c.start.ensures.start (among-push xs ys c.start.result c.in_ok-push.ensures.items);
      closed = λ j l. absurd (omega (arith, l));
    }

pub add_targets-requires-clause-state : goal.add_targets-requires-clause-state
add_targets-requires-clause-state c =
    let xs = c.loop-i.found.items in
    let lt : c.loop-i.i < length xs = omega (arith, c.loop-i-test.true, c.len.ensures, c.loop-i.found.ok.0) in
    omega (arith, c.loop-i.invariant.below c.loop-i.i lt, c.index-state.ensures ∙ get_or_default_zero xs c.loop-i.i c.index-state.result.now lt)

pub add_targets-requires-clause-below : goal.add_targets-requires-clause-below
add_targets-requires-clause-below c = c.loop-i.invariant.below

pub loop-i-smaller : goal.loop-i-smaller
loop-i-smaller c = omega (arith, c.if-i-ge-MOST.false)

pub loop-i-preserved : goal.loop-i-preserved
loop-i-preserved c =
    let a = c.args.automaton.now in
    let xs = c.loop-i.found.items in
    let ys = c.add_targets.new.found.items in
    let k = c.in_ok-add_targets.ensures in
    let h = c.loop-i.invariant in
    let lt : c.loop-i.i < length xs = omega (arith, c.loop-i-test.true, c.len.ensures, c.loop-i.found.ok.0) in
    let is : c.index-state.result.now ≡ get_or xs c.loop-i.i 0 = c.index-state.ensures ∙ get_or_default_zero xs c.loop-i.i c.index-state.result.now lt in
    record {
      below = k.below;
      start = still-among xs ys 0 k.on h.start;
      closed = closed-more a.edges xs ys c.loop-i.i c.index-state.result.now k.on lt is h.closed k.leads;
    }

pub agreed-requires : goal.agreed-requires
agreed-requires c =
    let P : List ℕ → Type 0 = AreBelow (length c.args.automaton.now.sets) in
    subst P (sym c.deref.ensures.value) c.loop-i.invariant.below

pub returns-clause-only : goal.returns-clause-only
returns-clause-only c =
    let a = c.args.automaton.now in
    let xs = c.loop-i.found.items in
    let h = c.loop-i.invariant in
    if-only a.sets a.edges xs c.deref.result.now c.args.kind c.agreed.result c.deref.ensures.value
    (λ j l. h.closed j (omega (arith, l, c.loop-i-test.false, c.len.ensures, c.loop-i.found.ok.0))) h.start c.agreed.ensures.leads

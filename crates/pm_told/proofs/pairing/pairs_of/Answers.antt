use Rattle.std.proofs.Common.{◌≡◌, ◌∙◌, ◌+◌, ◌-◌, ◌<◌, ◌≤◌, ◌++◌, ℕ, List, [], ◌∷◌, true, false, length, reverse, drop, get_or, ap, sym, arith}
use Rattle.pm_authority.specs.declared.named.Named.{Named}
use Rattle.pm_meaning.specs.Steps.{Step}
use Rattle.pm_told.specs.Showing.{pairs_of, is_next, sum}
use Rattle.pm_told.proofs.Pairings.{sum-reverse, next-within, place-before, goes-lost, goes-paired, goes-alone}
use Rattle.pm_told.proofs.pairing.pairs_of.Goals as goal
use Rattle.pm_told.proofs.pairing.pairs_of.Goals.{then-is_next, then-size-eq1+in_ok-push, else-size-eq1, else-is_next}

pub loop-i-init : goal.loop-i-init
loop-i-init c =
    let at : c.args.first + 0 ≡ c.args.first = omega arith in
    record {
      so_far = ap (λ (l : List (ℕ × ℕ)). l ++ pairs_of c.args.pending.now (reverse c.args.sizes.now) c.args.kept.now (c.args.first + 0)) c.new-pairs.ensures.items
          ∙ ap (pairs_of c.args.pending.now (reverse c.args.sizes.now) c.args.kept.now) at;
      place_is = c.requires.back ∙ sym (sum-reverse c.args.sizes.now);
      within = omega arith;
    }

pub overflow_sub-place : goal.overflow_sub-place
overflow_sub-place c =
    let i = c.loop-i.i in
    let more : i < length c.args.pending.now = omega arith in
    let before =
    place-before c.args.sizes.now c.args.pending.now c.args.kept.now c.args.first i c.loop-i.count c.loop-i.place c.index-pending-i.result
    (pairs_of c.args.pending.now (reverse c.args.sizes.now) c.args.kept.now c.args.first) c.loop-i.pairs.items
    c.loop-i.invariant.so_far c.loop-i.invariant.place_is c.requires.sizes more c.index-pending-i.is in
    omega (arith, before)

pub loop-i-preserved : goal.loop-i-preserved
loop-i-preserved c =
    let i = c.loop-i.i in
    let p = c.index-pending-i.result in
    let more : i < length c.args.pending.now = omega arith in
    let all : List (ℕ × ℕ) = pairs_of c.args.pending.now (reverse c.args.sizes.now) c.args.kept.now c.args.first in
    let before =
    place-before c.args.sizes.now c.args.pending.now c.args.kept.now c.args.first i c.loop-i.count c.loop-i.place p all c.loop-i.pairs.items
    c.loop-i.invariant.so_far c.loop-i.invariant.place_is c.requires.sizes more c.index-pending-i.is in
    record {
      so_far = elim c.if-is_next.branch [
        | then-is_next w ↦
            let e : is_next (drop c.loop-i.count c.args.kept.now) p ≡ true = sym c.is_next.ensures ∙ w.if-is_next.true in
            let next : c.if-is_next.count ≡ c.loop-i.count + 1 = w.count-is in
            elim w.if-size-eq1.branch [
              | then-size-eq1+in_ok-push w' ↦
                  let new : c.if-is_next.pairs.items ≡ c.loop-i.pairs.items ++ ((c.loop-i.place - get_or c.args.sizes.now (length c.args.sizes.now - 1 - i) 0, c.args.first + c.loop-i.count) ∷ []) =
                  cc (w.pairs-is, w'.pairs-is, w'.in_ok-push.ensures.items) in
                  goes-paired c.args.sizes.now c.args.pending.now c.args.kept.now c.args.first i c.loop-i.count c.loop-i.place p all c.loop-i.pairs.items
                  c.loop-i.invariant.so_far c.loop-i.invariant.place_is c.requires.sizes more c.index-pending-i.is e c.if-is_next.pairs.items c.if-is_next.count next
                  w'.if-size-eq1.true new
              | else-size-eq1 w' ↦
                  let new : c.if-is_next.pairs.items ≡ c.loop-i.pairs.items = cc (w.pairs-is, w'.pairs-is) in
                  goes-alone c.args.sizes.now c.args.pending.now c.args.kept.now c.args.first i c.loop-i.count c.loop-i.place p all c.loop-i.pairs.items
                  c.loop-i.invariant.so_far c.loop-i.invariant.place_is c.requires.sizes more c.index-pending-i.is e c.if-is_next.pairs.items c.if-is_next.count next
                  w'.if-size-eq1.false new
            ]
        | else-is_next w ↦
            let e : is_next (drop c.loop-i.count c.args.kept.now) p ≡ false = sym c.is_next.ensures ∙ w.if-is_next.false in
            let new : c.if-is_next.pairs.items ≡ c.loop-i.pairs.items = cc (w.pairs-is) in
            goes-lost c.args.sizes.now c.args.pending.now c.args.kept.now c.args.first i c.loop-i.count c.loop-i.place p all c.loop-i.pairs.items
            c.loop-i.invariant.so_far c.loop-i.invariant.place_is c.requires.sizes more c.index-pending-i.is e c.if-is_next.pairs.items c.if-is_next.count new w.count-is
      ];
      place_is = omega (arith, before);
      within = elim c.if-is_next.branch [
        | then-is_next w ↦
            let e : is_next (drop c.loop-i.count c.args.kept.now) p ≡ true = sym c.is_next.ensures ∙ w.if-is_next.true in
            let less = next-within c.args.kept.now c.loop-i.count p e in
            let next : c.if-is_next.count ≡ c.loop-i.count + 1 = w.count-is in
            omega (arith, less, next)
        | else-is_next w ↦
            let next : c.if-is_next.count ≡ c.loop-i.count = w.count-is in
            let kept = c.loop-i.invariant.within in
            omega (arith, next, kept)
      ];
    }

use Rattle.std.proofs.Common.{◌+◌, ◌-◌, ◌≤◌, ◌++◌, length, take, drop, ap, ◌∙◌, arith, append_assoc}
use Rattle.pm_units.specs.Pieces.{piece_units, pieces_in, text_in}
use Rattle.pm_units.proofs.TextLaws.{cut-more, run-there}
use Rattle.pm_units.proofs.pieces.Pieces.put_part.Goals as goal

pub overflow_add-place : goal.overflow_add-place
overflow_add-place c = omega (arith, c.place-place.ensures.place)

pub put_part-requires-clause-order : goal.put_part-requires-clause-order
put_part-requires-clause-order c =
    let inside = c.place-place.ensures.inside c.piece-piece.result.now c.piece-piece.ensures in
    omega (arith, c.min-end.ensures, c.len.ensures, inside)

pub put_part-requires-clause-within : goal.put_part-requires-clause-within
put_part-requires-clause-within c = omega (arith, c.min-end.ensures, c.len.ensures)

pub overflow_sub-at : goal.overflow_sub-at
overflow_sub-at c =
    let inside = c.place-place.ensures.inside c.piece-piece.result.now c.piece-piece.ensures in
    omega (arith, c.min-end.ensures, c.len.ensures, inside)

pub overflow_add-at : goal.overflow_add-at
overflow_add-at c =
    let inside = c.place-place.ensures.inside c.piece-piece.result.now c.piece-piece.ensures in
    omega (arith, c.min-end.ensures, c.len.ensures, inside, c.loop-at-test.true)

pub loop-at-smaller : goal.loop-at-smaller
loop-at-smaller c =
    let inside = c.place-place.ensures.inside c.piece-piece.result.now c.piece-piece.ensures in
    omega (arith, c.min-end.ensures, c.len.ensures, inside, c.loop-at-test.true)

pub loop-at-preserved : goal.loop-at-preserved
loop-at-preserved c =
    let T = text_in c.args.self.now in
    let p = c.piece-piece.result.now in
    let at = c.loop-at.at in
    let rest = c.place-place.result.rest in
    let n = c.min-end.result - rest in
    let start = c.loop-at.invariant.from_on in
    let test = c.loop-at-test.true in
    let inside = c.place-place.ensures.inside p c.piece-piece.ensures in
    let fits : rest + n ≤ length (piece_units p) = omega (arith, c.min-end.ensures, c.len.ensures, inside, test) in
    let run = run-there (pieces_in c.args.self.now) at c.place-place.result.index rest n p c.place-place.ensures c.piece-piece.ensures fits in
    let before = take (at - c.args.from) (drop c.args.from T) in
    let old = c.args.list.now.items in
    record {
      from_on = omega (arith, start);
      within = omega (arith, c.min-end.ensures, c.len.ensures, inside, test);
      put = c.in_ok-put_part.ensures
          ∙ (ap (λ us. us ++ take n (drop rest (piece_units p))) c.loop-at.invariant.put
          ∙ (append_assoc old before (take n (drop rest (piece_units p)))
          ∙ ap (λ us. old ++ us) (ap (λ us. before ++ us) run ∙ cut-more T c.args.from at n start)));
    }

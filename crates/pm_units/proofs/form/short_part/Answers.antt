use Rattle.std.proofs.Common.{◌≡◌, ℕ, ◌+◌, ◌-◌, ◌≤◌, List, ◌++◌, length, take, drop, get_or, ap, ◌∙◌, arith}
use Rattle.pm_units.specs.declared.piece.Piece.{Piece}
use Rattle.pm_units.specs.Pieces.{piece_units, pieces_in, spelled, IsAt}
use Rattle.pm_units.proofs.TextLaws.{cut-more, run-there}
use Rattle.pm_units.proofs.form.short_part.Goals as goal

pub overflow_add-place : goal.overflow_add-place
overflow_add-place c = omega (arith, c.place-place.ensures.place)

pub part-requires-clause-order : goal.part-requires-clause-order
part-requires-clause-order c =
    let inside = c.place-place.ensures.inside c.piece-piece.result.now c.piece-piece.ensures in
    omega (arith, c.min-end.ensures, c.len.ensures, inside)

pub part-requires-clause-within : goal.part-requires-clause-within
part-requires-clause-within c = omega (arith, c.min-end.ensures, c.len.ensures)

pub overflow_sub-at : goal.overflow_sub-at
overflow_sub-at c =
    let inside = c.place-place.ensures.inside c.piece-piece.result.now c.piece-piece.ensures in
    omega (arith, c.min-end.ensures, c.len.ensures, inside)

pub overflow_add-at : goal.overflow_add-at
overflow_add-at c =
    let inside = c.place-place.ensures.inside c.piece-piece.result.now c.piece-piece.ensures in
    omega (arith, c.min-end.ensures, c.len.ensures, inside, c.loop-at-test.true)

pub loop-at-smaller : goal.loop-at-smaller
loop-at-smaller c =
    let inside = c.place-place.ensures.inside c.piece-piece.result.now c.piece-piece.ensures in
    omega (arith, c.min-end.ensures, c.len.ensures, inside, c.loop-at-test.true)

-- the units of one more piece
run-more : (ps : List (Piece × ℕ)) (from at index rest n : ℕ) (p : Piece) (made part joined : List ℕ) → from ≤ at → IsAt ps at index rest → p ≡ (get_or ps index (p, 0)).0 → rest + n ≤ length (piece_units p)
    → made ≡ take (at - from) (drop from (spelled ps)) → part ≡ take n (drop rest (piece_units p)) → joined ≡ made ++ part → joined ≡ take (at + n - from) (drop from (spelled ps))
run-more ps from at index rest n p made part joined o w e le m q j =
    let before = take (at - from) (drop from (spelled ps)) in
    j ∙ (ap (λ us. us ++ part) m ∙ (ap (λ us. before ++ us) (q ∙ run-there ps at index rest n p w e le) ∙ cut-more (spelled ps) from at n o))

pub loop-at-preserved : goal.loop-at-preserved
loop-at-preserved c =
    let p = c.piece-piece.result.now in
    let at = c.loop-at.at in
    let n = c.min-end.result - c.place-place.result.rest in
    let start = c.loop-at.invariant.from_on in
    let inside = c.place-place.ensures.inside p c.piece-piece.ensures in
    record {
      from_on = omega (arith, start);
      within = omega (arith, c.min-end.ensures, c.len.ensures, inside, c.loop-at-test.true);
      made = run-more (pieces_in c.args.pieces.now) c.args.from at c.place-place.result.index c.place-place.result.rest n p (piece_units c.loop-at.made) (piece_units c.in_ok-part.part) (piece_units c.in_ok-joined.joined)
          start c.place-place.ensures c.piece-piece.ensures (omega (arith, c.min-end.ensures, c.len.ensures, inside, c.loop-at-test.true)) c.loop-at.invariant.made c.in_ok-part.ensures c.in_ok-joined.ensures;
    }

pub loop-at-preserved-in_ok-joined : goal.loop-at-preserved-in_ok-joined
loop-at-preserved-in_ok-joined c =
    let p = c.piece-piece.result.now in
    let at = c.loop-at.at in
    let n = c.min-end.result - c.place-place.result.rest in
    let start = c.loop-at.invariant.from_on in
    let inside = c.place-place.ensures.inside p c.piece-piece.ensures in
    record {
      from_on = omega (arith, start);
      within = omega (arith, c.min-end.ensures, c.len.ensures, inside, c.loop-at-test.true);
      made = run-more (pieces_in c.args.pieces.now) c.args.from at c.place-place.result.index c.place-place.result.rest n p (piece_units c.loop-at.made) (piece_units c.in_ok-part.part) (piece_units c.in_ok-joined.joined)
          start c.place-place.ensures c.piece-piece.ensures (omega (arith, c.min-end.ensures, c.len.ensures, inside, c.loop-at-test.true)) c.loop-at.invariant.made c.in_ok-part.ensures c.in_ok-joined.ensures;
    }

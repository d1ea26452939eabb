use Rattle.std.proofs.Common.{◌+◌, ◌-◌, ◌≤◌, ◌++◌, length, take, ap, ◌∙◌, arith}
use Rattle.std.proofs.lemmas.List.{length-take-le}
use Rattle.pm_units.specs.Pieces.{piece_units}
use Rattle.pm_units.proofs.TextLaws.{cut-length, take-more}
use Rattle.pm_units.proofs.form.pieces_of.Goals as goal

pub push-requires-clause-some : goal.push-requires-clause-some
push-requires-clause-some c =
    let us = c.args.units.now in
    let at = c.loop-at.at in
    let end = c.min-end.result in
    let within = c.loop-at.invariant.within in
    let test = c.loop-at-test.true in
    let order : at ≤ end = omega (arith, c.min-end.ensures, within) in
    let most : end ≤ length us = omega (arith, c.min-end.ensures) in
    let size = cut-length us at end order most in
    let piece = c.in_ok-piece.ensures in
    omega (arith, ap length piece, size, c.min-end.ensures, test)

pub push-requires-clause-most : goal.push-requires-clause-most
push-requires-clause-most c =
    let us = c.args.units.now in
    let at = c.loop-at.at in
    let end = c.min-end.result in
    let within = c.loop-at.invariant.within in
    let test = c.loop-at-test.true in
    let order : at ≤ end = omega (arith, c.min-end.ensures, within) in
    let most : end ≤ length us = omega (arith, c.min-end.ensures) in
    let size = cut-length us at end order most in
    let piece = c.in_ok-piece.ensures in
    omega (arith, ap length piece, size, c.min-end.ensures)

pub push-requires-clause-room : goal.push-requires-clause-room
push-requires-clause-room c =
    let us = c.args.units.now in
    let at = c.loop-at.at in
    let end = c.min-end.result in
    let within = c.loop-at.invariant.within in
    let test = c.loop-at-test.true in
    let order : at ≤ end = omega (arith, c.min-end.ensures, within) in
    let most : end ≤ length us = omega (arith, c.min-end.ensures) in
    let size = cut-length us at end order most in
    let piece = c.in_ok-piece.ensures in
    omega (arith, ap length piece, size, ap length c.loop-at.invariant.text, length-take-le at us within, c.requires, order, most)

pub loop-at-preserved : goal.loop-at-preserved
loop-at-preserved c =
    let us = c.args.units.now in
    let at = c.loop-at.at in
    let end = c.min-end.result in
    let within = c.loop-at.invariant.within in
    let test = c.loop-at-test.true in
    let order : at ≤ end = omega (arith, c.min-end.ensures, within) in
    let most : end ≤ length us = omega (arith, c.min-end.ensures) in
    let size = cut-length us at end order most in
    let piece = c.in_ok-piece.ensures in
    record {
      pieces = c.in_ok-push.ensures.pieces;
      within = most;
      text = c.in_ok-push.ensures.text
          ∙ (ap (λ vs. vs ++ piece_units c.in_ok-piece.piece) c.loop-at.invariant.text
          ∙ (ap (λ vs. take at us ++ vs) piece
          ∙ (take-more at (end - at) us ∙ ap (λ n. take n us) {x = at + (end - at)} {y = end} (omega arith))));
    }

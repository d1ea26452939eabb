use Rattle.std.proofs.Common.{◌++◌, ℕ, length, ap, sym, ◌∙◌, subst, arith, length-append}
use Rattle.pm_units.specs.Pieces.{text_in, IsPieces, form_units}
use Rattle.pm_units.proofs.form.Form.join.Goals as goal

pub returns-then-len-le-PIECE-clause-form : goal.returns-then-len-le-PIECE-clause-form
returns-then-len-le-PIECE-clause-form c = omega (arith, ap length c.in_ok-joined.ensures, length-append {A = ℕ}, c.len.ensures, c.len-in-Short-Short.ensures, c.if-len-le-PIECE.true)

pub returns-clause-form : goal.returns-clause-form
returns-clause-form c = subst IsPieces (sym c.in_ok-new.ensures.ok) c.in_ok-put.ensures.pieces

pub returns-clause-units : goal.returns-clause-units
returns-clause-units c = ap text_in c.in_ok-new.ensures.ok ∙ (c.in_ok-put.ensures.text ∙ ap (λ us. us ++ form_units c.args.other.now) c.in_ok-made.ensures.text)

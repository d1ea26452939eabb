use Rattle.std.proofs.Common.{◌≡◌, ◌+◌, [], ◌∷◌, false, get_or, sym, ◌∙◌, ap, subst, drop, arith}
use Rattle.pm_expr.specs.Tokens.{tokens_from, in_run}
use Rattle.pm_expr.specs.Views.{token_of}
use Rattle.pm_expr.proofs.Scans.{signs-at}
use Rattle.pm_expr.proofs.tokens.Tokens.take.Goals as goal

pub returns-clause-token : goal.returns-clause-token
returns-clause-token c =
    let text = c.args.self.now.text.now in
    let inside = c.args.self.now.inside in
    let from = c.skip_blanks-from.result in
    let same : c.run_end-to.result ≡ from = omega arith in
    let alone : in_run inside (get_or text from 0) ≡ false = subst (λ z. in_run inside (get_or text z 0) ≡ false) same (c.run_end-to.ensures.stops (omega arith)) in
    c.skip_blanks-from.ensures.same
    ∙ signs-at inside text from (token_of c.sign.result) (omega arith) alone c.sign.ensures
    ∙ ap (λ z. token_of c.sign.result ∷ tokens_from z (from + 1) [] (drop (from + 1) text)) (sym c.inside_after-self.ensures)

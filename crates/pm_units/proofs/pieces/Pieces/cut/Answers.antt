use Rattle.std.proofs.Common.{◌≡◌, length, drop, ap, ◌∙◌, subst, arith}
use Rattle.std.specs.Prelude.{IfOk}
use Rattle.std.proofs.lemmas.List.{length-take-le}
use Rattle.pm_units.specs.Pieces.{text_in}
use Rattle.pm_units.proofs.TextLaws.{cut-front, cut-back, cut-middle}
use Rattle.pm_units.proofs.pieces.Pieces.cut.Goals as goal

pub returns-then-from-eq0-clause-text : goal.returns-then-from-eq0-clause-text
returns-then-from-eq0-clause-text c = subst (λ us. IfOk c.head.result (λ p. text_in p ≡ us)) (cut-front (text_in c.args.self.now) c.args.from c.args.to c.if-from-eq0.true) c.head.ensures.text

pub returns-then-to-len-clause-text : goal.returns-then-to-len-clause-text
returns-then-to-len-clause-text c = subst (λ us. IfOk c.tail.result (λ p. text_in p ≡ us)) (cut-back (text_in c.args.self.now) c.args.from c.args.to (c.if-to-len.true ∙ c.len.ensures)) c.tail.ensures.text

pub tail-requires-2-clause-within : goal.tail-requires-2-clause-within
tail-requires-2-clause-within c = omega (arith, ap length c.in_ok-front.ensures.text, length-take-le c.args.to (text_in c.args.self.now) c.requires.within, c.requires.order)

pub returns-clause-text : goal.returns-clause-text
returns-clause-text c =
    subst (λ us. IfOk c.tail-2.result (λ p. text_in p ≡ us)) (ap (λ us. drop c.args.from us) c.in_ok-front.ensures.text ∙ cut-middle (text_in c.args.self.now) c.args.from c.args.to c.requires.order) c.tail-2.ensures.text

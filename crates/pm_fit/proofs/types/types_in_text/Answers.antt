use Rattle.std.specs.Prelude.{None, take, unwrap_or, ◌∷◌, ◌++◌, []}
use Rattle.std.proofs.Common.{◌≡◌, ap, sym, ◌∙◌, arith}
use Rattle.pm_tokens.specs.Kids.{text_tokens, kids}
use Rattle.pm_schema.specs.Documents.{documents_of}
use Rattle.pm_fit.proofs.TypeLaws.{text-seen, text-empty}
use Rattle.pm_fit.proofs.types.types_in_text.Goals as goal

pub returns-then-len-eq0 : goal.returns-then-len-eq0
returns-then-len-eq0 c = λ m.
    c.new-types.ensures ∙ sym (text-empty (documents_of c.args.schema.now.spec).text m c.args.units.now c.args.pos (sym c.len.ensures ∙ c.if-len-eq0.true))

pub returns-then-pos-eq0 : goal.returns-then-pos-eq0
returns-then-pos-eq0 c = λ m.
    let text = (documents_of c.args.schema.now.spec).text in
    c.new-types.ensures ∙ sym (ap (λ q. kids text 0 None (take q (text_tokens m c.args.units.now))) c.if-pos-eq0.true)

pub returns : goal.returns
unfolding documents_of
returns c = λ m.
    let text = (documents_of c.args.schema.now.spec).text in
    let is : c.text_type.result ≡ text = sym (ap (λ o. unwrap_or o 0) c.text_type.ensures.named) in
    c.in_ok-push.ensures.ok ∙ (ap (λ ks. ks ++ (c.text_type.result ∷ [])) c.new-types.ensures ∙ (ap (λ k. k ∷ []) is ∙ sym (text-seen text m c.args.units.now c.args.pos (omega (arith, c.len.ensures, c.if-len-eq0.false)) (omega (arith, c.if-pos-eq0.false)))))

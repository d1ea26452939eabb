use Rattle.std.proofs.Common.{◌≡◌, false, length, sym, ◌∙◌, arith}
use Rattle.std.proofs.lemmas.List.{length-map}
use Rattle.pm_value.specs.Views.{plain, plains}
use Rattle.pm_schema.specs.Attrs.{attrs_of}
use Rattle.pm_schema.proofs.FitLaws.{Fits}
use Rattle.pm_node.proofs.ValueLaws.{fit-told}
use Rattle.pm_replace.proofs.known.values_fit.Goals as goal

pub returns-then-values-attr_count : goal.returns-then-values-attr_count
returns-then-values-attr_count c =
    let attrs = attrs_of c.args.schema.now.spec c.args.kind in
    let vs = plains c.args.values.now in
    fit-told attrs vs false (λ e. absurd (cc)) (λ (w : Fits attrs vs). absurd (c.if-values-attr_count.true (sym (length-map c.args.values.now plain) ∙ (w.many ∙ sym c.attr_count.ensures.count))))

pub returns-then-values_are_within : goal.returns-then-values_are_within
returns-then-values_are_within c =
    let attrs = attrs_of c.args.schema.now.spec c.args.kind in
    let vs = plains c.args.values.now in
    let many : length vs ≡ length attrs = length-map c.args.values.now plain ∙ omega (arith, c.if-values-attr_count.false, c.attr_count.ensures.count) in
    fit-told attrs vs c.kinds_fit.result
    (λ e. record { many = many; low = c.values_are_within.ensures.0 c.if-values_are_within.true; kinds = c.kinds_fit.ensures.0 e })
    (λ (w : Fits attrs vs). c.kinds_fit.ensures.1 w.kinds)

pub returns-else-values_are_within : goal.returns-else-values_are_within
returns-else-values_are_within c =
    let attrs = attrs_of c.args.schema.now.spec c.args.kind in
    let vs = plains c.args.values.now in
    let f : c.values_are_within.result ≡ false = c.if-values_are_within.false in
    fit-told attrs vs c.values_are_within.result (λ e. absurd (cc)) (λ (w : Fits attrs vs). c.values_are_within.ensures.1 w.low)

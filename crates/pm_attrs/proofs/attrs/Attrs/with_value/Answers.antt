use Rattle.std.proofs.Common.{◌≡◌, slice_set, ap, ◌∙◌}
use Rattle.std.proofs.lemmas.List.{map-set}
use Rattle.pm_value.specs.Views.{plain, plains}
use Rattle.pm_attrs.proofs.attrs.Attrs.with_value.Goals as goal

pub returns : goal.returns
returns c =
    let i = c.args.i in
    let values : plains c.in_ok-values.values.items ≡ c.args.self.now = ap plains c.in_ok-values.ensures ∙ c.values.ensures in
    c.new.ensures ∙ (map-set plain c.in_ok-values.values.items i c.in_ok-values-2.field-0 ∙ (ap (λ vs. slice_set vs i (plain c.in_ok-values-2.field-0)) values ∙ ap (λ v. slice_set c.args.self.now i (plain v)) c.in_ok-values-2.ensures))

use Rattle.std.proofs.Common.{◌≡◌, ◌-◌, take, drop, length, ap, ◌∙◌, subst}
use Rattle.std.specs.Prelude.{min, IfOk, string_bytes}
use Rattle.pm_text.specs.Units.{utf8}
use Rattle.pm_units.proofs.TextLaws.{clipped}
use Rattle.pm_units.proofs.units.Units.part_text.Goals as goal

pub returns : goal.returns
returns c =
    let us = c.args.self.now in
    let end : c.min-end.result ≡ min (length us) c.args.to = c.min-end.ensures ∙ (ap (λ n. min n c.args.to) (c.len.ensures.units ∙ ap length c.self.view_is)) in
    let units = c.deref.ensures.value ∙ (c.in_ok-units.ensures ∙ (ap (λ vs. take (c.min-end.result - c.min-start.result) (drop c.min-start.result vs)) c.self.view_is ∙ clipped us c.args.from c.args.to c.min-end.result c.min-start.result end c.min-start.ensures)) in
    subst (λ vs. IfOk c.lossy.result (λ s. string_bytes s ≡ utf8 vs)) units c.lossy.ensures.text

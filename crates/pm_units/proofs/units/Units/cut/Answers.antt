use Rattle.std.proofs.Common.{◌≡◌, ◌-◌, ◌≤◌, ◌++◌, length, take, drop, ap, sym, ◌∙◌, subst}
use Rattle.std.proofs.lemmas.List.{take-append-drop}
use Rattle.pm_units.specs.Pieces.{form_units}
use Rattle.pm_units.proofs.units.Units.cut.Goals as goal

pub cut-requires-clause-within : goal.cut-requires-clause-within
cut-requires-clause-within c = subst (λ us. c.args.to ≤ length us) (sym c.self.view_is) c.requires.within

pub invariant_of-result : goal.invariant_of-result
invariant_of-result c =
    let T = c.args.self.now in
    let n = c.args.to - c.args.from in
    let units : form_units c.in_ok-form.form ≡ take n (drop c.args.from T) = c.in_ok-form.ensures.units ∙ ap (λ us. take n (drop c.args.from us)) c.self.view_is in
    let before = take c.args.from T in
    let after = drop n (drop c.args.from T) in
    let all : T ≡ before ++ (form_units c.in_ok-form.form ++ after) = sym (ap (λ us. before ++ us) (ap (λ us. us ++ after) units ∙ take-append-drop n (drop c.args.from T)) ∙ take-append-drop c.args.from T) in
    record { form_is = c.in_ok-form.ensures.form; none = λ whole. c.part_is_whole-whole.ensures before after all whole }

pub returns : goal.returns
returns c =
    let T = c.args.self.now in
    let n = c.args.to - c.args.from in
    let units : form_units c.in_ok-form.form ≡ take n (drop c.args.from T) = c.in_ok-form.ensures.units ∙ ap (λ us. take n (drop c.args.from us)) c.self.view_is in
    units

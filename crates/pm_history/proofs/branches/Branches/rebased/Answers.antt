use Rattle.std.proofs.Common.{◌≡◌, ◌-◌, ◌∙◌, sym, ap, subst, drop, take, length, OnOk, arith}
use Rattle.std.proofs.lemmas.List.{take_rest}
use Rattle.pm_history.specs.Trims.{trimmed}
use Rattle.pm_history.proofs.Events.{replaced-rebased}
use Rattle.pm_history.proofs.branches.Branches.rebased.Goals as goal

pub returns-then-are_few-clause-ok : goal.returns-then-are_few-clause-ok
returns-then-are_few-clause-ok g c =
    let h = c.args.self.now in
    let its = c.items-2.result.now in
    let at = c.saturating_sub-at.result in
    let place : at ≡ length h.items - c.args.gone = omega (arith, c.saturating_sub-at.ensures, ap length c.items.ensures) in
    subst (λ x. OnOk c.rebased_settled.result (c.rebased_settled.new.self ≡ trimmed x))
    (replaced-rebased h c.args.gone at c.args.foreign.items c.args.kept.items c.as_slice.result.now its (take (length its - at) (drop at its)) c.items-2.ensures place (take_rest its at) c.as_slice.ensures.value
    (sym c.any_dropped.ensures ∙ c.if-any_dropped.false))
    c.rebased_settled.ensures.ok

pub returns-else-at-gt0-clause-ok : goal.returns-else-at-gt0-clause-ok
returns-else-at-gt0-clause-ok g c =
    let h = c.args.self.now in
    let its = c.items-2.result.now in
    let at = c.saturating_sub-at.result in
    let place : at ≡ length h.items - c.args.gone = omega (arith, c.saturating_sub-at.ensures, ap length c.items.ensures) in
    subst (λ x. OnOk c.rebased_whole.result (c.rebased_whole.new.self ≡ trimmed x))
    (replaced-rebased h c.args.gone at c.args.foreign.items c.args.kept.items c.as_slice.result.now its (take (length its - at) (drop at its)) c.items-2.ensures place (take_rest its at) c.as_slice.ensures.value
    (sym c.any_dropped.ensures ∙ c.if-any_dropped.false))
    c.rebased_whole.ensures.ok

use Rattle.std.proofs.Common.{◌≡◌, ◌+◌, ◌<◌, ◌≤◌, ◌∙◌, ap, sym, subst, arith, drop, length, List, Some, Option, ℕ}
use Rattle.pm_map.specs.declared.step_map.Span.{Span}
use Rattle.pm_map.specs.Through.{at_pos, new_at, result_start, stepped}
use Rattle.pm_history.specs.Laters.{items_of, entry_at}
use Rattle.pm_history.specs.Pairs.{paired}
use Rattle.pm_history.proofs.Leading.{mirror-within, mirror-fits, partner-behind}
use Rattle.pm_history.proofs.later.Later.recovered.Goals as goal

pub overflow_add-i : goal.overflow_add-i
overflow_add-i g c =
    let below = mirror-within (items_of c.args.self.now) c.args.i c.in-Some.gap c.requires.within (sym c.mirror_of.ensures ∙ c.in-Some.is) in
    omega (arith, below)

pub overflow_add-i-2 : goal.overflow_add-i-2
overflow_add-i-2 g c =
    let below = mirror-within (items_of c.args.self.now) c.args.i c.in-Some.gap c.requires.within (sym c.mirror_of.ensures ∙ c.in-Some.is) in
    omega (arith, below)

pub at-requires : goal.at-requires
at-requires g c = mirror-within (items_of c.args.self.now) c.args.i c.in-Some.gap c.requires.within (sym c.mirror_of.ensures ∙ c.in-Some.is)

pub result_place-pos-requires-clause-range_in : goal.result_place-pos-requires-clause-range_in
result_place-pos-requires-clause-range_in g c =
    subst (λ (rs : List Span). c.args.r.range < length rs) (sym c.map.ensures)
    (mirror-fits (items_of c.args.self.now) c.args.i c.in-Some.gap c.args.r c.at.result.now c.requires.within (sym c.mirror_of.ensures ∙ c.in-Some.is) c.requires.back c.at.ensures).0

pub result_place-pos-requires-clause-offset_in : goal.result_place-pos-requires-clause-offset_in
result_place-pos-requires-clause-offset_in g c =
    subst (λ (rs : List Span). c.args.r.offset ≤ new_at rs c.args.r.range) (sym c.map.ensures)
    (mirror-fits (items_of c.args.self.now) c.args.i c.in-Some.gap c.args.r c.at.result.now c.requires.within (sym c.mirror_of.ensures ∙ c.in-Some.is) c.requires.back c.at.ensures).1

pub overflow_add-result : goal.overflow_add-result
overflow_add-result g c =
    let below = mirror-within (items_of c.args.self.now) c.args.i c.in-Some.gap c.requires.within (sym c.mirror_of.ensures ∙ c.in-Some.is) in
    omega (arith, below)

pub returns-clause-state : goal.returns-clause-state
returns-clause-state g c =
    let is = items_of c.args.self.now in
    let later : (entry_at is c.args.i).later ≡ Some c.in-Some.gap = sym c.mirror_of.ensures ∙ c.in-Some.is in
    ap (at_pos c.args.so) (c.result_place-pos.ensures ∙ ap (λ rs. result_start rs c.args.r.range + c.args.r.offset) (c.map.ensures ∙ sym (partner-behind is c.args.i c.in-Some.gap c.at.result.now c.requires.within later c.at.ensures)))
    ∙ sym (ap (λ (o : Option ℕ). stepped c.args.so c.args.m o (Some c.args.r) (paired (drop (c.args.i + 1) is))) later)

pub returns-clause-end : goal.returns-clause-end
returns-clause-end g c =
    let below = mirror-within (items_of c.args.self.now) c.args.i c.in-Some.gap c.requires.within (sym c.mirror_of.ensures ∙ c.in-Some.is) in
    omega (arith, below)

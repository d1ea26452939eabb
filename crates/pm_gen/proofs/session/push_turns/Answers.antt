use Rattle.std.proofs.Common.{◌≡◌, ◌+◌, ◌-◌, ◌%◌, suc, ◌++◌, string_bytes, arith, ap, sym, ◌∙◌}
use Rattle.std.proofs.lemmas.List.{append-nil}
use Rattle.pm_gen.specs.Turns.{turn_at, after_turn}
use Rattle.pm_gen.specs.Lines.{turn_line}
use Rattle.pm_gen.specs.Session.{turn_lines}
use Rattle.pm_gen.proofs.Steps.{turns-next, turns-none, onto}
use Rattle.pm_gen.proofs.session.push_turns.Goals as goal

pub loop-i-preserved : goal.loop-i-preserved
loop-i-preserved c =
    let i = c.loop-i.i in
    let x = c.loop-i.draws.number in
    let left = c.args.count - (i + 1) in
    let one : c.args.count - i ≡ suc left = omega arith in
    let put : string_bytes c.push_str.new.self ≡ string_bytes c.loop-i.text ++ turn_line (i % c.args.clients + 1) (turn_at x) = c.in_ok-push_str.ensures.bytes ∙ ap (λ t. string_bytes c.loop-i.text ++ t) (c.as_str.ensures.value ∙ (c.in_ok-turn_line.ensures ∙ ap (turn_line (i % c.args.clients + 1)) c.turn-turn.ensures.turn)) in
    ap (λ n. string_bytes c.push_str.new.self ++ turn_lines c.args.clients (i + 1) left n) c.turn-turn.ensures.number
    ∙ onto (string_bytes c.loop-i.text) (turn_line (i % c.args.clients + 1) (turn_at x)) (string_bytes c.push_str.new.self) (turn_lines c.args.clients (i + 1) left (after_turn x)) _ _ put (turns-next c.args.clients i (c.args.count - i) left x one) c.loop-i.invariant

pub returns : goal.returns
returns c =
    let done : c.args.count - c.loop-i.i ≡ 0 = omega arith in
    sym (append-nil (string_bytes c.loop-i.text))
    ∙ (ap (λ t. string_bytes c.loop-i.text ++ t) (sym (turns-none c.args.clients c.loop-i.i (c.args.count - c.loop-i.i) c.loop-i.draws.number done)) ∙ c.loop-i.invariant)

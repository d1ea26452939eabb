use Rattle.std.proofs.Common.{rules, ◌≡◌, ◌+◌, ◌≤◌, All, [], ◌∷◌, ◌++◌, length, take, sym, subst, arith}
use Rattle.std.proofs.lemmas.List.{take_more}
use Rattle.std.proofs.lemmas.List.Elements.{All-push}
use Rattle.pm_workers.proofs.Working.{take-none, take-all}
use Rattle.pm_workers.proofs.worker.all_done.Goals as goal

pub loop-worker-init : goal.loop-worker-init
loop-worker-init g c = subst (λ l. All (λ w. length w.outcomes.items ≡ length w.lines.items) l) (sym (take-none c.args.workers.now)) (λ k d lt. absurd (omega (arith, lt)))

pub loop-worker-preserved : goal.loop-worker-preserved
loop-worker-preserved g c =
    let k = c.loop-worker.worker-index in
    let workers = c.args.workers.now in
    let worker = c.worker-item.result in
    let front : take (k + 1) workers ≡ take k workers ++ worker ∷ [] = search (rules, take_more) in
    let done : length worker.outcomes.items ≡ length worker.lines.items = c.is_done-done.ensures (search rules) in
    subst (λ l. All (λ w. length w.outcomes.items ≡ length w.lines.items) l) (sym front) (All-push (λ w. length w.outcomes.items ≡ length w.lines.items) (take k workers) worker c.loop-worker.invariant done)

pub returns : goal.returns
returns g c =
    let k = c.loop-worker.worker-index in
    let all : length c.args.workers.now ≤ k = search rules in
    λ yes. subst (λ l. All (λ w. length w.outcomes.items ≡ length w.lines.items) l) (take-all c.args.workers.now k all) c.loop-worker.invariant

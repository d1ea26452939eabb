use Rattle.std.proofs.Common.{rules, ◌≡◌, length, ap, ◌∙◌, arith}
use Rattle.pm_workers.proofs.worker.run_lines.Goals as goal

pub returns-then-all_done-clause-worked : goal.returns-then-all_done-clause-worked
returns-then-all_done-clause-worked g c = λ i e lt.
    let count : length c.play_all.new.workers ≡ length c.args.workers.now = c.play_all.ensures.count in
    let done = c.all_done.ensures (search rules) i e (omega (arith, lt, count)) in
    (c.play_all.ensures.finished i e lt).worked (done ∙ ap (λ v. length v.items) (c.play_all.ensures.lines i e lt))

use Rattle.std.proofs.Common.{◌+◌, ◌∷◌, ◌++◌, [], sym, ap, ◌∙◌}
use Rattle.pm_desk.specs.Desks.{first_seat, after_split, new_seat}
use Rattle.pm_workers.proofs.Unused.{unused-next}
use Rattle.pm_workers.proofs.seating.split_all.Goals as goal

pub loop-i-preserved : goal.loop-i-preserved
loop-i-preserved g c =
    let i = c.loop-i.invariant in
    let d = c.args.desk.now in
    let n = c.loop-i._i in
    let seat = c.split.ensures.new ∙ ap new_seat i.first in
    record {
      first = c.split.ensures.first ∙ ap after_split i.first;
      seats = c.in_ok-push.ensures.items ∙ ap (λ s. c.loop-i.seats.items ++ s ∷ []) seat ∙ ap (λ l. l ++ record (first_seat d) { number = n + 1 } ∷ []) i.seats ∙ sym (unused-next d n);
    }

use Rattle.std.proofs.Common.{◌≡◌, subst, sym}
use Rattle.pm_marks.specs.Sets.{IsSet, removed}
use Rattle.pm_marks.proofs.Laws.{if_ok-then, set-removed}
use Rattle.pm_marks.proofs.set.MarkSet.remove.Goals as goal

pub returns-clause-valid : goal.returns-clause-valid
returns-clause-valid g c = λ table h.
    let same = g.A.Same.equal in
    let set = c.args.self.now in
    let mark = c.args.mark.now in
    if_ok-then (λ s. s ≡ removed same set mark) (IsSet same table) c.without_mark.result
    (λ s is. subst (IsSet same table) (sym is) (set-removed same g.met.A.Same.is_equality table set mark h)) c.without_mark.ensures

use Rattle.std.proofs.Common.{◌≡◌, subst, sym}
use Rattle.pm_marks.specs.Sets.{IsSet, added}
use Rattle.pm_marks.proofs.Laws.{if_ok-then, set-added, added-twice}
use Rattle.pm_marks.proofs.set.MarkSet.add.Goals as goal

pub returns-clause-once : goal.returns-clause-once
returns-clause-once g c =
    let same = g.A.Same.equal in
    let table = c.args.rules.now in
    let set = c.args.self.now in
    let mark = c.args.mark.now in
    if_ok-then (λ s. s ≡ added same table set mark) (λ s. added same table s mark ≡ s) c.with_mark.result
    (λ s is. subst (λ t. added same table t mark ≡ t) (sym is) (added-twice same g.met.A.Same.is_equality table set mark)) c.with_mark.ensures

pub returns-clause-valid : goal.returns-clause-valid
returns-clause-valid g c = λ h.
    let same = g.A.Same.equal in
    let table = c.args.rules.now in
    let set = c.args.self.now in
    let mark = c.args.mark.now in
    if_ok-then (λ s. s ≡ added same table set mark) (IsSet same table) c.with_mark.result
    (λ s is. subst (IsSet same table) (sym is) (set-added same g.met.A.Same.is_equality table set mark h)) c.with_mark.ensures

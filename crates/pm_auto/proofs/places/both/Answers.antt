use Rattle.std.proofs.Common.{◌≡◌, ◌∙◌, ◌++◌, ◌&&◌, ℕ, List, sym, ap, subst, map, append-nil}
use Rattle.pm_auto.specs.Core.{when}
use Rattle.pm_auto.specs.Table.{onward}
use Rattle.pm_auto.specs.Alike.{Alike_rows}
use Rattle.pm_auto.proofs.AlikeLaws.{both-laid}
use Rattle.pm_auto.proofs.places.both.Goals as goal
use Rattle.pm_auto.proofs.places.both.Goals.{then-may_be_empty+in_ok-append-2, else-may_be_empty, then-may_be_empty-2, else-may_be_empty-2}

pub returns : goal.returns
returns c =
    let f : c.if-may_be_empty.first ≡ c.args.a.first ++ when c.args.a.may_be_empty c.args.b.first =
    elim c.if-may_be_empty.branch [
      | then-may_be_empty+in_ok-append-2 w ↦ w.first-is ∙ w.in_ok-append-2.ensures.ok ∙ sym (ap (λ z. c.args.a.first ++ when z c.args.b.first) w.if-may_be_empty.true)
      | else-may_be_empty w ↦ w.first-is ∙ sym (ap (λ z. c.args.a.first ++ when z c.args.b.first) w.if-may_be_empty.false ∙ append-nil c.args.a.first)
    ] in
    let q : c.if-may_be_empty-2.result ≡ c.args.a.may_be_empty && c.args.b.may_be_empty =
    elim c.if-may_be_empty-2.branch [
      | then-may_be_empty-2 w ↦ w.result-is ∙ sym (ap (λ z. z && c.args.b.may_be_empty) w.if-may_be_empty-2.true)
      | else-may_be_empty-2 w ↦ w.result-is ∙ w.if-may_be_empty-2.false ∙ sym (ap (λ z. z && c.args.b.may_be_empty) w.if-may_be_empty-2.false)
    ] in
    both-laid c.args.a c.args.b c.in_ok-rows.rows c.append.new.self c.if-may_be_empty.first c.if-may_be_empty-2.result
    (subst (λ (fs : List ℕ). Alike_rows c.in_ok-rows.rows (map (onward fs c.args.b.may_be_empty) c.args.a.rows)) c.as_slice.ensures c.in_ok-rows.ensures)
    c.in_ok-append.ensures.ok f q

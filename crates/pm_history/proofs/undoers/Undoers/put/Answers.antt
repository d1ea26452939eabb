use Rattle.std.proofs.Common.{◌≡◌, ◌%◌, ◌++◌, ◌∷◌, [], ◌∙◌, ap, sym, arith, set, length, Some, Option, ℕ}
use Rattle.pm_history.specs.declared.undoers.Undoers.{Undoers}
use Rattle.pm_history.proofs.Tables.{table-put, table-past, chain-length}
use Rattle.pm_history.proofs.undoers.Undoers.put.Goals as goal
use Rattle.pm_history.proofs.undoers.Undoers.put.Goals.{in-Some, in-None}

pub returns-clause-table : goal.returns-clause-table
returns-clause-table g c = λ is h.
    let old = c.args.self.now in
    let new : Undoers = record { nearest = c.match-undoes.self.nearest; next = c.push.new.self } in
    let size = length old.nearest.items in
    let count : c.len-count.result ≡ length is =
    (let n : length old.next.items ≡ length is = ap length h.next_are ∙ chain-length size is in omega (arith, c.len-count.ensures, n, old.next.ok.0)) in
    elim c.match-undoes.branch [
      | in-Some w ↦
          let r = w.in-Some.name.serial % size in
          table-put c.args.item.now is old new w.in-Some.name h (sym c.undoes.ensures ∙ w.in-Some.is)
          (ap (λ (u : Undoers). u.nearest.items) w.self-is ∙ w.put_nearest-next.ensures.now ∙ ap (λ n. set old.nearest.items r (Some n)) count)
          (c.in_ok-push.ensures.items ∙ ap (λ (u : Undoers). u.next.items ++ c.match-undoes.next ∷ []) w.self-is ∙ ap (λ (o : Option ℕ). old.next.items ++ o ∷ []) (w.next-is ∙ w.put_nearest-next.ensures.was))
      | in-None w ↦
          table-past c.args.item.now is old new h (sym c.undoes.ensures ∙ w.in-None.is) (ap (λ (u : Undoers). u.nearest.items) w.self-is)
          (c.in_ok-push.ensures.items ∙ ap (λ (u : Undoers). u.next.items ++ c.match-undoes.next ∷ []) w.self-is ∙ ap (λ (o : Option ℕ). old.next.items ++ o ∷ []) w.next-is)
    ]

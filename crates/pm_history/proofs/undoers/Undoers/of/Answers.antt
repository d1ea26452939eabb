use Rattle.std.proofs.Common.{◌≡◌, ◌<◌, ◌+◌, refl, None, replicate, [], subst, arith, length, length-append, append-nil, List, rules}
use Rattle.pm_history.specs.declared.item.Item.{Item}
use Rattle.pm_history.specs.declared.undoers.Undoers.{Undoers}
use Rattle.pm_history.specs.Undoers.{IsTableOf}
use Rattle.pm_history.proofs.Tables.{table-none}
use Rattle.pm_history.proofs.undoers.Undoers.of.Goals as goal

pub returns : goal.returns
returns g c =
    let none : List (Item g.row.C.Denot) = [] in
    let made = c.args.made.now in
    let some : 0 < length c.args.items.now + length made = omega (arith, c.requires, length-append c.args.items.now made) in
    let items : c.in_ok-vec.field-0.items ≡ replicate (length c.args.items.now + length made) None = search rules in
    let first : Undoers = record { nearest = c.in_ok-vec.field-0; next = c.in_ok-with_capacity.field-0 } in
    c.in_ok-put_all-2.ensures.table made (subst (IsTableOf c.put_all.new.self) (append-nil made) (c.in_ok-put_all.ensures.table none (table-none none first (length c.args.items.now + length made) some items c.in_ok-with_capacity.ensures.items refl)))

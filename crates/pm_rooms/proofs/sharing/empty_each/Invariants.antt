use Rattle.std.proofs.Common.{◌≡◌, [], All, vec_len}
use Rattle.pm_rooms.proofs.sharing.empty_each.Given as goal

abbrev pub invariant-loop-i : goal.invariant-loop-i
invariant-loop-i g l = record { count : vec_len l.lists ≡ l._i; empty : All (λ v. v.items ≡ []) l.lists.items }

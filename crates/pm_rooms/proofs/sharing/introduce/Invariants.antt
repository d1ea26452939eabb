use Rattle.std.proofs.Common.{◌≡◌, [], map, All}
use Rattle.pm_rooms.proofs.sharing.introduce.Given as goal

abbrev pub invariant-loop-stands : goal.invariant-loop-stands
invariant-loop-stands g l = record {
  stands : map (λ p. p.stands) l.people.items ≡ map (λ p. p.0) l.yielded;
  lines : map (λ p. p.lines) l.people.items ≡ map (λ p. p.1) l.yielded;
  none : All (λ p. p.outcomes.items ≡ []) l.people.items;
}

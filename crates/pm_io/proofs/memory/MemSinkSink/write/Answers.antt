use Rattle.std.proofs.Common.{rules, inl, inr, refl}
use Rattle.pm_io.proofs.memory.MemSinkSink.write.Goals as goal
use Rattle.pm_io.proofs.memory.MemSinkSink.write.Goals.{then-contains-via-then-contains, then-contains-via-else-contains+then-from-self}

pub returns-then-contains-clause-failed : goal.returns-then-contains-clause-failed
returns-then-contains-clause-failed c = (
  λ _. elim c.then-contains.branch [
    | then-contains-via-then-contains w ↦ inl (search rules)
    | then-contains-via-else-contains+then-from-self w ↦ inr (search rules)
  ],
  λ _. refl,
)

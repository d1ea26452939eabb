use Rattle.std.proofs.Common.{◌≡◌, ℕ, zero, suc, arith, refl}
use Rattle.std.specs.Prelude.{nat_lt}
use Rattle.std.proofs.lemmas.Bool.{lt-ltb}
use Rattle.pm_talk.specs.Live.{some_steps}
use Rattle.pm_talk.proofs.presenting.some_steps.Goals as goal

positive : (n : ℕ) → nat_lt 0 n ≡ some_steps n
positive zero = refl
positive (suc n) = lt-ltb 0 (suc n) (omega arith)

pub returns : goal.returns
returns c = positive c.args.count

use Rattle.std.proofs.Common.{eqb, ap, ◌/◌, ◌%◌, get_or}
use Rattle.std.proofs.lemmas.Nat.Bits.{shr_and_one}
use Rattle.pm_auto.proofs.bits.is_set.Goals as goal

pub returns : goal.returns
returns c = ap (λ b. eqb b 1) (shr_and_one (get_or c.args.words.now (c.args.number / 64) 0) (c.args.number % 64))

use Rattle.std.specs.Prelude.{nat_lt}
use Rattle.std.proofs.Common.{◌≡◌, ℕ, ◌<◌, ◌≤◌, Bool, true, false, List, get_or, length, refl, arith}
use Rattle.std.proofs.lemmas.Bool.{ltb-true, ltb-false}
use Rattle.std.proofs.lemmas.List.{get_or_past}
use Rattle.pm_rooms.proofs.Highest.{most-next}
use Rattle.pm_rooms.proofs.sharing.highest_of.Goals as goal

most-all : (numbers : List ℕ) (k highest : ℕ) → length numbers ≤ k → ((j : ℕ) → j < k → get_or numbers j 0 ≤ highest) → (j : ℕ) → get_or numbers j 0 ≤ highest
most-all numbers k highest past h j = by (nat_lt j k) refl
  where
    by : (b : Bool) → nat_lt j k ≡ b → get_or numbers j 0 ≤ highest
    by true e = h j (ltb-true j k e)
    by false e = let beyond = ltb-false j k e in let z : get_or numbers j 0 ≡ 0 = get_or_past numbers j 0 (omega (arith, past, beyond)) in omega (arith, z)

pub loop-n-preserved : goal.loop-n-preserved
loop-n-preserved c =
    let e = c.max-highest.ensures in
    let h = c.loop-n.invariant in
    record {
      more = omega (arith, e, h.more);
      most = most-next (λ k. get_or c.args.numbers.now k 0) c.loop-n.n-index c.loop-n.highest c.max-highest.result (omega (arith, e)) (omega (arith, e)) h.most;
    }

pub returns-clause-most : goal.returns-clause-most
returns-clause-most c = most-all c.args.numbers.now c.loop-n.n-index c.loop-n.highest c.loop-n-test.false c.loop-n.invariant.most

use Rattle.std.proofs.Common.{◌≡◌, ◌<◌, ◌==◌, take, length, position, arith, rules}
use Rattle.std.specs.Prelude.{Some, None}
use Rattle.pm_serve.proofs.Cuts.{cut, none}
use Rattle.pm_serve.proofs.unread.pass.Goals as goal

pub returns-in-Some : goal.returns-in-Some
returns-in-Some c =
    let bytes = c.args.bytes.now in
    let i = c.in-Some.i in
    let is : position (λ b. b == 10) bytes ≡ Some i = search rules in
    let at = cut bytes i is in
    let within : i < length bytes = at.0 in
    record {
      front = take i bytes;
      within = omega arith;
      split = at.1;
      one = at.2;
      kept = c.add.ensures;
    }

pub returns-in-None : goal.returns-in-None
returns-in-None c =
    let is : position (λ b. b == 10) c.args.bytes.now ≡ None = search rules in
    record { no_lf = none c.args.bytes.now is; kept = c.add-in-None.ensures }

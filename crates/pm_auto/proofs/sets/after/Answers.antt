use Rattle.std.proofs.Common.{refl, arith}
use Rattle.pm_auto.specs.Runs.{next_rows}
use Rattle.pm_auto.proofs.BitLaws.{holds-order}
use Rattle.pm_auto.proofs.sets.after.Goals as goal

pub returns-clause-room : goal.returns-clause-room
returns-clause-room c = rw c.from_vec.ensures (let n = c.in_ok-words.ensures.room in omega (arith, n))

pub returns-clause-is : goal.returns-clause-is
returns-clause-is c =
    rw (c.from_vec.ensures, c.may_end.ensures, holds-order (next_rows c.args.rows.now c.args.kind c.args.places.now) c.in_ok-words.words.items c.args.rows.now c.in_ok-words.ensures) refl

use Rattle.std.proofs.Common.{◌<◌, ◌^◌, ◌≤◌, arith, rules}
use Rattle.pm_map.specs.declared.side.Side.TheVariants.{Before, After}
use Rattle.pm_flat.proofs.Carrying.{lands-small}
use Rattle.pm_flat.proofs.flat.ReplaceChange.carry.Goals as goal
use Rattle.pm_flat.proofs.flat.ReplaceChange.carry.Goals.{then-to-from, else-to-from}

pub overflow_cast-result : goal.overflow_cast-result
overflow_cast-result g c =
    let r = c.requires in
    let fits = g.met.P.Positions.fits c.args.positions.now r.0 r.1 r.2 r.3.0 in
    let near : c.from.result ≤ r.1 = omega (arith, c.from.ensures, r.3.1.0, r.3.1.1) in
    let at : c.place-from.result.pos < 2 ^ 32 = lands-small r.0 r.1 r.2 c.from.result After c.place-from.result fits near (c.place-from.ensures r.0 r.1 r.2 r.3.0 near) in
    search rules

pub overflow_cast-result-2 : goal.overflow_cast-result-2
overflow_cast-result-2 g c =
    let r = c.requires in
    let fits = g.met.P.Positions.fits c.args.positions.now r.0 r.1 r.2 r.3.0 in
    let near : c.from.result ≤ r.1 = omega (arith, c.from.ensures, r.3.1.0, r.3.1.1) in
    let near2 : c.from-2.result ≤ r.1 = omega (arith, c.from-2.ensures, r.3.1.1) in
    let one : c.place-from.result.pos < 2 ^ 32 = lands-small r.0 r.1 r.2 c.from.result After c.place-from.result fits near (c.place-from.ensures r.0 r.1 r.2 r.3.0 near) in
    let two : c.place-to.result.pos < 2 ^ 32 = lands-small r.0 r.1 r.2 c.from-2.result Before c.place-to.result fits near2 (c.place-to.ensures r.0 r.1 r.2 r.3.0 near2) in
    elim c.if-to-from.branch [ then-to-from w ↦ rw w.result-is (search rules) | else-to-from w ↦ rw w.result-is (search rules) ]

use Rattle.std.proofs.Common.{◌≡◌, ◌<◌, length, arith}
use Rattle.pm_places.proofs.GoesOn.{starts-begin}
use Rattle.pm_places.proofs.laws.starts_begin.Goals as goal

pub returns : goal.returns
returns c =
    let full : length c.args.schema.now.autos ≡ length c.args.schema.now.spec.nodes = c.args.schema.now.full in
    let l : c.args.kind < length c.args.schema.now.spec.nodes = c.requires in
    starts-begin c.args.schema.now c.args.kind c.auto.result.now (omega (arith, l, full)) c.auto.ensures.entry c.auto.ensures.runs

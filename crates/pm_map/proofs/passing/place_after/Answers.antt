use Rattle.pm_map.proofs.Pairs.{partner-get}
use Rattle.pm_map.proofs.passing.place_after.Goals as goal

pub returns : goal.returns
returns c =
    let e = partner-get c.args.rest.now c.args.gap c.index-rest-gap.result c.requires.gap_in in
    rw e at c.result_place.ensures

pub result_place-requires : goal.result_place-requires
result_place-requires c =
    rw (partner-get c.args.rest.now c.args.gap c.index-rest-gap.result c.requires.gap_in)
    (record { range_in = c.requires.range_in; offset_in = c.requires.offset_in })

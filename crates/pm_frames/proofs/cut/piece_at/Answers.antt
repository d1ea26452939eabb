use Rattle.pm_map.proofs.Recovers.{shape-at}
use Rattle.pm_frames.proofs.Small.{small-room}
use Rattle.pm_frames.proofs.cut.piece_at.Goals as goal

pub map-m-requires : goal.map-m-requires
map-m-requires c = small-room c.args.down.map.now c.args.from _ c.requires.small c.few.ensures c.requires.near

pub result_place-requires-clause-range_in : goal.result_place-requires-clause-range_in
result_place-requires-clause-range_in c =
    let i = rw c.in-true-Some.is-1 at c.map-m.ensures.back in
    (shape-at c.args.down.map.now c.args.down.behind.now c.in-true-Some.r.range (c.requires.shape c.in-true-Some.is-0) i.0).0

pub result_place-requires-clause-offset_in : goal.result_place-requires-clause-offset_in
result_place-requires-clause-offset_in c =
    let i = rw c.in-true-Some.is-1 at c.map-m.ensures.back in
    rw (shape-at c.args.down.map.now c.args.down.behind.now c.in-true-Some.r.range (c.requires.shape c.in-true-Some.is-0) i.0).1 i.1

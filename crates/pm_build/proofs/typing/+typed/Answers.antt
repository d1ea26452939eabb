use Rattle.std.proofs.Common.{◌≡◌, ◌+◌, ◌-◌, ◌*◌, ◌<◌, length, arith, ap}
use Rattle.pm_node.specs.Trees.{node_tokens}
use Rattle.pm_node.proofs.WalkLaws.{child-within, in-range}
use Rattle.pm_build.proofs.PlacingLaws.{found-before, room-inside, room-around, placed-fragment, placed-content}
use Rattle.pm_build.proofs.typing.+typed.Goals as goal

pub typed-typed_in-requires : goal.typed-typed_in-requires
typed-typed_in-requires t c =
    let d : 2 * length c.args.content.now + 1 ≡ t = c.decreases in
    let xs = c.children-children.result in
    let x = c.get-child.result.now in
    let h = in-range c.len.ensures c.if-found-len.true in
    let size = ap length c.children-children.ensures.tokens in
    let same = ap (λ n. length (node_tokens n)) c.deref.ensures in
    let w = child-within xs c.find-found.result.index x h c.get-child.ensures in
    let g : 2 * length (node_tokens c.deref.result.now) < t = omega (arith, d, w, same, size) in
    let at = found-before xs c.args.from c.saturating_sub.result c.find-found.result.index c.find-found.result.rest c.min.result c.saturating_sub.ensures c.min.ensures c.find-found.ensures in
    let room =
    room-inside xs c.args.from c.args.to c.find-found.result.index (c.find-found.result.rest + c.min.result) x h c.get-child.ensures at c.requires.order (length c.args.new.now) 4294967296
    (omega (arith, c.requires.room, size)) (omega (arith, c.requires.within, size)) in
    (g, (omega arith, omega (arith, room, same)))

pub typed-with_child-requires-clause-room : goal.typed-with_child-requires-clause-room
typed-with_child-requires-clause-room t c =
    let xs = c.children-children.result in
    let h = in-range c.len.ensures c.if-found-len.true in
    let size = ap length c.children-children.ensures.tokens in
    let at = found-before xs c.args.from c.saturating_sub.result c.find-found.result.index c.find-found.result.rest c.min.result c.saturating_sub.ensures c.min.ensures c.find-found.ensures in
    let placed = rw c.in-Some.is at c.in_ok-node.ensures in
    room-around xs c.args.from c.args.to c.find-found.result.index (c.find-found.result.rest + c.min.result) c.get-child.result.now h c.get-child.ensures at c.requires.order
    c.deref.result.now c.in-Some.node c.args.new.now 4294967296 c.deref.ensures placed (omega (arith, c.requires.room, size)) (omega (arith, c.requires.within, size))

pub typed-returns-in_ok-with_child-in-Some : goal.typed-returns-in_ok-with_child-in-Some
typed-returns-in_ok-with_child-in-Some t c =
    let xs = c.children-children.result in
    let h = in-range c.len.ensures c.if-found-len.true in
    let at = found-before xs c.args.from c.saturating_sub.result c.find-found.result.index c.find-found.result.rest c.min.result c.saturating_sub.ensures c.min.ensures c.find-found.ensures in
    let placed = rw c.in-Some.is at c.in_ok-node.ensures in
    placed-fragment xs c.args.from c.args.to c.find-found.result.index (c.find-found.result.rest + c.min.result) c.get-child.result.now h c.get-child.ensures at c.requires.order
    c.args.content.now c.in_ok-with_child-in-Some.field-0 c.args.new.now c.deref.result.now c.in-Some.node c.children-children.ensures.tokens c.deref.ensures placed c.in_ok-with_child-in-Some.ensures

pub typed_in-returns-in_ok-with_body-in-Some : goal.typed_in-returns-in_ok-with_body-in-Some
typed_in-returns-in_ok-with_body-in-Some t c =
    let placed = rw c.in-Some.is at c.in_ok-content-in-Children.ensures in
    placed-content c.args.node.now c.in_ok-with_body-in-Some.field-0 c.in-Children.inner c.in-Some.content c.args.new.now c.args.from c.args.to c.in-Children.is c.in_ok-with_body-in-Some.ensures placed (omega arith) c.requires.order

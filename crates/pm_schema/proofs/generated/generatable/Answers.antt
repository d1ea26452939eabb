use Rattle.std.proofs.Common.{◌≡◌, length, arith}
use Rattle.std.proofs.lemmas.Grind.{common_steps}
use Rattle.pm_schema.specs.Generated.{IsClosed, HasFilled}
use Rattle.pm_schema.proofs.Rounds.{generated}
use Rattle.pm_schema.proofs.generated.generatable.Goals as goal

pub returns-then-not-more : goal.returns-then-not-more
returns-then-not-more c =
    let nodes = c.args.nodes.now in
    let table = c.from_vec.result in
    let full : length table ≡ length nodes = grind (arith, common_steps) in
    let closed : IsClosed nodes table = grind (arith, common_steps) in
    let filling : HasFilled nodes table = grind (arith, common_steps) in
    generated nodes table full closed filling

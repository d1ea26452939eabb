use Rattle.std.proofs.Common.{◌≡◌, ◌+◌, ◌-◌, ◌≤◌, ap, sym, ◌∙◌, subst, length, arith}
use Rattle.pm_sized.specs.Pairs.{pairs_of, total_of}
use Rattle.pm_sized.specs.Bound.{find_bound}
use Rattle.pm_node.specs.Trees.{list_tokens}
use Rattle.pm_node.specs.Among.{Stands}
use Rattle.pm_node.proofs.ChunkLaws.{length-items, total-sized, stands-sized}
use Rattle.pm_node.proofs.children.Children.find_counted.Goals as goal

pub find-found-requires-clause-within : goal.find-found-requires-clause-within
find-found-requires-clause-within g c =
    omega (arith, c.requires, total-sized (pairs_of c.self.inside.nodes.now) c.self.invariant.sized, ap (λ z. length (list_tokens z)) c.self.view_is)

pub returns-clause-found : goal.returns-clause-found
returns-clause-found g c =
    let ps = pairs_of c.self.inside.nodes.now in
    let pos = c.args.pos in
    let f = c.find-found.result in
    let within : pos ≤ total_of ps = omega (arith, c.requires, total-sized ps c.self.invariant.sized, ap (λ z. length (list_tokens z)) c.self.view_is) in
    subst (λ z. Stands z pos f.index (pos - f.start)) c.self.view_is (stands-sized ps pos f.index f.start c.self.invariant.sized within c.find-found.ensures.found)

pub returns-clause-steps : goal.returns-clause-steps
returns-clause-steps g c =
    let same : length (pairs_of c.self.inside.nodes.now) ≡ length c.args.self.now = sym (length-items (pairs_of c.self.inside.nodes.now)) ∙ ap length c.self.view_is in
    subst (λ z. c.find-found.new.steps ≤ c.args.steps.now + find_bound z) same c.find-found.ensures.steps

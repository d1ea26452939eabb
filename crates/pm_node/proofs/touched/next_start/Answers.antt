use Rattle.std.proofs.Common.{◌≡◌, ◌+◌, ◌<◌, ◌≤◌, length, take, arith, ap, ◌∙◌}
use Rattle.std.specs.Arc.{arc_value}
use Rattle.pm_node.specs.Trees.{node_tokens, list_tokens}
use Rattle.pm_node.proofs.ChangeLaws.{front-within, front-length}
use Rattle.pm_node.proofs.touched.next_start.Goals as goal
use Rattle.pm_node.proofs.touched.next_start.Goals.{After-size-size}

-- the position stands in a child
inside : (c : After-size-size) → c.find-found.result.index < length c.args.children.now
inside c =
    let f = c.find-found.ensures in
    by f.within (λ e. omega (arith, f.at_end e, c.if-found-eq0.false))
  where
    by : {i n : _} → i ≤ n → (i ≡ n → ⊥) → i < n
    by w h = omega (arith, w, h)

-- where the child ends
ends : (c : After-size-size) → length (list_tokens (take (c.find-found.result.index + 1) c.args.children.now)) ≡ length (list_tokens (take c.find-found.result.index c.args.children.now)) + c.size-size.result
ends c =
    let size : c.size-size.result ≡ length (node_tokens (arc_value c.get.result.now)) = c.size-size.ensures.size ∙ ap (λ n. length (node_tokens n)) c.deref.ensures in
    omega (arith, size, front-length c.args.children.now c.find-found.result.index c.get.result.now (inside c) c.get.ensures)

pub overflow_add-result : goal.overflow_add-result
overflow_add-result c = omega (arith, inside ((goal.at.overflow_add-result c).After-size-size), c.len.ensures)

pub overflow_add-result-2 : goal.overflow_add-result-2
overflow_add-result-2 c =
    let size : c.size-size.result ≡ length (node_tokens (arc_value c.get.result.now)) = c.size-size.ensures.size ∙ ap (λ n. length (node_tokens n)) c.deref.ensures in
    let within = front-within c.args.children.now c.find-found.result.index c.get.result.now (inside ((goal.at.overflow_add-result-2 c).After-size-size)) c.get.ensures in
    omega (arith, c.find-found.ensures.offset, size, within, c.size.ensures)

pub returns : goal.returns
returns c =
    let w = (goal.at.returns c).After-size-size in
    let f = c.find-found.ensures in
    let size : c.size-size.result ≡ length (node_tokens (arc_value c.get.result.now)) = c.size-size.ensures.size ∙ ap (λ n. length (node_tokens n)) c.deref.ensures in
    record {
      within = omega (arith, inside w);
      place = omega (arith, ends w, f.offset);
      behind = omega (arith, f.inside c.get.result.now (inside w) c.get.ensures, size, f.offset);
    }

use Rattle.std.proofs.Common.{◌≡◌, ◌+◌, ◌*◌, ◌-◌, ◌<◌, length, arith, ap, subst}
use Rattle.std.specs.Arc.{arc_value}
use Rattle.pm_schema.specs.Documents.{documents_of}
use Rattle.pm_node.specs.Trees.{node_tokens, list_tokens}
use Rattle.pm_node.specs.Changes.{Keeps, NodeKeeps, IsSameBehind}
use Rattle.pm_node.proofs.WalkLaws.{child-within}
use Rattle.pm_node.proofs.ChangeLaws.{node-kept, list-kept}
use Rattle.pm_node.proofs.around.+around.Goals as goal

pub stays_valid_around-node_stays_valid-requires : goal.stays_valid_around-node_stays_valid-requires
stays_valid_around-node_stays_valid-requires t c =
    let d : 2 * length c.args.before.now + 1 ≡ t = c.decreases in
    let w = child-within c.children-old.result c.in-Some.pair.before c.get.result.now c.in-Some.ensures.before.within c.get.ensures in
    let g : 2 * length (node_tokens c.deref.result.now) < t = omega (arith, d, w, ap (λ m. length (node_tokens m)) c.deref.ensures, ap length c.children-old.ensures.tokens) in
    (g, (omega (arith, c.in-Some.ensures.inside), (omega (arith, c.in-Some.ensures.inside, c.requires.order), omega (arith, c.in-Some.ensures.inside, c.requires.new_order))))

pub stays_valid_around-returns-in-Some : goal.stays_valid_around-returns-in-Some
stays_valid_around-returns-in-Some t c = λ r.
    let s = documents_of c.args.schema.now.spec in
    let p = c.in-Some.pair in
    let from = c.args.change.from in
    let to = c.args.change.to in
    let new_to = c.args.change.new_to in
    let told = subst (λ n. NodeKeeps s c.args.levels (node_tokens n) (node_tokens c.deref-in-Some.result.now) (from - p.start) (to - p.start) (new_to - p.start)) c.deref.ensures (c.node_stays_valid.ensures r) in
    let keep = subst (λ n. NodeKeeps s c.args.levels (node_tokens (arc_value c.get.result.now)) (node_tokens n) (from - p.start) (to - p.start) (new_to - p.start)) c.deref-in-Some.ensures told in
    let lists = list-kept s c.args.kind c.args.levels c.children-old.result c.children-new.result p.before p.after p.start c.get.result.now c.get-in-Some.result.now from to new_to
    c.children-old.ensures.each c.in-Some.ensures.before c.in-Some.ensures.after c.get.ensures c.get-in-Some.ensures c.in-Some.ensures.inside c.requires.order c.requires.new_order keep in
    subst (λ u. Keeps s c.args.kind c.args.levels u c.args.after.now from to new_to) c.children-old.ensures.tokens
    (subst (λ v. Keeps s c.args.kind c.args.levels (list_tokens c.children-old.result) v from to new_to) c.children-new.ensures.tokens lists)

pub node_stays_valid-returns-else-not-same_behind : goal.node_stays_valid-returns-else-not-same_behind
node_stays_valid-returns-else-not-same_behind t c = λ r.
    let s = documents_of c.args.schema.now.spec in
    let old = c.in-Children-Children.old in
    let new = c.in-Children-Children.new in
    let told = c.same_behind.ensures c.if-not-same_behind.false in
    let behind : IsSameBehind (length old) (c.args.change.to - 1) (length new) (c.args.change.new_to - 1) = record {
      within = omega (arith, told.within, c.size.ensures.size);
      new_within = omega (arith, told.new_within, c.size-in-Children-Children.ensures.size);
      left = omega (arith, told.left, c.size.ensures.size, c.size-in-Children-Children.ensures.size);
    } in
    node-kept s c.args.levels c.args.before.now c.args.after.now old new c.args.change.from c.args.change.to c.args.change.new_to c.in-Children-Children.is-0 c.in-Children-Children.is-1
    c.size.ensures.whole c.size-in-Children-Children.ensures.whole c.requires.inside c.requires.order c.requires.new_order behind (c.stays_valid_around.ensures r)

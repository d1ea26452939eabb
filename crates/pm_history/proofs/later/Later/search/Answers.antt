use Rattle.std.proofs.Common.{◌≡◌, ◌+◌, ◌-◌, ◌%◌, ◌<◌, ◌&&◌, ◌∙◌, ap, sym, subst, arith, length, drop, nat_lt, true, false, Some}
use Rattle.std.proofs.lemmas.Bool.{and_parts, ltb-true}
use Rattle.std.proofs.Math.Nat.{mod-lt}
use Rattle.pm_map.specs.Mirrors.{may_mirror}
use Rattle.pm_history.specs.Items.{one_step}
use Rattle.pm_history.specs.Laters.{items_of}
use Rattle.pm_history.specs.Pairs.{later_in}
use Rattle.pm_history.proofs.Tables.{left_of, Reaches, reaches-first, reaches-next, next-less, left-below, item-there, lt-more, mirror-there, chain-length}
use Rattle.pm_history.proofs.later.Later.search.Goals as goal

pub loop-at-init : goal.loop-at-init
loop-at-init g c =
    let name = c.args.name in
    let t = c.requires.table in
    let size = length c.args.undoers.now.nearest.items in
    let is = items_of c.args.self.now in
    subst (Reaches (Some name) size (name.serial % size) (c.args.i + 1) c.args.item.now.map is) (sym (c.nearest_to-at.ensures ∙ t.nearest_are (name.serial % size) (mod-lt name.serial t.some)))
    (reaches-first name size (c.args.i + 1) c.args.item.now.map is)

pub index-at-requires : goal.index-at-requires
index-at-requires g c =
    let name = c.args.name in
    let size = length c.args.undoers.now.nearest.items in
    let is = items_of c.args.self.now in
    let h = subst (Reaches (Some name) size (name.serial % size) (c.args.i + 1) c.args.item.now.map is) c.in-Some.is c.loop-at.invariant in
    let b = left-below (Some name) size (name.serial % size) (c.args.i + 1) c.args.item.now.map is c.in-Some.left h in
    let n = ap length c.requires.table.next_are ∙ chain-length size is in
    omega (arith, b, n)

pub loop-at-smaller : goal.loop-at-smaller
loop-at-smaller g c =
    let name = c.args.name in
    let size = length c.args.undoers.now.nearest.items in
    let is = items_of c.args.self.now in
    let left = c.in-Some.left in
    let h = subst (Reaches (Some name) size (name.serial % size) (c.args.i + 1) c.args.item.now.map is) c.in-Some.is c.loop-at.invariant in
    subst (λ o. left_of c.index-at.result.now < left_of o) (sym c.in-Some.is)
    (subst (λ o. left_of o < left_of (Some left)) (sym c.index-at.ensures)
    (next-less name size (c.args.i + 1) c.args.item.now.map is left h c.args.undoers.now.next.items c.index-at.result.now c.requires.table.next_are))

pub loop-at-preserved : goal.loop-at-preserved
loop-at-preserved g c =
    let name = c.args.name in
    let size = length c.args.undoers.now.nearest.items in
    let is = items_of c.args.self.now in
    let rs = c.args.item.now.map in
    let left = c.in-Some.left in
    let h = subst (Reaches (Some name) size (name.serial % size) (c.args.i + 1) rs is) c.in-Some.is c.loop-at.invariant in
    let place = (c.len-count.result - 1) - left in
    let at : place ≡ (length is - 1) - left = ap (λ n. (n - 1) - left) c.len-count.ensures in
    let there = item-there (Some name) size (name.serial % size) (c.args.i + 1) rs is left place h at in
    let miss = sym (c.pairs.ensures h.item there) ∙ c.if-pairs.false in
    subst (Reaches (Some name) size (name.serial % size) (c.args.i + 1) rs is) (sym c.index-at.ensures)
    (reaches-next name size (c.args.i + 1) rs is left place h c.args.undoers.now.next.items c.index-at.result.now c.requires.table.next_are at
    (ap (λ t. t && (one_step (Some name) h.item.undoes && may_mirror rs h.item.map)) (lt-more c.args.i place)
    ∙ subst (λ o. (nat_lt c.args.i place && (one_step o h.item.undoes && may_mirror rs h.item.map)) ≡ false) c.requires.named miss))

pub returns-then-pairs : goal.returns-then-pairs
returns-then-pairs g c =
    let name = c.args.name in
    let size = length c.args.undoers.now.nearest.items in
    let is = items_of c.args.self.now in
    let rs = c.args.item.now.map in
    let left = c.in-Some.left in
    let h = subst (Reaches (Some name) size (name.serial % size) (c.args.i + 1) rs is) c.in-Some.is c.loop-at.invariant in
    let place = (c.len-count.result - 1) - left in
    let at : place ≡ (length is - 1) - left = ap (λ n. (n - 1) - left) c.len-count.ensures in
    let there = item-there (Some name) size (name.serial % size) (c.args.i + 1) rs is left place h at in
    let hit = subst (λ o. (nat_lt c.args.i place && (one_step o h.item.undoes && may_mirror rs h.item.map)) ≡ true) c.requires.named (sym (c.pairs.ensures h.item there) ∙ c.if-pairs.true) in
    let parts = and_parts _ _ hit in
    let behind : c.args.i < place = ltb-true c.args.i place parts.0 in
    let less : (place - c.args.i) - 1 ≡ place - (c.args.i + 1) = omega arith in
    ap Some less ∙ mirror-there name size (c.args.i + 1) rs is left place h at (omega (arith, behind)) parts.1 ∙ ap (λ o. later_in o rs (drop (c.args.i + 1) is)) (sym c.requires.named)

pub overflow_sub-result : goal.overflow_sub-result
overflow_sub-result g c =
    let name = c.args.name in
    let size = length c.args.undoers.now.nearest.items in
    let is = items_of c.args.self.now in
    let rs = c.args.item.now.map in
    let left = c.in-Some.left in
    let h = subst (Reaches (Some name) size (name.serial % size) (c.args.i + 1) rs is) c.in-Some.is c.loop-at.invariant in
    let place = (c.len-count.result - 1) - left in
    let at : place ≡ (length is - 1) - left = ap (λ n. (n - 1) - left) c.len-count.ensures in
    let there = item-there (Some name) size (name.serial % size) (c.args.i + 1) rs is left place h at in
    let behind : c.args.i < place = ltb-true c.args.i place (and_parts _ _ (sym (c.pairs.ensures h.item there) ∙ c.if-pairs.true)).0 in
    omega (arith, behind)

pub overflow_sub-result-then-pairs : goal.overflow_sub-result-then-pairs
overflow_sub-result-then-pairs g c =
    let name = c.args.name in
    let size = length c.args.undoers.now.nearest.items in
    let is = items_of c.args.self.now in
    let rs = c.args.item.now.map in
    let left = c.in-Some.left in
    let h = subst (Reaches (Some name) size (name.serial % size) (c.args.i + 1) rs is) c.in-Some.is c.loop-at.invariant in
    let place = (c.len-count.result - 1) - left in
    let at : place ≡ (length is - 1) - left = ap (λ n. (n - 1) - left) c.len-count.ensures in
    let there = item-there (Some name) size (name.serial % size) (c.args.i + 1) rs is left place h at in
    let behind : c.args.i < place = ltb-true c.args.i place (and_parts _ _ (sym (c.pairs.ensures h.item there) ∙ c.if-pairs.true)).0 in
    omega (arith, behind)

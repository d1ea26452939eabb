use Rattle.std.proofs.Common.{◌≡◌, ◌+◌, ◌-◌, ◌<◌, ◌∙◌, ap, sym, subst, arith, length, length-drop, take, drop, get_or}
use Rattle.pm_resolve.specs.Places.{Position}
use Rattle.pm_resolve.specs.Levels.{Path, content_of}
use Rattle.pm_resolve.proofs.LevelLaws.{path-bound, path-shared, held, held-rest, held-stop, behind-first, inner-at}
use Rattle.pm_resolve.proofs.place.Place.shared_depth.Goals as goal

pub holds-requires : goal.holds-requires
holds-requires c =
    let p = subst (λ (v : Position). Path v.doc v.pos c.self.inside.levels.items) c.self.view_is c.self.invariant in
    let xs = c.self.inside.levels.items in
    let all : take (length c.deref.result.now - 1) (drop 1 c.deref.result.now) ≡ drop 1 xs = ap (λ ls. take (length ls - 1) (drop 1 ls)) c.deref.ensures.value ∙ behind-first xs in
    let l = c.index-inner-depth.result in
    let d = c.loop-depth.depth in
    let lt : d < length (drop 1 xs) = omega (arith, c.loop-depth-test.true, ap length all) in
    let is : l ≡ get_or xs (d + 1) l = c.index-inner-depth.is ∙ (ap (λ ls. get_or ls d l) all ∙ inner-at xs d l) in
    let e = ap (λ v. v.start + length (content_of v.node.now)) is in
    omega (arith, e, path-bound p (d + 1) l (omega (arith, lt, length-drop 1 xs)), p.bound)

pub returns-then-not-holds : goal.returns-then-not-holds
returns-then-not-holds c =
    let p = subst (λ (v : Position). Path v.doc v.pos c.self.inside.levels.items) c.self.view_is c.self.invariant in
    let xs = c.self.inside.levels.items in
    let all : take (length c.deref.result.now - 1) (drop 1 c.deref.result.now) ≡ drop 1 xs = ap (λ ls. take (length ls - 1) (drop 1 ls)) c.deref.ensures.value ∙ behind-first xs in
    let l = c.index-inner-depth.result in
    let d = c.loop-depth.depth in
    let inner = take (length c.deref.result.now - 1) (drop 1 c.deref.result.now) in
    let k = held-stop c.args.pos inner d l c.loop-depth-test.true c.index-inner-depth.is (sym c.if-not-holds.ensures) in
    omega (arith, c.loop-depth.invariant, k, ap (held c.args.pos) all, path-shared p c.args.pos c.requires)

pub returns : goal.returns
returns c =
    let p = subst (λ (v : Position). Path v.doc v.pos c.self.inside.levels.items) c.self.view_is c.self.invariant in
    let xs = c.self.inside.levels.items in
    let all : take (length c.deref.result.now - 1) (drop 1 c.deref.result.now) ≡ drop 1 xs = ap (λ ls. take (length ls - 1) (drop 1 ls)) c.deref.ensures.value ∙ behind-first xs in
    let inner = take (length c.deref.result.now - 1) (drop 1 c.deref.result.now) in
    let k = held-rest c.args.pos inner c.loop-depth.depth c.loop-depth-test.false in
    omega (arith, c.loop-depth.invariant, k, ap (held c.args.pos) all, path-shared p c.args.pos c.requires)

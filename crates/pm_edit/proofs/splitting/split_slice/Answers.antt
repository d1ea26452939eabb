use Rattle.std.proofs.Common.{◌≡◌, ◌-◌, ◌*◌, ◌++◌, List, length, sym, subst, ap, ◌∙◌, arith, true}
use Rattle.pm_tokens.specs.Tokens.{Token}
use Rattle.pm_tokens.specs.Scan.{depth_at, Balanced}
use Rattle.pm_tokens.specs.Slices.{is_slice}
use Rattle.pm_slice.specs.Sides.{sides, or_none}
use Rattle.pm_fit.specs.Candidates.{hollow}
use Rattle.pm_edit.proofs.SliceLaws.{split-is, split-one, twice-is, once-length}
use Rattle.pm_edit.proofs.splitting.split_slice.Goals as goal

pub push_hollow-requires-2 : goal.push_hollow-requires-2
push_hollow-requires-2 c =
    let d = c.args.place.now.doc in
    let p = c.args.place.now.pos in
    let n = depth_at d.tokens p in
    let size : length c.push_hollow.new.made ≡ 2 * c.args.depth = once-length d p n c.depth-around.result c.args.depth _ c.push_hollow.new.made c.depth-around.ensures c.requires.within c.new-content.ensures c.in_ok-push_hollow.ensures in
    record { within = omega (arith, c.depth-around.ensures); room = omega (arith, size, c.depth-around.ensures, c.requires.within, c.requires.small) }

pub open_slice-requires : goal.open_slice-requires
open_slice-requires c =
    let d = c.args.place.now.doc in
    let p = c.args.place.now.pos in
    let n = depth_at d.tokens p in
    let k = c.args.depth in
    let is : c.push_hollow-2.new.made ≡ hollow d p (n - k) k ++ hollow d p (n - k) k =
    twice-is d p n c.depth-around.result k _ c.push_hollow.new.made c.push_hollow-2.new.made c.depth-around.ensures c.requires.within c.new-content.ensures c.in_ok-push_hollow.ensures c.in_ok-push_hollow-2.ensures in
    subst (λ (ts : List Token). is_slice (sides ts k k) ≡ true) (sym is) (split-is d p (n - k) k (subst Balanced is c.size.ensures.whole))

pub returns : goal.returns
returns c =
    let d = c.args.place.now.doc in
    let p = c.args.place.now.pos in
    let n = depth_at d.tokens p in
    let k = c.args.depth in
    let is : c.push_hollow-2.new.made ≡ hollow d p (n - k) k ++ hollow d p (n - k) k =
    twice-is d p n c.depth-around.result k _ c.push_hollow.new.made c.push_hollow-2.new.made c.depth-around.ensures c.requires.within c.new-content.ensures c.in_ok-push_hollow.ensures c.in_ok-push_hollow-2.ensures in
    c.open_slice.ensures ∙ (ap (λ (ts : List Token). or_none (sides ts k k)) is ∙ split-one d p (n - k) k c.requires.some)

use Rattle.std.proofs.Common.{◌≡◌, ◌+◌, ◌-◌, ◌*◌, ◌<◌, ◌++◌, ◌∷◌, [], length, arith, sym, ap, ◌∙◌, append_assoc}
use Rattle.std.proofs.lemmas.List.{append-nil}
use Rattle.std.proofs.lemmas.Result.{IfOk-equal}
use Rattle.pm_tokens.specs.Tokens.{Open}
use Rattle.pm_node.specs.Trees.{node_tokens}
use Rattle.pm_build.specs.Positions.{path}
use Rattle.pm_node.proofs.WalkLaws.{child-within, in-range, past-range}
use Rattle.pm_build.proofs.FoundLaws.{path-found, path-last}
use Rattle.pm_build.proofs.PositionLaws.{path-inside, path-flat}
use Rattle.pm_build.proofs.builder.Builder.+path.Goals as goal

pub open_path-open_path_in-requires : goal.open_path-open_path_in-requires
open_path-open_path_in-requires t c =
    let d : 2 * length c.args.source.now + 1 ≡ t = c.decreases in
    let h = in-range c.len.ensures c.if-found-len.true in
    let w = child-within c.children-children.result _ c.get-child.result.now h c.get-child.ensures in
    let n = ap (λ m. length (node_tokens m)) c.deref.ensures in
    let g : 2 * length (node_tokens c.deref.result.now) < t = omega (arith, d, w, n, ap length c.children-children.ensures.tokens) in
    (g, omega (arith, n, c.find-found.ensures.inside c.get-child.result.now h c.get-child.ensures))

pub open_path-returns-then-found-len : goal.open_path-returns-then-found-len
open_path-returns-then-found-len t c =
    let xs = c.children-children.result in
    let e = c.children-children.ensures in
    let h = in-range c.len.ensures c.if-found-len.true in
    let is : path (node_tokens c.deref.result.now) c.find-found.result.rest ≡ path c.args.source.now c.args.pos =
    ap (λ m. path (node_tokens m) c.find-found.result.rest) c.deref.ensures
    ∙ (sym (path-found xs _ _ _ c.get-child.result.now e.each c.find-found.ensures h c.get-child.ensures) ∙ ap (λ z. path z c.args.pos) e.tokens) in
    IfOk-equal c.open_path_in.result _ _ _ c.open_path_in.ensures (ap (λ z. c.args.self.now ++ z) is)

pub open_path-returns-else-found-len : goal.open_path-returns-else-found-len
open_path-returns-else-found-len t c =
    let e = c.children-children.ensures in
    let is : path c.args.source.now c.args.pos ≡ [] = ap (λ z. path z c.args.pos) (sym e.tokens) ∙ path-last c.children-children.result _ _ _ e.each c.find-found.ensures (past-range c.len.ensures c.if-found-len.false) in
    sym (append-nil c.args.self.now) ∙ ap (λ z. c.args.self.now ++ z) (sym is)

pub open_path_in-returns-in_ok-open_copy-in-Children : goal.open_path_in-returns-in_ok-open_copy-in-Children
open_path_in-returns-in_ok-open_copy-in-Children t c =
    let n = c.args.node.now in
    let inner = c.in-Children.inner in
    let p = path inner (c.args.pos - 1) in
    let is : path (node_tokens n) c.args.pos ≡ Open n.kind n.attrs n.marks ∷ p = path-inside n inner c.args.pos c.in-Children.is c.size.ensures.whole (omega arith) c.requires in
    IfOk-equal c.open_path.result _ _ _ c.open_path.ensures
    (ap (λ z. z ++ p) c.in_ok-open_copy-in-Children.ensures ∙ (append_assoc c.args.self.now (Open n.kind n.attrs n.marks ∷ []) p ∙ ap (λ z. c.args.self.now ++ z) (sym is)))

pub open_path_in-returns-in_default : goal.open_path_in-returns-in_default
open_path_in-returns-in_default t c = sym (append-nil c.args.self.now) ∙ ap (λ z. c.args.self.now ++ z) (sym (path-flat c.args.node.now c.args.pos c.in_default.not-Children))

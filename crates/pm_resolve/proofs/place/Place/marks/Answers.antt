use Rattle.std.proofs.Common.{◌≡◌, ◌+◌, ◌-◌, ◌∙◌, None, ap, subst, arith, length}
use Rattle.pm_tokens.specs.Kids.{children}
use Rattle.pm_resolve.specs.Places.{Position, inclusive_in, beside, marks_beside}
use Rattle.pm_resolve.specs.Levels.{Path, content_of}
use Rattle.pm_resolve.proofs.LevelLaws.{path-length, path-within, path-last}
use Rattle.pm_resolve.proofs.MarkLaws.{if_ok-as}
use Rattle.pm_resolve.proofs.place.Place.marks.Goals as goal

pub index-level-requires : goal.index-level-requires
index-level-requires c =
    let p = subst (λ (v : Position). Path v.doc v.pos c.self.inside.levels.items) c.self.view_is c.self.invariant in
    omega (arith, c.depth.ensures, path-length p)

pub overflow_sub-self-inside : goal.overflow_sub-self-inside
overflow_sub-self-inside c =
    let i = c.depth.result in
    let l = c.index-level.result.now in
    let pos = ap (λ (v : Position). v.pos) c.self.view_is in
    let p = subst (λ (v : Position). Path v.doc v.pos c.self.inside.levels.items) c.self.view_is c.self.invariant in
    let last : i + 1 ≡ length c.self.inside.levels.items = omega (arith, c.depth.ensures, path-length p) in
    let w = path-within p i l (omega (arith, last)) in
    omega (arith, w.0, pos, ap (λ v. v.start) c.index-level.ensures)

pub marks_among-requires : goal.marks_among-requires
marks_among-requires c =
    let i = c.depth.result in
    let l = c.index-level.result.now in
    let pos = ap (λ (v : Position). v.pos) c.self.view_is in
    let p = subst (λ (v : Position). Path v.doc v.pos c.self.inside.levels.items) c.self.view_is c.self.invariant in
    let last : i + 1 ≡ length c.self.inside.levels.items = omega (arith, c.depth.ensures, path-length p) in
    let w = path-within p i l (omega (arith, last)) in
    let e = c.children.ensures in
    let size = ap length (e.tokens ∙ l.inner) in
    record {
      within = omega (arith, size, w.1, pos, ap (λ v. v.start) c.index-level.ensures, ap (λ v. length (content_of v.node.now)) c.index-level.ensures);
      normal = e.normal;
      whole = e.each;
    }

pub returns : goal.returns
returns c =
    let i = c.depth.result in
    let l = c.index-level.result.now in
    let pos = ap (λ (v : Position). v.pos) c.self.view_is in
    let p = subst (λ (v : Position). Path v.doc v.pos c.self.inside.levels.items) c.self.view_is c.self.invariant in
    let last : i + 1 ≡ length c.self.inside.levels.items = omega (arith, c.depth.ensures, path-length p) in
    let inc = inclusive_in c.args.schema.now.spec in
    let content = c.children.ensures.tokens ∙ l.inner in
    if_ok-as c.marks_among.result _ _
    (ap (λ ts. marks_beside inc (beside None (c.self.inside.pos - l.start) (children ts))) content
    ∙ (ap (λ q. marks_beside inc (beside None (q - l.start) (children (content_of l.node.now)))) pos
    ∙ (ap (λ v. marks_beside inc (beside None (c.args.self.now.pos - v.start) (children (content_of v.node.now)))) c.index-level.ensures ∙ path-last p inc i l last)))
    c.marks_among.ensures

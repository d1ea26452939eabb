use Rattle.std.proofs.Common.{◌≡◌, ◌<◌, ◌-◌, ◌&&◌, ap, sym, ◌∙◌, subst, arith}
use Rattle.std.specs.Prelude.{IfOk}
use Rattle.pm_tokens.specs.Tokens.{Open}
use Rattle.pm_tokens.proofs.PairLaws.{true-false}
use Rattle.pm_node.specs.declared.node.Node.{Node}
use Rattle.pm_node.specs.declared.node.Body.TheVariants.{Children}
use Rattle.pm_schema.specs.Documents.{documents_of}
use Rattle.pm_slice.specs.Sides.{opens_first}
use Rattle.pm_slice.proofs.SpineLaws.{opens-children, opens-flat}
use Rattle.pm_meaning.specs.Known.{knows_open}
use Rattle.pm_replace.proofs.KnownSides.{known, children-known, children-some}
use Rattle.pm_replace.proofs.known.+knows_opens.Goals as goal

pub get-node-requires : goal.get-node-requires
get-node-requires t c =
    children-some c.args.depth c.children-children.result c.args.content.now (omega (arith, c.if-depth-eq0.false)) c.children-children.ensures.tokens c.requires

pub returns-in_default : goal.returns-in_default
returns-in_default t c =
    true-false (opens_first c.args.depth c.args.content.now) c.requires
    (ap (opens_first c.args.depth) (sym c.children-children.ensures.tokens)
    ∙ opens-flat c.args.depth (omega (arith, c.if-depth-eq0.false)) c.children-children.result c.get-node.result.now c.children-children.ensures.normal (children-some c.args.depth c.children-children.result c.args.content.now (omega (arith, c.if-depth-eq0.false)) c.children-children.ensures.tokens c.requires) c.get-node.ensures
    (λ ts h. c.in_default.not-Children ts (subst (λ (n : Node). n.body ≡ Children ts) (sym c.deref.ensures) h)))

pub returns-then-not-known : goal.returns-then-not-known
returns-then-not-known t c =
    let s = documents_of c.args.schema.now.spec in
    let some : 0 < c.args.depth = omega (arith, c.if-depth-eq0.false) in
    let xs = c.children-children.result in
    let x = c.get-node.result.now in
    let inner = c.in-Children.inner in
    let is = subst (λ (n : Node). n.body ≡ Children inner) c.deref.ensures c.in-Children.is in
    let first = opens-children c.args.depth some xs x inner (children-some c.args.depth c.children-children.result c.args.content.now (omega (arith, c.if-depth-eq0.false)) c.children-children.ensures.tokens c.requires) c.get-node.ensures is in
    let opens = sym first ∙ (ap (opens_first c.args.depth) c.children-children.ensures.tokens ∙ c.requires) in
    let here = subst (λ (n : Node). c.in_ok-known.known ≡ knows_open s (Open n.kind n.attrs n.marks)) c.deref-2.ensures c.in_ok-known.ensures in
    sym (ap (known s c.args.depth) (sym c.children-children.ensures.tokens)
    ∙ (children-known s c.args.depth some xs x inner (children-some c.args.depth c.children-children.result c.args.content.now (omega (arith, c.if-depth-eq0.false)) c.children-children.ensures.tokens c.requires) c.get-node.ensures is opens
    ∙ ap (λ b. b && known s (c.args.depth - 1) inner) (sym here ∙ c.if-not-known.true)))

pub knows_opens-requires : goal.knows_opens-requires
knows_opens-requires t c =
    let some : 0 < c.args.depth = omega (arith, c.if-depth-eq0.false) in
    let inner = c.in-Children.inner in
    let is = subst (λ (n : Node). n.body ≡ Children inner) c.deref.ensures c.in-Children.is in
    let first = opens-children c.args.depth some c.children-children.result c.get-node.result.now inner (children-some c.args.depth c.children-children.result c.args.content.now (omega (arith, c.if-depth-eq0.false)) c.children-children.ensures.tokens c.requires) c.get-node.ensures is in
    (omega (arith, some), sym first ∙ (ap (opens_first c.args.depth) c.children-children.ensures.tokens ∙ c.requires))

pub returns : goal.returns
returns t c =
    let s = documents_of c.args.schema.now.spec in
    let some : 0 < c.args.depth = omega (arith, c.if-depth-eq0.false) in
    let xs = c.children-children.result in
    let x = c.get-node.result.now in
    let inner = c.in-Children.inner in
    let is = subst (λ (n : Node). n.body ≡ Children inner) c.deref.ensures c.in-Children.is in
    let first = opens-children c.args.depth some xs x inner (children-some c.args.depth c.children-children.result c.args.content.now (omega (arith, c.if-depth-eq0.false)) c.children-children.ensures.tokens c.requires) c.get-node.ensures is in
    let opens = sym first ∙ (ap (opens_first c.args.depth) c.children-children.ensures.tokens ∙ c.requires) in
    let here = subst (λ (n : Node). c.in_ok-known.known ≡ knows_open s (Open n.kind n.attrs n.marks)) c.deref-2.ensures c.in_ok-known.ensures in
    let all : known s c.args.depth c.args.content.now ≡ known s (c.args.depth - 1) inner =
    ap (known s c.args.depth) (sym c.children-children.ensures.tokens)
    ∙ (children-known s c.args.depth some xs x inner (children-some c.args.depth c.children-children.result c.args.content.now (omega (arith, c.if-depth-eq0.false)) c.children-children.ensures.tokens c.requires) c.get-node.ensures is opens
    ∙ ap (λ b. b && known s (c.args.depth - 1) inner) (sym here ∙ c.if-not-known.false)) in
    subst (λ z. IfOk c.knows_opens.result (λ b. b ≡ z)) (sym all) c.knows_opens.ensures

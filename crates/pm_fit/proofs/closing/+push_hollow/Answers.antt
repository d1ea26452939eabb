use Rattle.std.proofs.Common.{◌≡◌, ◌+◌, ◌-◌, ◌<◌, ◌++◌, ◌∷◌, [], length, ap, sym, ◌∙◌, arith}
use Rattle.std.proofs.lemmas.Result.{IfOk-equal}
use Rattle.pm_tokens.specs.Tokens.{Open, Close}
use Rattle.pm_tokens.specs.Scan.{depth_at}
use Rattle.pm_node.specs.Documents.{doc_of}
use Rattle.pm_fit.specs.Candidates.{hollow}
use Rattle.pm_fit.proofs.HollowLaws.{length-hollow, hollow-more}
use Rattle.pm_fit.proofs.closing.+push_hollow.Goals as goal

pub push_around-requires : goal.push_around-requires
push_around-requires t c =
    let d = c.args.place.now.doc in
    let p = c.args.place.now.pos in
    let n = depth_at d.tokens p in
    let j = c.args.depth in
    let here : j < n = omega (arith, c.requires.within, c.if-depth.false, c.depth.ensures) in
    let is : c.push_hollow.new.made ≡ hollow d p (j + 1) (n - (j + 1)) = c.in_ok-push_hollow.ensures ∙ ap (λ z. z ++ hollow d p (j + 1) (n - (j + 1))) c.new-content.ensures in
    omega (arith, c.requires.room, here, ap length is, length-hollow d p (j + 1) (n - (j + 1)))

pub returns : goal.returns
returns t c =
    let d = c.args.place.now.doc in
    let p = c.args.place.now.pos in
    let n = depth_at d.tokens p in
    let j = c.args.depth in
    let x = c.node-head.result.now in
    let here : j < n = omega (arith, c.requires.within, c.if-depth.false, c.depth.ensures) in
    let is : c.push_hollow.new.made ≡ hollow d p (j + 1) (n - (j + 1)) = c.in_ok-push_hollow.ensures ∙ ap (λ z. z ++ hollow d p (j + 1) (n - (j + 1))) c.new-content.ensures in
    IfOk-equal c.push_around.result _ _ _ c.push_around.ensures
    (ap (λ z. c.args.made.now ++ (Open x.kind x.attrs x.marks ∷ (z ++ (Close ∷ [])))) is ∙ ap (λ z. c.args.made.now ++ z) (sym (hollow-more d p j n (doc_of x) here c.node-head.ensures.node)))

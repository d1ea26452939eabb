use Rattle.std.proofs.Common.{◌≡◌, ◌∙◌}
use Rattle.pm_tokens.specs.Scan.{depth_at, shared_depth}
use Rattle.pm_edit.proofs.BalanceLaws.{balanced-then, balanced-else, shared-as}
use Rattle.pm_edit.proofs.places.is_balanced.Goals as goal
use Rattle.pm_fit.proofs.HollowLaws.{depth-as}

pub returns-then-inner-shared : goal.returns-then-inner-shared
returns-then-inner-shared c =
    let ts = c.args.doc.now.tokens in
    let shared : c.shared_depth-shared.result ≡ shared_depth ts c.args.from c.args.to = c.shared_depth-shared.ensures ∙ shared-as _ _ _ _ c.args.to c.in_ok-left.ensures.document c.in_ok-left.ensures.position in
    let inner : c.depth-inner.result ≡ depth_at ts c.args.from = c.depth-inner.ensures ∙ depth-as _ _ _ _ c.in_ok-left.ensures.document c.in_ok-left.ensures.position in
    balanced-else ts c.args.from c.args.to c.requires.whole c.requires.order c.requires.within c.shared_depth-shared.result c.depth-inner.result c.in_ok-right.right shared inner c.in_ok-right.ensures.depth c.if-inner-shared.true

pub returns : goal.returns
returns c =
    let ts = c.args.doc.now.tokens in
    let shared : c.shared_depth-shared.result ≡ shared_depth ts c.args.from c.args.to = c.shared_depth-shared.ensures ∙ shared-as _ _ _ _ c.args.to c.in_ok-left.ensures.document c.in_ok-left.ensures.position in
    let inner : c.depth-inner.result ≡ depth_at ts c.args.from = c.depth-inner.ensures ∙ depth-as _ _ _ _ c.in_ok-left.ensures.document c.in_ok-left.ensures.position in
    balanced-then ts c.args.from c.args.to c.requires.whole c.requires.order c.requires.within c.shared_depth-shared.result c.depth-inner.result c.in_ok-right.right shared inner c.in_ok-right.ensures.depth c.if-inner-shared.false

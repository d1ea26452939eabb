use Rattle.std.proofs.Common.{◌≡◌, ◌-◌, ◌<◌, ◌∙◌, suc, [], ap, arith, length}
use Rattle.pm_resolve.specs.Places.{inclusive_in, going_on}
use Rattle.std.specs.Arc.{arc_value}
use Rattle.pm_resolve.proofs.AmongLaws.{next-there}
use Rattle.pm_resolve.proofs.MarkLaws.{if_ok-as, marks-inside, marks-first, marks-last, marks-between}
use Rattle.pm_resolve.proofs.marks.marks_among.Goals as goal

pub returns-then-found-gt0 : goal.returns-then-found-gt0
returns-then-found-gt0 c =
    let inc = inclusive_in c.args.schema.now.spec in
    let xs = c.args.nodes.now in
    let i = c.find-found.result.index in
    let r = c.find-found.result.rest in
    let s = c.find-found.ensures in
    let lt : i < length xs = next-there s (omega (arith, c.if-found-gt0.true)) in
    if_ok-as c.copy.result _ _
    (ap (λ n. n.marks) c.deref.ensures ∙ marks-inside inc xs c.args.pos i r c.requires.normal c.requires.whole s c.get.result.now lt c.get.ensures (omega (arith, c.if-found-gt0.true)))
    c.copy.ensures

pub returns-then-index-eq0 : goal.returns-then-index-eq0
returns-then-index-eq0 c =
    let inc = inclusive_in c.args.schema.now.spec in
    let xs = c.args.nodes.now in
    let i = c.find-found.result.index in
    let r = c.find-found.result.rest in
    let s = c.find-found.ensures in
    let some : 0 < length xs = omega (arith, c.if-len-eq0.false, c.len.ensures) in
    if_ok-as c.going_on.result _ _
    (ap (λ o. going_on inc o c.deref-then-index-eq0.result.now.marks) c.empty-none.ensures
    ∙ (ap (λ n. going_on inc [] n.marks) c.deref-then-index-eq0.ensures
    ∙ marks-first inc xs c.args.pos i r c.requires.normal c.requires.whole s c.get-then-index-eq0.result.now (omega (arith, c.if-found-gt0.false)) c.if-index-eq0.true some c.get-then-index-eq0.ensures))
    c.going_on.ensures

pub returns-then-index-len : goal.returns-then-index-len
returns-then-index-len c =
    let inc = inclusive_in c.args.schema.now.spec in
    let xs = c.args.nodes.now in
    let i = c.find-found.result.index in
    let r = c.find-found.result.rest in
    let s = c.find-found.ensures in
    let j : i ≡ suc (i - 1) = omega (arith, c.if-index-eq0.false) in
    if_ok-as c.going_on-then-index-len.result _ _
    (ap (λ o. going_on inc o c.deref-2.result.now.marks) c.empty-none.ensures
    ∙ (ap (λ n. going_on inc [] n.marks) c.deref-2.ensures
    ∙ marks-last inc xs c.args.pos i r c.requires.normal c.requires.whole s c.get-2.result.now (i - 1) j c.get-2.ensures (c.if-index-len.true ∙ c.len-2.ensures)))
    c.going_on-then-index-len.ensures

pub returns : goal.returns
returns c =
    let inc = inclusive_in c.args.schema.now.spec in
    let xs = c.args.nodes.now in
    let i = c.find-found.result.index in
    let r = c.find-found.result.rest in
    let s = c.find-found.ensures in
    let j : i ≡ suc (i - 1) = omega (arith, c.if-index-eq0.false) in
    let lt : i < length xs = let k = s.within in omega (arith, k, c.if-index-len.false, c.len-2.ensures) in
    if_ok-as c.going_on-2.result _ _
    (ap (λ n. going_on inc c.deref-3.result.now.marks n.marks) c.deref-2.ensures
    ∙ (ap (λ n. going_on inc n.marks (arc_value c.get-2.result.now).marks) c.deref-3.ensures
    ∙ marks-between inc xs c.args.pos i r c.requires.normal c.requires.whole s c.get-2.result.now (i - 1) j c.get-2.ensures c.get-3.result.now (omega (arith, c.if-found-gt0.false)) lt c.get-3.ensures))
    c.going_on-2.ensures

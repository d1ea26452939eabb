use Rattle.std.proofs.Common.{◌≡◌, ◌+◌, ◌∙◌, sym, subst, take, ◌++◌, [], ◌∷◌, ap, List}
use Rattle.std.proofs.lemmas.List.{take_more}
use Rattle.pm_auto.specs.declared.sets.PlaceSet.{PlaceSet}
use Rattle.pm_auto.specs.States.{Apart}
use Rattle.pm_auto.proofs.StateLaws.{apart-end}
use Rattle.pm_auto.proofs.PrintLaws.{print-is}
use Rattle.pm_auto.proofs.explore.find.Goals as goal

pub loop-i-preserved : goal.loop-i-preserved
loop-i-preserved c =
    let e : take (c.loop-i.i + 1) c.args.sets.now ≡ take c.loop-i.i c.args.sets.now ++ c.index-sets-i.result ∷ [] =
    take_more c.args.sets.now c.loop-i.i c.index-sets-i.result c.loop-i-test.true ∙ ap (λ (x : PlaceSet). take c.loop-i.i c.args.sets.now ++ x ∷ []) (sym c.index-sets-i.is) in
    subst (λ (ss : List PlaceSet). Apart c.args.set.now ss) (sym e) (apart-end c.args.set.now c.index-sets-i.result (take c.loop-i.i c.args.sets.now) c.loop-i.invariant (c.same.ensures.different c.if-same.false))

pub same-requires-clause-second : goal.same-requires-clause-second
same-requires-clause-second c = print-is c.args.sets.now c.args.prints.now c.loop-i.i c.index-sets-i.result c.requires.prints c.loop-i-test.true c.index-sets-i.is

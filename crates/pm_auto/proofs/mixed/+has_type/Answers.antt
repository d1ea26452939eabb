use Rattle.std.proofs.Common.{rules, ◌≡◌, ◌∙◌, sym, refl, true, false}
use Rattle.pm_auto.specs.Types.{types, one_is}
use Rattle.pm_auto.specs.declared.expr.Expr.TheViews.{the_lemmas}
use Rattle.pm_auto.proofs.TypeLaws.{types-items, one-item}
use Rattle.pm_auto.proofs.mixed.+has_type.Goals as goal

pub has_type-returns-in-Choice : goal.has_type-returns-in-Choice
has_type-returns-in-Choice t c = search (rules, the_lemmas, types-items)

pub has_type-returns-in-Seq : goal.has_type-returns-in-Seq
has_type-returns-in-Seq t c = search (rules, the_lemmas, types-items)

pub one_has_type-returns-then-has_type : goal.one_has_type-returns-then-has_type
one_has_type-returns-then-has_type t c =
    let e : one_is c.args.inline.now c.args.wanted (types c.item-item.result) ≡ true = sym c.has_type.ensures ∙ c.if-has_type.true in
    sym (c.loop-item.invariant ∙ one-item c.args.items.now c.loop-item.item-index c.item-item.result c.loop-item-test.true c.item-item.is c.args.inline.now c.args.wanted ∙ rw e refl)

pub one_has_type-loop-item-preserved : goal.one_has_type-loop-item-preserved
one_has_type-loop-item-preserved t c =
    let e : one_is c.args.inline.now c.args.wanted (types c.item-item.result) ≡ false = sym c.has_type.ensures ∙ c.if-has_type.false in
    c.loop-item.invariant ∙ one-item c.args.items.now c.loop-item.item-index c.item-item.result c.loop-item-test.true c.item-item.is c.args.inline.now c.args.wanted ∙ rw e refl

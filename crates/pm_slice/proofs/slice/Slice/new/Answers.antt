use Rattle.std.proofs.Common.{◌≡◌, sym, ◌∙◌, arith, true, false, refl}
use Rattle.pm_tokens.proofs.PartLaws.{slice-is}
use Rattle.pm_slice.specs.Sides.{sides}
use Rattle.pm_slice.proofs.SideLaws.{made-slice, sides-fit, some-left}
use Rattle.pm_slice.proofs.slice.Slice.new.Goals as goal
use Rattle.pm_slice.proofs.slice.Slice.new.Goals.{then-not-starts_open-via-then-not-starts_open, then-not-starts_open-via-else-not-starts_open+then-not-ends_open}

pub returns-then-not-starts_open-clause-fits : goal.returns-then-not-starts_open-clause-fits
returns-then-not-starts_open-clause-fits c =
    let f = sides-fit c.args.content c.args.open_start c.args.open_end in (
      λ e. absurd (cc),
      λ h. absurd (elim c.then-not-starts_open.branch [
        | then-not-starts_open-via-then-not-starts_open w ↦ (
            let yes : c.starts_open.result ≡ true = c.starts_open.ensures ∙ (f h).0 in
            let other : c.starts_open.result ≡ false = w.if-not-starts_open.true in cc
            )
        | then-not-starts_open-via-else-not-starts_open+then-not-ends_open w ↦ (
            let yes : w.ends_open.result ≡ true = w.ends_open.ensures ∙ (f h).1 in
            let other : w.ends_open.result ≡ false = w.if-not-ends_open.true in cc
            )
      ]),
    )

pub overflow_add-open_start : goal.overflow_add-open_start
overflow_add-open_start c =
    let slice = made-slice c.args.content c.args.open_start c.args.open_end c.size-size.ensures.whole (sym c.starts_open.ensures ∙ c.if-not-starts_open.false) (sym c.ends_open.ensures ∙ c.if-not-ends_open.false) in
    let w = slice-is (sides c.args.content c.args.open_start c.args.open_end) slice in
    omega (arith, w.within, c.size-size.ensures.size, c.size-size.ensures.bound)

pub returns-then-open_start-open_end-clause-fits : goal.returns-then-open_start-open_end-clause-fits
returns-then-open_start-open_end-clause-fits c =
    (λ e. made-slice c.args.content c.args.open_start c.args.open_end c.size-size.ensures.whole (sym c.starts_open.ensures ∙ c.if-not-starts_open.false) (sym c.ends_open.ensures ∙ c.if-not-ends_open.false), λ h. refl)

pub invariant_of-result : goal.invariant_of-result
invariant_of-result c =
    let slice = made-slice c.args.content c.args.open_start c.args.open_end c.size-size.ensures.whole (sym c.starts_open.ensures ∙ c.if-not-starts_open.false) (sym c.ends_open.ensures ∙ c.if-not-ends_open.false) in
    record {
      slice = slice;
      one = sym (some-left c.args.content c.args.open_start c.args.open_end slice (λ e. c.if-open_start-open_end.false (e ∙ sym c.size-size.ensures.size)));
    }

pub returns-clause-fits : goal.returns-clause-fits
returns-clause-fits c =
    (λ e. made-slice c.args.content c.args.open_start c.args.open_end c.size-size.ensures.whole (sym c.starts_open.ensures ∙ c.if-not-starts_open.false) (sym c.ends_open.ensures ∙ c.if-not-ends_open.false), λ h. refl)

pub returns-clause-made : goal.returns-clause-made
returns-clause-made c =
    let slice = made-slice c.args.content c.args.open_start c.args.open_end c.size-size.ensures.whole (sym c.starts_open.ensures ∙ c.if-not-starts_open.false) (sym c.ends_open.ensures ∙ c.if-not-ends_open.false) in
    some-left c.args.content c.args.open_start c.args.open_end slice (λ e. c.if-open_start-open_end.false (e ∙ sym c.size-size.ensures.size))

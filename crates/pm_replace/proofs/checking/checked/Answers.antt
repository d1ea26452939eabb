use Rattle.std.proofs.Common.{◌≡◌, true, false, arith, ap, sym, ◌∙◌}
use Rattle.pm_meaning.specs.Outcomes.{unless_fault}
use Rattle.pm_schema.specs.Documents.{documents_of}
use Rattle.pm_replace.proofs.OutcomeAnswers.{too-large, too-deep, by-place}
use Rattle.pm_replace.proofs.checking.checked.Goals as goal

pub returns-then-size-max_size : goal.returns-then-size-max_size
returns-then-size-max_size c = too-large (documents_of c.args.schema.now.spec) c.args.doc (omega (arith, c.if-size-max_size.true, c.max_size.ensures.size, c.size-size.ensures))

pub returns-then-not-nests : goal.returns-then-not-nests
returns-then-not-nests c =
    let no : c.nests_within-nests.result ≡ false = c.if-not-nests.true in
    too-deep (documents_of c.args.schema.now.spec) c.args.doc (omega (arith, c.if-size-max_size.false, c.max_size.ensures.size, c.size-size.ensures))
    (λ h. let yes : c.nests_within-nests.result ≡ true = c.nests_within-nests.ensures.1 h in absurd (cc))

pub returns-in-Some : goal.returns-in-Some
returns-in-Some c =
    let s = documents_of c.args.schema.now.spec in
    by-place s c.args.doc (omega (arith, c.if-size-max_size.false, c.max_size.ensures.size, c.size-size.ensures)) (c.nests_within-nests.ensures.0 c.if-not-nests.false)
    ∙ ap (λ p. unless_fault p c.args.doc) (sym c.in_ok-place.ensures ∙ c.in-Some.is)

pub returns-in-None : goal.returns-in-None
returns-in-None c =
    let s = documents_of c.args.schema.now.spec in
    by-place s c.args.doc (omega (arith, c.if-size-max_size.false, c.max_size.ensures.size, c.size-size.ensures)) (c.nests_within-nests.ensures.0 c.if-not-nests.false)
    ∙ ap (λ p. unless_fault p c.args.doc) (sym c.in_ok-place.ensures ∙ c.in-None.is)

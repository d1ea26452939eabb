use Rattle.std.proofs.Common.{◌≡◌, true, false, ◌&&◌, sym, ◌∙◌}
use Rattle.pm_tokens.specs.Marks.{have_attrs, is_set, are_allowed}
use Rattle.pm_schema.specs.Documents.{documents_of}
use Rattle.pm_node.proofs.FaultWalk.{bad-marks, good-marks}
use Rattle.pm_node.proofs.check.marks_fault.Goals as goal
use Rattle.pm_node.proofs.check.marks_fault.Goals.{then-not-branch-via-then-not-branch, then-not-branch-via-else-not-branch+then-not-marks_are_allowed}
use Rattle.std.proofs.lemmas.Bool.{and_from, and_right, and_left}

pub returns-then-not-branch-clause-first : goal.returns-then-not-branch-clause-first
returns-then-not-branch-clause-first c =
    let s = documents_of c.args.schema.now.spec in
    let ms = c.args.marks.now in
    let bad : (is_set s ms && are_allowed s c.args.parent ms) ≡ false = elim c.then-not-branch.branch [
      | then-not-branch-via-then-not-branch w ↦ and_left (is_set s ms) (are_allowed s c.args.parent ms) (sym c.in_ok-marks_are_set.ensures ∙ w.if-not-branch.true)
      | then-not-branch-via-else-not-branch+then-not-marks_are_allowed w ↦ and_right (is_set s ms) (are_allowed s c.args.parent ms) (sym w.marks_are_allowed.ensures ∙ w.if-not-marks_are_allowed.true)
    ] in
    bad-marks c.args.fit (have_attrs s ms) (is_set s ms && are_allowed s c.args.parent ms) c.args.at c.if-not-fit.false (sym c.marks_have_attrs.ensures ∙ c.if-not-marks_have_attrs.false) bad

pub returns-clause-first : goal.returns-clause-first
returns-clause-first c =
    let s = documents_of c.args.schema.now.spec in
    let ms = c.args.marks.now in
    let good : (is_set s ms && are_allowed s c.args.parent ms) ≡ true = and_from (is_set s ms) (are_allowed s c.args.parent ms) (sym c.in_ok-marks_are_set.ensures ∙ c.if-not-branch.false) (sym c.marks_are_allowed.ensures ∙ c.if-not-marks_are_allowed.false) in
    good-marks c.args.fit (have_attrs s ms) (is_set s ms && are_allowed s c.args.parent ms) c.args.at c.if-not-fit.false (sym c.marks_have_attrs.ensures ∙ c.if-not-marks_have_attrs.false) good

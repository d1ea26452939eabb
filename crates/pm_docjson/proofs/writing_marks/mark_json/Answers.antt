use Rattle.std.proofs.Common.{◌≡◌, ℕ, List, subst}
use Rattle.std.specs.Prelude.{Some}
use Rattle.pm_schema.specs.Names.{place_of}
use Rattle.pm_schema.specs.Types.{names_of_marks}
use Rattle.pm_docjson.proofs.MarksAgain.{mark-again, mark-inside, mark-attrs}
use Rattle.pm_docjson.proofs.writing_marks.mark_json.Goals as goal

pub returns-clause-again : goal.returns-clause-again
returns-clause-again c =
    let s = c.args.schema.now.spec in
    let m = c.args.mark.now in
    λ fits. mark-again s m (subst (λ (n : List ℕ). place_of n (names_of_marks s) ≡ Some m.kind) c.mark_name.ensures.name (c.mark_name.ensures.found (mark-inside s m fits))) (c.in_ok-put_attrs.ensures.again (mark-attrs s m fits))

use Rattle.std.proofs.Common.{ap, ◌∙◌, sym, subst, List, Bool, Ok, Err}
use Rattle.pm_attrs.specs.Attrs.{same_attrs}
use Rattle.pm_marks.specs.Sets.{IsSet}
use Rattle.pm_docjson.proofs.SetLaws.{as_set-yes, as_set-no}
use Rattle.pm_docjson.proofs.reading_marks.as_set.Goals as goal

pub returns-in-Ok : goal.returns-in-Ok
returns-in-Ok c =
    let set = subst (λ (t : List (List Bool)). IsSet same_attrs t c.args.marks.items) c.rules.ensures c.in-Ok.ensures.set in
    as_set-yes c.args.schema.now.spec c.args.marks.items set ∙ ap Ok (sym c.in-Ok.ensures.list)

pub returns-in-Err-NotASet : goal.returns-in-Err-NotASet
returns-in-Err-NotASet c =
    as_set-no c.args.schema.now.spec c.args.marks.items (λ h. c.in-Err-NotASet.ensures.not_a_set (ap Err c.in-Err-NotASet.field-0-is) (subst (λ (t : List (List Bool)). IsSet same_attrs t c.args.marks.items) (sym c.rules.ensures) h))

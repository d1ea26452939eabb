use Rattle.std.proofs.Common.{◌≡◌, ◌<◌, true, arith, length, sym, subst, ◌∙◌}
use Rattle.std.proofs.lemmas.List.{length-map}
use Rattle.serde_json.proofs.Views.{view-Object}
use Rattle.serde_json.specs.View.{members_view}
use Rattle.pm_value.specs.Views.{plains}
use Rattle.pm_schema.specs.Attrs.{attrs_of}
use Rattle.pm_schema.specs.Types.{fit_attrs}
use Rattle.pm_docjson.specs.Values.{keys}
use Rattle.pm_docjson.proofs.AttrsAgain.{attrs-again, none-again, put_attrs-empty, object-read, object-put}
use Rattle.pm_docjson.proofs.writing_attrs.put_attrs.Goals as goal

pub returns-then-count-eq0-clause-put : goal.returns-then-count-eq0-clause-put
returns-then-count-eq0-clause-put c =
    let attrs = attrs_of c.args.schema.now.spec c.args.kind in
    let count : length (keys attrs) ≡ 0 = omega (arith, length-map attrs (λ a. a.name)) in
    sym (put_attrs-empty (keys attrs) c.args.attrs.now _ count)

pub returns-then-count-eq0-clause-again : goal.returns-then-count-eq0-clause-again
returns-then-count-eq0-clause-again c = none-again (attrs_of c.args.schema.now.spec c.args.kind) c.args.attrs.now (omega arith)

pub returns-clause-put : goal.returns-clause-put
returns-clause-put c =
    let attrs = attrs_of c.args.schema.now.spec c.args.kind in
    let some : 0 < length (keys attrs) = omega (arith, length-map attrs (λ a. a.name)) in
    c.in_ok-put.ensures.ok ∙ object-put (keys attrs) c.args.attrs.now (plains c.values.result.now) (members_view c.in_ok-object.object.entries) _ _ some (view-Object c.in_ok-object.object) c.in_ok-object.ensures.wrote c.values.ensures

pub returns-clause-again : goal.returns-clause-again
returns-clause-again c =
    let attrs = attrs_of c.args.schema.now.spec c.args.kind in
    λ fit. let fits : fit_attrs attrs (plains c.values.result.now) ≡ true = subst (λ vs. fit_attrs attrs vs ≡ true) (sym c.values.ensures) fit in
    attrs-again attrs c.args.attrs.now c.attr_count-count.ensures.sorted fit (object-read (keys attrs) c.args.attrs.now (plains c.values.result.now) (members_view c.in_ok-object.object.entries) c.in_ok-object.ensures.wrote (c.in_ok-object.ensures.read fits) c.values.ensures)

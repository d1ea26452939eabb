use Rattle.std.proofs.Common.{ap, subst}
use Rattle.pm_list.specs.Readings.{or_fault}
use Rattle.pm_schema.specs.Attrs.{attrs_of, pairs_of, IsAttrFault}
use Rattle.pm_schema.specs.declared.error.AttrError.{AttrError}
use Rattle.pm_docjson.specs.declared.fault.DocReadError.TheVariants.{Attr}
use Rattle.pm_docjson.proofs.ValueAnswers.{values-yes, values-unknown, values-kind, values-missing}
use Rattle.pm_docjson.proofs.reading_attrs.values_for.Goals as goal

pub returns-in-Ok : goal.returns-in-Ok
returns-in-Ok c = ap (or_fault Attr) (values-yes (attrs_of c.args.schema.now.spec c.args.kind) (pairs_of c.args.given.items) c.in-Ok.attrs c.in-Ok.ensures.values c.in-Ok.ensures.known c.in-Ok.ensures.kinds)

pub returns-in-Err-Missing : goal.returns-in-Err-Missing
returns-in-Err-Missing c =
    let fault = subst (λ (e : AttrError). IsAttrFault (attrs_of c.args.schema.now.spec c.args.kind) (pairs_of c.args.given.items) e) c.in-Err-Missing.field-0-is c.in-Err-Missing.ensures.refused in
    ap (or_fault Attr) (values-missing (attrs_of c.args.schema.now.spec c.args.kind) (pairs_of c.args.given.items) _ fault)

pub returns-in-Err-Unknown : goal.returns-in-Err-Unknown
returns-in-Err-Unknown c =
    let fault = subst (λ (e : AttrError). IsAttrFault (attrs_of c.args.schema.now.spec c.args.kind) (pairs_of c.args.given.items) e) c.in-Err-Unknown.field-0-is c.in-Err-Unknown.ensures.refused in
    ap (or_fault Attr) (values-unknown (attrs_of c.args.schema.now.spec c.args.kind) (pairs_of c.args.given.items) _ fault.1)

pub returns-in-Err-Kind : goal.returns-in-Err-Kind
returns-in-Err-Kind c =
    let fault = subst (λ (e : AttrError). IsAttrFault (attrs_of c.args.schema.now.spec c.args.kind) (pairs_of c.args.given.items) e) c.in-Err-Kind.field-0-is c.in-Err-Kind.ensures.refused in
    ap (or_fault Attr) (values-kind (attrs_of c.args.schema.now.spec c.args.kind) (pairs_of c.args.given.items) _ fault.2)

use Rattle.std.proofs.Common.{◌≡◌, ◌<◌, ◌≤◌, ◌-◌, arith, length, sym, subst, get_or, rules, ap, ◌∙◌}
use Rattle.std.proofs.lemmas.List.{length-map, get_or-map}
use Rattle.serde_json.specs.Data.{no_members}
use Rattle.serde_json.specs.View.{view, members_view}
use Rattle.pm_value.specs.Views.{plain, plains}
use Rattle.pm_schema.specs.Attrs.{attrs_of}
use Rattle.pm_schema.specs.Types.{fit_attrs}
use Rattle.pm_docjson.specs.Values.{keys}
use Rattle.pm_docjson.proofs.AttrsAgain.{Object, object-start, object-more, name-at, depth-at, keys-size}
use Rattle.pm_doctext.proofs.attrs.attr_object.Goals as goal

pub loop-i-init : goal.loop-i-init
loop-i-init c =
    let attrs = attrs_of c.args.schema.now.spec c.args.kind in
    let vs = plains c.args.values.now in
    let empty : members_view c.new-map.result.entries ≡ no_members = search rules in
    let names : length (keys attrs) ≡ length attrs = length-map attrs (λ a. a.name) in
    let counted : length vs ≡ length c.args.values.now = length-map c.args.values.now plain in
    subst (Object (fit_attrs attrs vs) (keys attrs) vs c.min-i.result) (sym empty) (object-start (fit_attrs attrs vs) (keys attrs) vs c.min-i.result (omega arith) (keys-size attrs vs))

pub loop-i-preserved : goal.loop-i-preserved
loop-i-preserved c =
    let attrs = attrs_of c.args.schema.now.spec c.args.kind in
    let vs = plains c.args.values.now in
    let i = c.loop-i.i - 1 in
    let v = plain c.index-values-i.result in
    let names : length (keys attrs) ≡ length attrs = length-map attrs (λ a. a.name) in
    let counted : length vs ≡ length c.args.values.now = length-map c.args.values.now plain in
    let inside : c.loop-i.i ≤ length vs = c.loop-i.invariant.inside in
    let named : c.loop-i.i ≤ length (keys attrs) = c.loop-i.invariant.named in
    let within : i < length vs = omega arith in
    let declared : i < length attrs = omega arith in
    let place : i < length c.args.values.now = omega arith in
    let value : v ≡ get_or vs i v = ap plain c.index-values-i.is ∙ sym (get_or-map plain c.args.values.now i c.index-values-i.result v place) in
    object-more (fit_attrs attrs vs) (keys attrs) vs i c.loop-i.i c.attr_name.result.now v (view c.in_ok-json.json) (members_view c.loop-i.map.entries) (members_view c.put.new.map.entries) (keys-size attrs vs) c.attr_count.ensures.sorted within (omega arith) (omega arith)
    (name-at attrs i c.attr_name.result.now declared c.attr_name.ensures) value c.in_ok-json.ensures.written (λ fit. c.in_ok-json.ensures.again (depth-at attrs vs i v fit within value)) c.in_ok-put.ensures.ok c.loop-i.invariant

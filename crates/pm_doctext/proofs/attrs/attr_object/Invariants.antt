use Rattle.serde_json.specs.View.{members_view}
use Rattle.pm_value.specs.Views.{plains}
use Rattle.pm_schema.specs.Attrs.{attrs_of}
use Rattle.pm_schema.specs.Types.{fit_attrs}
use Rattle.pm_docjson.specs.Values.{keys}
use Rattle.pm_docjson.proofs.AttrsAgain.{Object}
use Rattle.pm_doctext.proofs.attrs.attr_object.Given as goal

abbrev pub invariant-loop-i : goal.invariant-loop-i
invariant-loop-i l = Object (fit_attrs (attrs_of l.schema.spec l.kind) (plains l.values)) (keys (attrs_of l.schema.spec l.kind)) (plains l.values) l.i (members_view l.map.entries)

abbrev pub decreases-loop-i : goal.decreases-loop-i
decreases-loop-i l = l.i

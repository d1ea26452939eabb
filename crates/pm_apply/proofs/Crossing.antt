-- A change of documents, its schema and its documents may go to other threads, and threads may share them.
use denote.Param.Send.{IsSend, IsSync, sendable}
use denote.Param.SendFields.{declared_send, declared_sync}
use Rattle.std.proofs.Crossing.{crosses}
use Rattle.pm_list.proofs.listed.Listed.TheSendSync as Listed
use Rattle.pm_value.proofs.text.Text.TheSendSync as Text
use Rattle.pm_value.proofs.value.Fields.TheLaws.TheKnot as Values
use Rattle.pm_marks.proofs.set.MarkSet.TheSendSync as MarkSet
use Rattle.pm_marks.proofs.rules.MarkRules.TheSendSync as MarkRules
use Rattle.pm_auto.proofs.expr.Expr.TheLaws.TheKnot as Exprs
use Rattle.pm_schema.proofs.names.Names.TheSendSync as Names
use Rattle.pm_units.proofs.units.Units.TheSendSync as Units
use Rattle.pm_node.proofs.node.Fragment.TheLaws.TheKnot as Nodes
use Rattle.pm_attrs.specs.contracts.attrs.Attrs as attrs
use Rattle.pm_auto.specs.contracts.states.States as states
use Rattle.pm_auto.specs.contracts.auto.Auto as auto
use Rattle.pm_schema.specs.contracts.spec.AttrSpec as attr_spec
use Rattle.pm_schema.specs.contracts.declared.AttrSpecs as attr_specs
use Rattle.pm_schema.specs.contracts.spec.NodeSpec as node_spec
use Rattle.pm_schema.specs.contracts.spec.MarkSpec as mark_spec
use Rattle.pm_schema.specs.contracts.spec.SchemaSpec as spec
use Rattle.pm_schema.specs.contracts.schema.Schema as schema
use Rattle.pm_node.specs.contracts.node.Node as node
use Rattle.pm_node.specs.contracts.node.Fragment as fragment
use Rattle.pm_node.specs.contracts.document.Document as document
use Rattle.pm_slice.specs.contracts.slice.Slice as slice
use Rattle.pm_step.specs.contracts.step.Step as step
use Rattle.pm_apply.specs.contracts.change.DocChange as change

pub attrs_send : IsSend attrs.the_row
attrs_send = search (sendable, crosses, Values.crosses, Text.the_send) depth 20

pub attrs_sync : IsSync attrs.the_row
attrs_sync = search (sendable, crosses, Values.crosses, Text.the_sync) depth 20

pub fragment_send : IsSend fragment.the_row
fragment_send = search (sendable, crosses, Nodes.crosses, attrs_send, attrs_sync, Units.the_send, Units.the_sync) depth 60 fits 100000

pub fragment_sync : IsSync fragment.the_row
fragment_sync = search (sendable, crosses, Nodes.crosses, attrs_send, attrs_sync, Units.the_send, Units.the_sync) depth 60 fits 100000

pub node_send : IsSend node.the_row
node_send = search (sendable, crosses, fragment_send, attrs_send, MarkSet.the_send, Units.the_send) depth 20

pub node_sync : IsSync node.the_row
node_sync = search (sendable, crosses, fragment_sync, attrs_sync, MarkSet.the_sync, Units.the_sync) depth 20

pub document_send : IsSend document.the_row
document_send = search (sendable, crosses, node_send, node_sync) depth 20

pub document_sync : IsSync document.the_row
document_sync = search (sendable, crosses, node_send, node_sync) depth 20

pub attr_spec_send : IsSend attr_spec.the_row
attr_spec_send = search (sendable, crosses, Values.crosses, Text.the_send) depth 20

pub attr_spec_sync : IsSync attr_spec.the_row
attr_spec_sync = search (sendable, crosses, Values.crosses, Text.the_sync) depth 20

pub attr_specs_send : IsSend attr_specs.the_row
attr_specs_send = search (sendable, Listed.the_send, attr_spec_send) depth 20

pub attr_specs_sync : IsSync attr_specs.the_row
attr_specs_sync = search (sendable, Listed.the_sync, attr_spec_sync) depth 20

pub node_spec_send : IsSend node_spec.the_row
node_spec_send = search (sendable, Listed.the_send, attr_specs_send, crosses, Exprs.crosses, Text.the_send) depth 20

pub node_spec_sync : IsSync node_spec.the_row
node_spec_sync = search (sendable, Listed.the_sync, attr_specs_sync, crosses, Exprs.crosses, Text.the_sync) depth 20

pub mark_spec_send : IsSend mark_spec.the_row
mark_spec_send = search (sendable, Listed.the_send, attr_specs_send, Text.the_send) depth 20

pub mark_spec_sync : IsSync mark_spec.the_row
mark_spec_sync = search (sendable, Listed.the_sync, attr_specs_sync, Text.the_sync) depth 20

pub spec_send : IsSend spec.the_row
spec_send = search (sendable, Listed.the_send, node_spec_send, mark_spec_send, Text.the_send) depth 20

pub spec_sync : IsSync spec.the_row
spec_sync = search (sendable, Listed.the_sync, node_spec_sync, mark_spec_sync, Text.the_sync) depth 20

pub states_send : IsSend states.the_row
states_send = search (sendable, Listed.the_send, crosses, Exprs.crosses) depth 20

pub states_sync : IsSync states.the_row
states_sync = search (sendable, Listed.the_sync, crosses, Exprs.crosses) depth 20

pub auto_send : IsSend auto.the_row
auto_send = search (sendable, Listed.the_send, states_send) depth 20

pub auto_sync : IsSync auto.the_row
auto_sync = search (sendable, Listed.the_sync, states_sync) depth 20

pub schema_send : IsSend schema.the_row
schema_send = declared_send schema.the_type (spec_send, (Names.the_send, (Names.the_send, (search sendable, (search sendable, (search (sendable, Listed.the_send, auto_send) depth 20, (search (sendable, Listed.the_send) depth 20, (search (sendable, MarkRules.the_send), (search (sendable, Listed.the_send) depth 20, (search (sendable, Listed.the_send) depth 20, tt))))))))))

pub schema_sync : IsSync schema.the_row
schema_sync = declared_sync schema.the_type (spec_sync, (Names.the_sync, (Names.the_sync, (search sendable, (search sendable, (search (sendable, Listed.the_sync, auto_sync) depth 20, (search (sendable, Listed.the_sync) depth 20, (search (sendable, MarkRules.the_sync), (search (sendable, Listed.the_sync) depth 20, (search (sendable, Listed.the_sync) depth 20, tt))))))))))

pub slice_send : IsSend slice.the_row
slice_send = search (sendable, fragment_send) depth 20

pub slice_sync : IsSync slice.the_row
slice_sync = search (sendable, fragment_sync) depth 20

pub step_send : IsSend step.the_row
step_send = search (sendable, slice_send, attrs_send, Values.crosses, crosses, Text.the_send) depth 40 fits 20000

pub step_sync : IsSync step.the_row
step_sync = search (sendable, slice_sync, attrs_sync, Values.crosses, crosses, Text.the_sync) depth 40 fits 20000

pub change_send : IsSend change.the_row
change_send = search (sendable, crosses, step_send, step_sync) depth 20

pub change_sync : IsSync change.the_row
change_sync = search (sendable, crosses, step_send, step_sync) depth 20

-- for `search`
pub ruleset change_crosses = (schema_send, schema_sync, document_send, document_sync, change_send, change_sync)

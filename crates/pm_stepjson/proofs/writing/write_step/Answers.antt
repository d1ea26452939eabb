use Rattle.std.proofs.Common.{ap}
use Rattle.serde_json.specs.View.{view}
use Rattle.pm_step.specs.Steps.{node_step, range_step, step_of}
use Rattle.pm_value.specs.Views.{plain}
use Rattle.pm_meaning.specs.Steps.{Replace, ReplaceAround, Attr, DocAttr}
use Rattle.pm_stepjson.proofs.Again.{replace-again, around-again, range-again, node-again, attr-again, doc_attr-again, reads-again}
use Rattle.pm_stepjson.proofs.writing.write_step.Goals as goal

pub returns-in-Replace-clause-again : goal.returns-in-Replace-clause-again
returns-in-Replace-clause-again c =
    let s = c.args.schema.now.spec in
    let r = c.in-Replace.step in
    reads-again s view (Replace r.from r.to r.slice r.structure) (step_of c.args.step.now) c.replace_json.result (ap step_of c.in-Replace.is)
    c.replace_json.ensures.written c.replace_json.ensures.again (replace-again s r.from r.to r.slice r.structure)

pub returns-in-ReplaceAround-clause-again : goal.returns-in-ReplaceAround-clause-again
returns-in-ReplaceAround-clause-again c =
    let s = c.args.schema.now.spec in
    let r = c.in-ReplaceAround.step in
    reads-again s view (ReplaceAround r.from r.to r.gap_from r.gap_to r.slice r.insert r.structure) (step_of c.args.step.now) c.around_json.result (ap step_of c.in-ReplaceAround.is)
    c.around_json.ensures.written c.around_json.ensures.again (around-again s r.from r.to r.gap_from r.gap_to r.slice r.insert r.structure)

pub returns-in-Mark-clause-again : goal.returns-in-Mark-clause-again
returns-in-Mark-clause-again c =
    let s = c.args.schema.now.spec in
    let m = c.in-Mark.step in
    reads-again s view (range_step m.marking m.from m.to) (step_of c.args.step.now) c.range_json.result (ap step_of c.in-Mark.is)
    c.range_json.ensures.written c.range_json.ensures.again (range-again s m.marking m.from m.to)

pub returns-in-NodeMark-clause-again : goal.returns-in-NodeMark-clause-again
returns-in-NodeMark-clause-again c =
    let s = c.args.schema.now.spec in
    let m = c.in-NodeMark.step in
    reads-again s view (node_step m.marking m.pos) (step_of c.args.step.now) c.node_json.result (ap step_of c.in-NodeMark.is)
    c.node_json.ensures.written c.node_json.ensures.again (node-again s m.marking m.pos)

pub returns-in-Attr-clause-again : goal.returns-in-Attr-clause-again
returns-in-Attr-clause-again c =
    let s = c.args.schema.now.spec in
    let a = c.in-Attr.step in
    reads-again s view (Attr a.pos a.attr (plain a.value)) (step_of c.args.step.now) c.attr_json.result (ap step_of c.in-Attr.is)
    c.attr_json.ensures.written c.attr_json.ensures.again (attr-again s a.pos a.attr (plain a.value))

pub returns-in-DocAttr-clause-again : goal.returns-in-DocAttr-clause-again
returns-in-DocAttr-clause-again c =
    let s = c.args.schema.now.spec in
    let a = c.in-DocAttr.step in
    reads-again s view (DocAttr a.attr (plain a.value)) (step_of c.args.step.now) c.doc_attr_json.result (ap step_of c.in-DocAttr.is)
    c.doc_attr_json.ensures.written c.doc_attr_json.ensures.again (doc_attr-again s a.attr (plain a.value))

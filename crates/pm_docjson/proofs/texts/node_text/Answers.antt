use Rattle.serde_json.specs.View.{view}
use Rattle.pm_docjson.specs.Writing.{node_written}
use Rattle.pm_docjson.proofs.KeyOrder.{node-ordered}
use Rattle.pm_docjson.proofs.NoFloat.{node-whole}
use Rattle.pm_docjson.proofs.WholeTexts.{text-is, text-reads}
use Rattle.pm_docjson.proofs.texts.node_text.Goals as goal

pub returns-clause-text : goal.returns-clause-text
returns-clause-text c =
    let s = c.args.schema.now.spec in
    let n = c.args.node.now in
    text-is (view c.in_ok-value.value) (node_written s n) c.to_string.result c.in_ok-value.ensures.written (node-whole s n) c.to_string.ensures.text

pub returns-clause-read : goal.returns-clause-read
returns-clause-read c =
    let s = c.args.schema.now.spec in
    let n = c.args.node.now in
    text-reads (view c.in_ok-value.value) (node_written s n) c.to_string.result c.in_ok-value.ensures.written c.to_string.ensures.reads_back

pub returns-clause-ordered : goal.returns-clause-ordered
returns-clause-ordered c = node-ordered c.args.schema.now.spec c.args.node.now

pub returns-clause-whole : goal.returns-clause-whole
returns-clause-whole c = node-whole c.args.schema.now.spec c.args.node.now

pub returns-in_err-value-clause-ordered : goal.returns-in_err-value-clause-ordered
returns-in_err-value-clause-ordered c = node-ordered c.args.schema.now.spec c.args.node.now

pub returns-in_err-value-clause-whole : goal.returns-in_err-value-clause-whole
returns-in_err-value-clause-whole c = node-whole c.args.schema.now.spec c.args.node.now

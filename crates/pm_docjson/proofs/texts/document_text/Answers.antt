use Rattle.serde_json.specs.View.{view}
use Rattle.pm_node.specs.declared.node.Body.TheVariants.{Children}
use Rattle.pm_node.specs.declared.node.Node.{Node}
use Rattle.pm_docjson.specs.Writing.{doc_written}
use Rattle.pm_tokens.specs.Tokens.{Doc}
use Rattle.pm_docjson.proofs.KeyOrder.{node-ordered}
use Rattle.pm_docjson.proofs.NoFloat.{node-whole}
use Rattle.pm_docjson.proofs.WholeTexts.{text-is, text-reads}
use Rattle.pm_docjson.proofs.DocsBack.{reads-back}
use Rattle.pm_docjson.proofs.Levels.{valid-low}
use Rattle.pm_docjson.proofs.texts.document_text.Goals as goal

-- the top node whose content are these tokens, which is written as the document is
abbrev top : Doc → Node
top d = record { kind = d.kind; attrs = d.attrs; marks = d.marks; body = Children d.tokens }

pub returns-clause-text : goal.returns-clause-text
returns-clause-text c =
    let s = c.args.schema.now.spec in
    let d = c.args.document.now in
    text-is (view c.in_ok-json.json) (doc_written s d) c.to_string.result c.in_ok-json.ensures.written (node-whole s (top d)) c.to_string.ensures.text

pub returns-clause-read : goal.returns-clause-read
returns-clause-read c =
    let s = c.args.schema.now.spec in
    let d = c.args.document.now in
    text-reads (view c.in_ok-json.json) (doc_written s d) c.to_string.result c.in_ok-json.ensures.written c.to_string.ensures.reads_back

pub returns-clause-ordered : goal.returns-clause-ordered
returns-clause-ordered c = node-ordered c.args.schema.now.spec (top c.args.document.now)

pub returns-clause-whole : goal.returns-clause-whole
returns-clause-whole c = node-whole c.args.schema.now.spec (top c.args.document.now)

pub returns-in_err-json-clause-ordered : goal.returns-in_err-json-clause-ordered
returns-in_err-json-clause-ordered c = node-ordered c.args.schema.now.spec (top c.args.document.now)

pub returns-in_err-json-clause-whole : goal.returns-in_err-json-clause-whole
returns-in_err-json-clause-whole c = node-whole c.args.schema.now.spec (top c.args.document.now)

pub returns-clause-shallow : goal.returns-clause-shallow
returns-clause-shallow c = valid-low c.args.schema.now.spec c.args.document.now

pub returns-in_err-json-clause-shallow : goal.returns-in_err-json-clause-shallow
returns-in_err-json-clause-shallow c = valid-low c.args.schema.now.spec c.args.document.now

pub returns-clause-back : goal.returns-clause-back
returns-clause-back c =
    let s = c.args.schema.now.spec in
    let d = c.args.document.now in
    reads-back s d c.to_string.result
    (text-reads (view c.in_ok-json.json) (doc_written s d) c.to_string.result c.in_ok-json.ensures.written c.to_string.ensures.reads_back)
    c.in_ok-json.ensures.again

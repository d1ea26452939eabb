use Rattle.std.proofs.Common.{sym, ap, ◌∙◌}
use Rattle.pm_docjson.specs.Writing.{nodes_written}
use Rattle.pm_docjson.proofs.NodeLaws.{content-writable, nodes-written}
use Rattle.pm_docjson.proofs.NodesAgain.{nodes-again, nodes-read}
use Rattle.pm_docjson.proofs.writing_nodes.write_nodes.Goals as goal

pub returns-clause-written : goal.returns-clause-written
returns-clause-written c =
    c.in_ok-items.ensures.written ∙ (sym (nodes-written c.args.schema.now.spec c.children.result c.children.ensures.normal c.children.ensures.each) ∙ ap (nodes_written c.args.schema.now.spec) c.children.ensures.tokens)

pub returns-clause-again : goal.returns-clause-again
returns-clause-again c =
    let s = c.args.schema.now.spec in
    let ts = c.args.content.now in
    let xs = c.children.result in
    λ can l.
    let inner = nodes-read s xs c.in_ok-items.ensures.again (content-writable s ts xs c.children.ensures.tokens c.children.ensures.normal can) in
    nodes-again s l ts xs c.children.ensures.tokens c.children.ensures.normal c.children.ensures.each inner

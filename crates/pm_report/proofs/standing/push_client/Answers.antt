use Rattle.std.proofs.Common.{string_bytes}
use Rattle.pm_report.specs.Report.{doc_text, standing_words}
use Rattle.pm_report.proofs.Lines.{line-after}
use Rattle.pm_report.proofs.standing.push_client.Goals as goal

pub returns : goal.returns
returns c =
    let client = c.args.client.now in
    line-after c.push_client_document.result (string_bytes c.args.text.now) (standing_words c.args.name.now client) (doc_text c.args.schema.now.spec client.doc) (string_bytes c.push_standing.new.text) (string_bytes c.push_client_document.new.text)
    c.in_ok-push_standing.ensures c.push_client_document.ensures

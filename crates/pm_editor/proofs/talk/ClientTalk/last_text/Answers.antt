use Rattle.std.proofs.Common.{◌∙◌, ap, sym}
use Rattle.pm_editor.specs.Talk.{last_text}
use Rattle.pm_editor.proofs.Openings.{missing-schema, missing-document, missing-client}
use Rattle.pm_editor.proofs.talk.ClientTalk.last_text.Goals as goal

pub returns-in-AwaitsSchema : goal.returns-in-AwaitsSchema
returns-in-AwaitsSchema c = c.as_bytes.ensures.value ∙ (missing-schema ∙ sym (ap last_text c.in-AwaitsSchema.is))

pub returns-in-AwaitsDocument : goal.returns-in-AwaitsDocument
returns-in-AwaitsDocument c =
    c.as_bytes-in-AwaitsDocument.ensures.value ∙ (missing-document c.in-AwaitsDocument.field-0 ∙ sym (ap last_text c.in-AwaitsDocument.is))

pub returns-in-AwaitsClient : goal.returns-in-AwaitsClient
returns-in-AwaitsClient c =
    c.as_bytes-in-AwaitsClient.ensures.value
    ∙ (missing-client c.in-AwaitsClient.field-0 c.in-AwaitsClient.field-1 ∙ sym (ap last_text c.in-AwaitsClient.is))

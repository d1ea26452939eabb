use Rattle.std.proofs.Common.{◌∙◌, ap, sym}
use Rattle.pm_talk.specs.Talk.{last_text}
use Rattle.pm_talk.proofs.Heard.{missing-schema, missing-document}
use Rattle.pm_talk.proofs.talk.Talk.last_text.Goals as goal

pub returns-in-AwaitsSchema : goal.returns-in-AwaitsSchema
returns-in-AwaitsSchema c = c.as_bytes.ensures.value ∙ (missing-schema ∙ sym (ap last_text c.in-AwaitsSchema.is))

pub returns-in-AwaitsDocument : goal.returns-in-AwaitsDocument
returns-in-AwaitsDocument c =
    c.as_bytes-in-AwaitsDocument.ensures.value ∙ (missing-document c.in-AwaitsDocument.field-0 ∙ sym (ap last_text c.in-AwaitsDocument.is))

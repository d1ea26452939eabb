use Rattle.pm_docjson.proofs.Writables.{content-writable}
use Rattle.pm_docjson.proofs.writable.valid_content_is_writable.Goals as goal

pub returns : goal.returns
returns c = content-writable c.args.schema.now.spec c.args.document.now c.requires

use Rattle.pm_docjson.proofs.Writables.{top-writable}
use Rattle.pm_docjson.proofs.writable.valid_is_writable.Goals as goal

pub returns : goal.returns
returns c = top-writable c.args.schema.now.spec c.args.top.now c.requires.body c.requires.valid

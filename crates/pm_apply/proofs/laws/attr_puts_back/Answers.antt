use Rattle.std.proofs.Common.{refl}
use Rattle.pm_schema.specs.Documents.{documents_of}
use Rattle.pm_meaning.proofs.AttributeLaws.{attr-restored}
use Rattle.pm_apply.proofs.laws.attr_puts_back.Goals as goal

pub returns : goal.returns
returns c = λ d next pos name value v h. (refl, attr-restored (documents_of c.args.schema.now.spec) pos name value d next v h)

use Rattle.std.proofs.Common.{refl}
use Rattle.pm_schema.specs.Documents.{documents_of}
use Rattle.pm_meaning.proofs.AttributeLaws.{doc-restored}
use Rattle.pm_apply.proofs.laws.doc_attr_puts_back.Goals as goal

pub returns : goal.returns
returns c = λ d next name value v h. (refl, doc-restored (documents_of c.args.schema.now.spec) name value d next v h)

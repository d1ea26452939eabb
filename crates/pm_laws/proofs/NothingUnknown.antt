-- No step of a session is one that its schema does not know.
use Rattle.pm_schema.specs.declared.schema.Schema.{Schema}
use Rattle.pm_schema.specs.Documents.{documents_of}
use Rattle.pm_meaning.proofs.OutcomeLaws.{made-ok, known-made}
use Rattle.pm_laws.specs.NoneUnknown.{NoneUnknown}
use Rattle.pm_laws.proofs.KnownInverses.{made-never, carried, undone}
use Rattle.pm_laws.proofs.KnownOps.{ops-not}

pub none-unknown : (schema : Schema) → NoneUnknown schema
none-unknown schema = record {
  plain = λ c d k. known-made (documents_of schema.spec) c d k;
  never = λ c d e. made-never (documents_of schema.spec) c d e;
  ops = λ o d steps k h. ops-not schema d o steps k h;
  applied = λ c d next h. (made-ok (documents_of schema.spec) c d next h).0;
  undone = λ c d next v h. undone (documents_of schema.spec) c d next v h;
  carried = λ c e ms k h. carried (documents_of schema.spec) c e ms k h;
}

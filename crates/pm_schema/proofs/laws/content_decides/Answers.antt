use Rattle.pm_auto.proofs.AcceptLaws.{fits-is}
use Rattle.pm_schema.specs.Types.{node_at}
use Rattle.pm_schema.specs.Documents.{documents_of}
use Rattle.pm_schema.proofs.laws.content_decides.Goals as goal

pub returns : goal.returns
unfolding documents_of
returns c = λ k kids. fits-is (node_at c.args.spec.now k).content kids

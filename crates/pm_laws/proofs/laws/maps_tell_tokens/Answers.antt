use Rattle.pm_schema.specs.Documents.{documents_of}
use Rattle.pm_laws.proofs.Spliced.{maps-tell-tokens}
use Rattle.pm_laws.proofs.laws.maps_tell_tokens.Goals as goal

pub returns : goal.returns
returns c = maps-tell-tokens (documents_of c.args.schema.now.spec)

-- What the opening of a talk is answered.
use Rattle.std.proofs.Common.{◌≡◌, ◌∙◌, List, [], refl, ap}
use Rattle.std.specs.Prelude.{codes}
use Rattle.std.specs.Fmt.{digits}
use Rattle.pm_tokens.specs.Tokens.{Doc as Document}
use Rattle.pm_schema.specs.declared.schema.Schema.{Schema}
use Rattle.pm_meaning.specs.Steps.{Step}
use Rattle.pm_authority.specs.declared.named.Named.{Named}
use Rattle.pm_talk.specs.declared.talk.Talk.TheVariants.{AwaitsSchema, AwaitsDocument}
use Rattle.pm_talk.specs.Talk.{last_text}
use Rattle.pm_talk.specs.Live.{LiveAuthority}

pub missing-schema : codes "{\"fault\":2,\"line\":1}\n" ≡ last_text AwaitsSchema
unfolding digits
missing-schema = refl

pub missing-document : (s : Schema) → codes "{\"fault\":2,\"line\":2}\n" ≡ last_text (AwaitsDocument s)
unfolding digits
missing-document s = refl

abbrev authority_of : Document → Document → List (Named Step) → LiveAuthority
authority_of first doc log = record { first = first; doc = doc; log = log }

-- a new authority by its parts
pub new-authority : (a : LiveAuthority) (doc : Document) → a.first ≡ doc → a.doc ≡ doc → a.log ≡ [] → a ≡ authority_of doc doc []
new-authority a doc f d l =
    ap (λ (x : Document). authority_of x a.doc a.log) f
    ∙ (ap (λ (x : Document). authority_of doc x a.log) d ∙ ap (λ (x : List (Named Step)). authority_of doc doc x) l)

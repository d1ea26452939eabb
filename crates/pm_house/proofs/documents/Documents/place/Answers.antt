use Rattle.std.proofs.Common.{◌∙◌, ◌<◌, ℕ, ap, length, subst}
use Rattle.std.specs.Prelude.{IfSome}
use Rattle.std.specs.List.{list_any}
use Rattle.std.specs.Str.{bytes_eq}
use Rattle.std.proofs.lemmas.List.{length-map}
use Rattle.pm_schema.specs.Names.{place_of}
use Rattle.pm_house.specs.Found.{names_of}
use Rattle.pm_house.proofs.documents.Documents.place.Goals as goal

pub returns-clause-place : goal.returns-clause-place
returns-clause-place c = c.place.ensures.place ∙ ap (λ ns. place_of c.args.name.now ns) (c.self.invariant ∙ ap names_of c.self.view_is)

pub returns-clause-has : goal.returns-clause-has
returns-clause-has c = c.place.ensures.has ∙ ap (λ ns. list_any (bytes_eq c.args.name.now) ns) (c.self.invariant ∙ ap names_of c.self.view_is)

pub returns-clause-within : goal.returns-clause-within
returns-clause-within c =
    subst (λ (n : ℕ). IfSome c.place.result (λ k. k < n))
    (ap length (c.self.invariant ∙ ap names_of c.self.view_is) ∙ length-map c.args.self.now (λ a. a.name)) c.place.ensures.within

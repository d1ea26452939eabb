-- What holds of steps that change an attribute.
use Rattle.std.specs.Prelude.{◌≡◌, ℕ, List, [], ◌∷◌, Ok}
use Rattle.pm_value.specs.Plain.{Plain}
use Rattle.pm_tokens.specs.Tokens.{Doc}
use Rattle.pm_tokens.specs.Schemas.{Schema}
use Rattle.pm_tokens.specs.Faults.{Valid}
use Rattle.pm_meaning.specs.Steps.{Attr, DocAttr}
use Rattle.pm_meaning.specs.Outcomes.{outcome}
use Rattle.pm_meaning.specs.Inverses.{inverse, attr_back, doc_attr_back}

-- where an attr step applies, the one step that undoes it applies right after it, and gives the document back: the attribute gets
-- its old value
abbrev pub AttrPutsBack : Schema → Type 0
AttrPutsBack s =
    (d next : Doc) (pos : ℕ) (name : List ℕ) (value : Plain)
    → Valid s d → outcome s (Attr pos name value) d ≡ Ok next
    → (inverse s (Attr pos name value) d ≡ attr_back s pos name d ∷ []) × (outcome s (attr_back s pos name d) next ≡ Ok d)

-- and likewise a docAttr step
abbrev pub DocAttrPutsBack : Schema → Type 0
DocAttrPutsBack s =
    (d next : Doc) (name : List ℕ) (value : Plain)
    → Valid s d → outcome s (DocAttr name value) d ≡ Ok next
    → (inverse s (DocAttr name value) d ≡ doc_attr_back s name d ∷ []) × (outcome s (doc_attr_back s name d) next ≡ Ok d)

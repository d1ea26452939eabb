-- The type of texts has no attributes.
use Rattle.std.proofs.Common.{◌≡◌, ◌&&◌, ◌==◌, ℕ, Bool, true, false, List, [], ◌∷◌, Option, Some, length, refl, sym, ap, ◌∙◌, arith}
use Rattle.std.proofs.lemmas.Bool.{eqb-true}
use Rattle.std.specs.Prelude.{codes, unwrap_or}
use Rattle.pm_schema.specs.declared.spec.AttrSpec.{AttrSpec}
use Rattle.pm_schema.specs.declared.spec.SchemaSpec.{SchemaSpec}
use Rattle.pm_schema.specs.Names.{place_of}
use Rattle.pm_schema.specs.Types.{names_of_nodes, node_at, is_leaf}
use Rattle.pm_schema.specs.Refusals.{has_top, has_text, text_of, is_plain_text, has_types}

both : (a b : Bool) → (a && b) ≡ true → (a ≡ true) × (b ≡ true)
both true b h = (refl, h)
both false b h = absurd (cc)

none : (attrs : List AttrSpec) → (length attrs == 0) ≡ true → attrs ≡ []
none [] h = refl
none (a ∷ attrs) h = absurd (omega (arith, eqb-true (length (a ∷ attrs)) 0 h))

-- a schema that has its types has a plain type of texts
pub plain-text : (s : SchemaSpec) → has_types s ≡ true → is_plain_text s ≡ true
plain-text s h = (both (has_text s) (is_plain_text s) (both (has_top s) (has_text s && is_plain_text s) h).1).1

-- which has no attributes
pub plain-attrs : (s : SchemaSpec) (k : ℕ) → is_plain_text s ≡ true → place_of (codes "text") (names_of_nodes s) ≡ Some k → (node_at s k).attrs ≡ []
plain-attrs s k h named =
    sym (ap (λ (o : Option ℕ). (node_at s (unwrap_or o 0)).attrs) named) ∙ none (text_of s).attrs (both (length (text_of s).attrs == 0) (is_leaf (text_of s)) h).0

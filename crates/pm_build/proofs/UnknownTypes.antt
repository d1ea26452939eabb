-- A type that the schema does not have is compatible with itself alone: nothing may stand first in it.
use Rattle.std.specs.Prelude.{◌≡◌, ℕ, ◌≤◌, true, false, ◌||◌, [], length}
use Rattle.std.proofs.Common.{ap, sym, ◌∙◌}
use Rattle.std.proofs.lemmas.Bool.{eq-eqb, ne_eqb}
use Rattle.std.proofs.lemmas.List.{get_or_past}
use Rattle.pm_tokens.specs.Schemas.{Schema, share, compatible}
use Rattle.pm_tokens.proofs.SchemaLaws.{share-both}
use Rattle.pm_schema.specs.declared.spec.NodeSpec.{NodeSpec}
use Rattle.pm_schema.specs.declared.spec.SchemaSpec.{SchemaSpec}
use Rattle.pm_schema.specs.Types.{no_node}
use Rattle.pm_schema.specs.Contents.{starts}
use Rattle.pm_schema.specs.Documents.{documents_of}

starts-none : (s : SchemaSpec) (k : ℕ) → length s.nodes ≤ k → (documents_of s).starts k ≡ []
unfolding documents_of starts
starts-none s k h = ap (λ (n : NodeSpec). starts n.content) (get_or_past s.nodes k no_node h)

-- one type
pub same-type : (s : Schema) (a b : ℕ) → a ≡ b → true ≡ compatible s a b
same-type s a b e = sym (ap (λ z. z || share (s.starts a) (s.starts b)) (eq-eqb a b e))

module _ (s : SchemaSpec) (a b : ℕ) (differ : a ≡ b → ⊥) where
  tests : compatible (documents_of s) a b ≡ share ((documents_of s).starts a) ((documents_of s).starts b)
  tests = ap (λ z. z || share ((documents_of s).starts a) ((documents_of s).starts b)) (ne_eqb a b differ)

  -- the first is unknown
  pub first-unknown : length s.nodes ≤ a → false ≡ compatible (documents_of s) a b
  first-unknown h = sym (tests ∙ ap (λ z. share z ((documents_of s).starts b)) (starts-none s a h))

  -- the second is unknown
  pub second-unknown : length s.nodes ≤ b → false ≡ compatible (documents_of s) a b
  second-unknown h = sym (tests ∙ (ap (λ z. share ((documents_of s).starts a) z) (starts-none s b h) ∙ share-both ((documents_of s).starts a) []))

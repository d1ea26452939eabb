-- Steps keep every law of changes, under each schema, on each document.
use Rattle.pm_change.specs.Changes.{Laws}
use Rattle.pm_tokens.specs.Schemas.{Schema}
use Rattle.pm_meaning.specs.Meanings.{meaning_by, meaning}
use Rattle.pm_meaning.proofs.StepLaws.{good, small, restores, fits, within, inverse_within, inverse_map}
use Rattle.pm_meaning.proofs.UndoLaws.{undoes}
use Rattle.pm_meaning.proofs.MapLaws.{still, carried}
use Rattle.std.proofs.Common.{inl, inr}

pub laws_by : {Rules : Type 0} → (schema_of : Rules → Schema) → Laws (meaning_by schema_of)
laws_by schema_of = record {
  good = λ rules. good (schema_of rules);
  small = λ rules. small (schema_of rules);
  restores = λ rules. restores (schema_of rules);
  undoes = λ rules. undoes (schema_of rules);
  fits = λ rules. fits (schema_of rules);
  within = λ rules. within (schema_of rules);
  inverse_within = λ rules. inverse_within (schema_of rules);
  inverse_map = λ rules. inverse_map (schema_of rules);
  still = λ c n ms w h. elim (still c n ms w h) [ inl e ↦ inl e | inr p ↦ inr (p.0, p.1, λ rules. p.2 (schema_of rules)) ];
  carried = carried;
}

pub laws : Laws meaning
laws = laws_by (λ s. s)

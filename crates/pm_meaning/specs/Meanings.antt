-- What steps mean as changes.
use Rattle.std.specs.Prelude.{length}
use Rattle.pm_change.specs.Changes.{Meaning}
use Rattle.pm_tokens.specs.Tokens.{Doc}
use Rattle.pm_tokens.specs.Schemas.{Schema}
use Rattle.pm_tokens.specs.Faults.{Valid}
use Rattle.pm_tokens.specs.Loose.{IsLoose}
use Rattle.pm_meaning.specs.declared.reason.Reason.{Reason}
use Rattle.pm_meaning.specs.Steps.{Step}
use Rattle.pm_meaning.specs.Outcomes.{outcome}
use Rattle.pm_meaning.specs.Inverses.{inverse}
use Rattle.pm_meaning.specs.Maps.{step_map, carry, is_within}

-- Under rules that give a schema: the valid documents are good, and the rules are loose where the schema does not count how a
-- text is divided by marks.
abbrev pub meaning_by : {Rules : Type 0} → (Rules → Schema) → Meaning Rules Doc Reason Step
meaning_by schema_of = record {
  is_good = λ rules. Valid (schema_of rules);
  is_loose = λ rules. IsLoose (schema_of rules);
  outcome = λ rules. outcome (schema_of rules);
  inverse = λ rules. inverse (schema_of rules);
  step_map = step_map;
  carry = carry;
  size = λ d. length d.tokens;
  is_within = is_within;
}

-- where the rules are the schema
abbrev pub meaning : Meaning Schema Doc Reason Step
meaning = meaning_by (λ s. s)

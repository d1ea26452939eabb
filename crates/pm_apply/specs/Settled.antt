-- Where a value of an attribute goes.
use Rattle.std.specs.Prelude.{ℕ, nat_le, List, Result, Ok}
use Rattle.pm_value.specs.Plain.{Plain, depth}
use Rattle.pm_tokens.specs.Schemas.{Schema}
use Rattle.pm_meaning.specs.Attributes.{place_among, allows_among}
use Rattle.pm_meaning.specs.Outcomes.{unless, at_place}
use Rattle.pm_meaning.specs.declared.reason.Reason.{Reason}
use Rattle.pm_meaning.specs.declared.reason.Reason.TheVariants.{BadValue, Content}

-- The place of the named attribute of the type, which may have the value; or the first reason why it may not, where `at` is the
-- place of the node in the document.
abbrev pub settled : Schema → ℕ → List ℕ → Plain → ℕ → Result ℕ Reason
settled s kind name value at =
    at_place (place_among (s.node_declares kind) name) (λ i.
    unless (allows_among (s.node_declares kind) i value) BadValue
    (unless (nat_le (depth value) 4) (Content at) (Ok i)))

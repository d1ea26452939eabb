-- The version of a schema, and the kinds of values that an attribute names.
use Rattle.std.specs.Prelude.{ℕ, ◌==◌, List, Bool, true, ◌||◌, codes, Option, Some, None, Result, Ok, Err, option_and_then, if◌then◌else◌}
use Rattle.std.specs.List.{list_all, list_any, slice_split}
use Rattle.std.specs.Str.{bytes_eq}
use Rattle.serde_json.specs.Data.{Data}
use Rattle.serde_json.specs.Find.{as_str, as_number, as_u64}
use Rattle.pm_list.specs.Readings.{◌>>=◌}
use Rattle.pm_value.specs.Plain.{Plain}
use Rattle.pm_value.specs.Kinds.{is_allowed}
use Rattle.pm_value.specs.declared.kinds.Kinds.{Kinds}
use Rattle.pm_schemajson.specs.declared.error.Field.TheVariants as the
use Rattle.pm_schemajson.specs.declared.error.SchemaReadError.{SchemaReadError}
use Rattle.pm_schemajson.specs.declared.error.SchemaReadError.TheVariants.{Shape, BadDefault}
use Rattle.pm_schemajson.specs.Types.{Attribute}
use Rattle.pm_schemajson.specs.Fields.{of_kind}

-- ---- the version

abbrev pub version_in : Option ℕ → Result ℕ SchemaReadError
version_in None = Err (Shape the.Version)
version_in (Some n) = if n == 1 then Ok 1 else (if n == 2 then Ok 2 else Err (Shape the.Version))

-- the whole number 1 or 2; it is 1 where the field is absent
abbrev pub version_of : Option Data → Result ℕ SchemaReadError
version_of None = Ok 1
version_of (Some d) = version_in (option_and_then as_u64 (as_number d))

-- ---- kinds

abbrev pub is_bar : ℕ → Bool
is_bar b = b == 124

-- the pieces of the text between bars
abbrev pub pieces : List ℕ → List (List ℕ)
pieces text = slice_split is_bar text

-- the name of a kind
abbrev pub is_kind : List ℕ → Bool
is_kind w = bytes_eq w (codes "string") || (bytes_eq w (codes "number") || (bytes_eq w (codes "boolean") || bytes_eq w (codes "null")))

-- the name is one of them
abbrev pub is_among : List (List ℕ) → List ℕ → Bool
is_among names w = list_any (λ n. bytes_eq n w) names

abbrev pub kinds_named : List (List ℕ) → Kinds
kinds_named names = record {
  string = is_among names (codes "string");
  number = is_among names (codes "number");
  boolean = is_among names (codes "boolean");
  null = is_among names (codes "null");
}

-- the kinds that a text names with bars between; None where a piece is the name of none
abbrev pub kinds_in : List ℕ → Option Kinds
kinds_in text = if list_all is_kind (pieces text) then Some (kinds_named (pieces text)) else None

-- the kinds that an attribute names, if it does
abbrev pub kinds_if : Option Data → Result (Option Kinds) SchemaReadError
kinds_if None = Ok None
kinds_if (Some d) = of_kind the.Validate (option_and_then kinds_in (as_str d)) >>= λ kinds. Ok (Some kinds)

-- version 1 knows no kinds, and does not look at the field
abbrev pub validate_of : (version : ℕ) → Option Data → Result (Option Kinds) SchemaReadError
validate_of version d = if version == 1 then Ok None else kinds_if d

-- a default, if there is one, is of a kind that is named
abbrev pub is_kept : Option Kinds → Option Plain → Bool
is_kept kinds None = true
is_kept kinds (Some v) = is_allowed kinds v

-- the attribute at this place among those of its type, if its default is
abbrev pub with_kept : (at : ℕ) → Attribute → Result Attribute SchemaReadError
with_kept at a = if is_kept a.validate a.default then Ok a else Err (BadDefault at)

-- The attributes of a type, and the values that a node or a mark of it has.
use Rattle.std.specs.Prelude.{◌≡◌, ◌<◌, ℕ, Bool, true, false, not, List, [], ◌∷◌, map, length, Option, Some, None, is_none, option_map, if◌then◌else◌, slice_index_or, String, string_bytes}
use Rattle.std.specs.List.{list_any}
use Rattle.std.specs.Str.{bytes_eq}
use Rattle.std.specs.declared.alloc.Global.{Global}
use Rattle.pm_value.specs.Plain.{Plain, null}
use Rattle.pm_value.specs.Kinds.{is_allowed}
use Rattle.pm_value.specs.declared.kinds.Kinds.{Kinds}
use Rattle.pm_value.specs.Views.{plain}
use Rattle.pm_value.specs.declared.value.Value.{Value}
use Rattle.pm_schema.specs.declared.spec.AttrSpec.{AttrSpec}
use Rattle.pm_schema.specs.declared.spec.SchemaSpec.{SchemaSpec}
use Rattle.pm_schema.specs.declared.error.AttrError.{AttrError}
use Rattle.pm_schema.specs.declared.error.AttrError.TheVariants.{Missing, Unknown, Kind, NoMemory}
use Rattle.pm_schema.specs.declared.kinds.AnyType.{AnyType}
use Rattle.pm_schema.specs.declared.kinds.AnyType.TheVariants.{Node, Mark}
use Rattle.pm_schema.specs.Types.{node_at, mark_at}

-- it is a type of the schema
abbrev pub IsType : SchemaSpec → AnyType → Type 0
IsType s (Node k) = k < length s.nodes
IsType s (Mark m) = m < length s.marks

abbrev pub no_attr : AttrSpec
no_attr = record { name = []; default = None; validate = None }

-- the attributes that the type declares
abbrev pub attrs_of : SchemaSpec → AnyType → List AttrSpec
attrs_of s (Node k) = (node_at s k).attrs
attrs_of s (Mark m) = (mark_at s m).attrs

-- given names and values, as bytes and plain values
abbrev pub pairs_of : List (String Global × Value) → List (List ℕ × Plain)
pairs_of given = map (λ g. (string_bytes g.0, plain g.1)) given

-- the value that is given for the name
abbrev pub given_for : List ℕ → List (List ℕ × Plain) → Option Plain
given_for name [] = None
given_for name (g ∷ given) = if bytes_eq name g.0 then Some g.1 else given_for name given

-- the first, or the second where that is none
abbrev pub or_default : Option Plain → Option Plain → Option Plain
or_default (Some v) d = Some v
or_default None d = d

-- the value of an attribute: the one given for its name, else its default
abbrev pub value_for : List (List ℕ × Plain) → AttrSpec → Option Plain
value_for given a = or_default (given_for a.name given) (option_map plain a.default)

-- nothing is given for the attribute, and it has no default
abbrev pub is_missing : List (List ℕ × Plain) → AttrSpec → Bool
is_missing given a = is_none (value_for given a)

-- no attribute has the given name
abbrev pub is_unknown : List AttrSpec → List ℕ × Plain → Bool
is_unknown attrs g = not (list_any (λ a. bytes_eq g.0 a.name) attrs)

-- a value is given that is of no kind that is named
abbrev pub is_refused : Option Kinds → Option Plain → Bool
is_refused ks None = false
is_refused ks (Some v) = not (is_allowed ks v)

-- that is so of the value that is given for the attribute
abbrev pub is_other_kind : List (List ℕ × Plain) → AttrSpec → Bool
is_other_kind given a = is_refused a.validate (given_for a.name given)

-- the first place of the list that passes the test
pub record IsFirstAt {X : Type 0} (p : X → Bool) (xs : List X) (d : X) (i : ℕ) : Type 0 where
  pub inside : i < length xs
  pub here : p (slice_index_or xs i d) ≡ true
  pub before : (j : ℕ) → j < i → p (slice_index_or xs j d) ≡ false

-- none passes it
abbrev pub NonePasses : {X : Type 0} → (X → Bool) → List X → X → Type 0
NonePasses p xs d = (j : ℕ) → j < length xs → p (slice_index_or xs j d) ≡ false

abbrev pub no_pair : List ℕ × Plain
no_pair = ([], null)

-- the values of the type's attributes, each the one given or the default
abbrev pub AreValues : List AttrSpec → List (List ℕ × Plain) → List Plain → Type 0
AreValues attrs given values = map Some values ≡ map (value_for given) attrs

-- each of the values is of a kind that its attribute names
abbrev pub AreOfKinds : List AttrSpec → List Plain → Type 0
AreOfKinds attrs values = (i : ℕ) → i < length values → is_allowed (slice_index_or attrs i no_attr).validate (slice_index_or values i null) ≡ true

-- Why there are no values: the first attribute that is missing; else the first name that is unknown; else the first attribute
-- for which a value of no named kind is given; running out of memory at any time.
abbrev pub IsAttrFault : List AttrSpec → List (List ℕ × Plain) → AttrError → Type 0
IsAttrFault attrs given (Missing j) = IsFirstAt (is_missing given) attrs no_attr j
IsAttrFault attrs given (Unknown i) = NonePasses (is_missing given) attrs no_attr × IsFirstAt (is_unknown attrs) given no_pair i
IsAttrFault attrs given (Kind j) =
    NonePasses (is_missing given) attrs no_attr × NonePasses (is_unknown attrs) given no_pair × IsFirstAt (is_other_kind given) attrs no_attr j
IsAttrFault attrs given NoMemory = Unit {0}

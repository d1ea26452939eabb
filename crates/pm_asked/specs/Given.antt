-- What an authority answered, as a line brings it. The fields of each kind are read in the order in which they stand here.
use Rattle.std.specs.Prelude.{ℕ, nat_eq, nat_le, ◌==◌, Bool, ◌&&◌, ◌||◌, List, [], ◌∷◌, length, codes, Option, Some, None, is_some, Result, Ok, Err, if◌then◌else◌}
use Rattle.std.specs.Cmp.Lexicographic.{pointwise}
use Rattle.serde_json.specs.Data.{Data, Items, no_items, item}
use Rattle.serde_json.specs.Find.{get, as_array}
use Rattle.pm_list.specs.Readings.{◌>>=◌, or_fault}
use Rattle.pm_schema.specs.declared.spec.SchemaSpec.{SchemaSpec}
use Rattle.pm_meaning.specs.Steps.{Step}
use Rattle.pm_head.specs.declared.code.Code.{Code}
use Rattle.pm_head.specs.declared.code.Code.TheVariants.{WrongShape}
use Rattle.pm_opjson.specs.Fields.{number_in}
use Rattle.pm_opjson.specs.Parts.{steps_in}
use Rattle.pm_talk.specs.Fields.{id_from}
use Rattle.pm_asked.specs.declared.given.Given.{Given}
use Rattle.pm_asked.specs.declared.given.Given.TheVariants.{Accepted, Entries, Kept}

-- how many steps were accepted, and from where on they stand
unfoldable pub accepted_of : Data → Result Given Code
accepted_of d = do
  count ← number_in (codes "count") d
  from ← number_in (codes "from") d
  Ok (Accepted count from)

-- There are as many IDs as steps, and the version is no less than their number.
abbrev pub matching : List Bool → List Step → ℕ → Result Given Code
matching own steps version =
    if (length own == length steps) && nat_le (length steps) version then Ok (Entries own steps version) else Err WrongShape

module _ (id : List ℕ) where
  -- whether the value is this ID
  abbrev pub is_id_of : Data → Result Bool Code
  is_id_of d = id_from d >>= (λ name. Ok (pointwise nat_eq name id))

  -- of each value whether it is this ID
  unfoldable pub owner_list : Items → Result (List Bool) Code
  owner_list no_items = Ok []
  owner_list (item d ds) = do
    first ← is_id_of d
    rest ← owner_list ds
    Ok (first ∷ rest)

  unfoldable pub owners_in : Data → Result (List Bool) Code
  owners_in d = do
    value ← or_fault WrongShape (get (codes "clientIDs") d)
    items ← or_fault WrongShape (as_array value)
    owner_list items

  module _ (s : SchemaSpec) where
    -- entries of the log: who made each, the steps, and the version at which they end
    unfoldable pub entries_of : Data → Result Given Code
    entries_of d = do
      own ← owners_in d
      steps ← steps_in s d
      version ← number_in (codes "version") d
      matching own steps version

    -- without `accepted` and `steps` a submission came to nothing
    abbrev pub others_of : Data → Result Given Code
    others_of d =
        if is_some (get (codes "steps") d) then entries_of d
        else (if is_some (get (codes "refused") d) || is_some (get (codes "version") d) then Ok Kept
        else Err WrongShape)

    abbrev pub by_accepted : Option Data → Data → Result Given Code
    by_accepted (Some accepted) d = accepted_of accepted
    by_accepted None d = others_of d

    -- an answer, by the first of these keys that it has: `accepted`, `steps`, and `refused` or `version`
    abbrev pub given_of : Data → Result Given Code
    given_of d = by_accepted (get (codes "accepted") d) d

    abbrev pub given_in : Data → Result Given Code
    given_in d = or_fault WrongShape (get (codes "answer") d) >>= given_of

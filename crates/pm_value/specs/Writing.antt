-- The JSON value of a value.
use Rattle.std.specs.Prelude.{ℕ, List, [], ◌∷◌, map}
use Rattle.serde_json.specs.Data.{Data, null as json_null, boolean, number, string, array, object, Items, no_items, item, Members, no_members, put}
use Rattle.serde_json.specs.Find.{of_integer}
use Rattle.pm_value.specs.Plain.{Plain, null, truth, int, text, items, fields, Plains, none, one, plains_of}

unfoldable mutual
  pub written : Plain → Data
  written null = json_null
  written (truth b) = boolean b
  written (int z) = number (of_integer z)
  written (text bs) = string bs
  written (items vs) = array (items_written vs)
  written (fields ns vs) = object (members_written ns vs)

  pub items_written : Plains → Items
  items_written none = no_items
  items_written (one v vs) = item (written v) (items_written vs)

  -- the members with these names, in byte order of the names
  pub members_written : List (List ℕ) → Plains → Members
  members_written ns none = no_members
  members_written [] (one v vs) = no_members
  members_written (n ∷ ns) (one v vs) = put n (written v) (members_written ns vs)

abbrev pub pairs_written : List (List ℕ × Plain) → Members
pairs_written fs = members_written (map (λ f. f.0) fs) (plains_of (map (λ f. f.1) fs))

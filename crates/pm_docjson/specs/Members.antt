-- For private clauses: members that are put in one by one, and what is found among them.
use Rattle.std.specs.Prelude.{ℕ, List, [], ◌∷◌, Option, Some, None, codes}
use Rattle.serde_json.specs.Data.{Data, array, Items, no_items, item, Members, put}
use Rattle.pm_value.specs.Plain.{Plain, fields, plains_of}
use Rattle.pm_value.specs.Writing.{written, members_written}

-- the object of these values, under these names
abbrev pub attr_members : List (List ℕ) → List Plain → Members
attr_members ns vs = members_written ns (plains_of vs)

-- what is found at `attrs`
abbrev pub attrs_field : List (List ℕ) → List Plain → Option Data
attrs_field [] vs = None
attrs_field (n ∷ ns) vs = Some (written (fields (n ∷ ns) (plains_of vs)))

-- the attributes, put in
abbrev pub put_attrs : List (List ℕ) → List Plain → Members → Members
put_attrs [] vs ms = ms
put_attrs (n ∷ ns) vs ms = put (codes "attrs") (written (fields (n ∷ ns) (plains_of vs))) ms

-- what is found where a list was written
abbrev pub list_field : Items → Option Data
list_field no_items = None
list_field (item d ds) = Some (array (item d ds))

-- a list that is not empty, put in
abbrev pub put_list : List ℕ → Items → Members → Members
put_list key no_items ms = ms
put_list key (item d ds) ms = put key (array (item d ds)) ms

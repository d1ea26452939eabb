-- The JSON value of a slice, with its members in byte order of their keys.
use Rattle.std.specs.Prelude.{ℕ, ◌==◌, List, codes, if◌then◌else◌}
use Rattle.serde_json.specs.Data.{unsigned, Data, null, number, array, object, Members, no_members, member, put}
use Rattle.pm_tokens.specs.Slices.{Slice, slice_size}
use Rattle.pm_schema.specs.declared.spec.SchemaSpec.{SchemaSpec}
use Rattle.pm_docjson.specs.Writing.{nodes_written}

-- a number before other members, where it is above 0
abbrev pub with_count : List ℕ → ℕ → Members → Members
with_count key n ms = if n == 0 then ms else member key (number (unsigned n)) ms

-- a slice by its fields
abbrev pub sides_written : SchemaSpec → Slice → Data
sides_written s sl =
    object (member (codes "content") (array (nodes_written s sl.content)) (with_count (codes "openEnd") sl.open_end (with_count (codes "openStart") sl.open_start no_members)))

-- null where the slice is empty
abbrev pub slice_written : SchemaSpec → Slice → Data
slice_written s sl = if slice_size sl == 0 then null else sides_written s sl

-- for private clauses: a number that is above 0, put in
abbrev pub put_count : List ℕ → ℕ → Members → Members
put_count key n ms = if n == 0 then ms else put key (number (unsigned n)) ms

-- The clients that line 3 lists.
use Rattle.std.specs.Prelude.{ℕ, suc, nat_lt, nat_le, nat_eq, Bool, true, false, not, ◌&&◌, List, [], ◌∷◌, ◌++◌, map, codes, Option, Some, None, Result, Ok, Err, is_some, option_and_then, option_map, if◌then◌else◌}
use Rattle.std.specs.List.{list_any}
use Rattle.std.specs.Cmp.Lexicographic.{pointwise}
use Rattle.serde_json.specs.Data.{Data, null, boolean, number, string, array, object, Items, no_items, item}
use Rattle.serde_json.specs.Find.{get, as_str, as_array}
use Rattle.pm_list.specs.Readings.{◌>>=◌, or_fault}
use Rattle.pm_docjson.specs.Fields.{field}
use Rattle.pm_head.specs.declared.code.Code.{Code}
use Rattle.pm_head.specs.declared.code.Code.TheVariants.{WrongShape, BadClients}
use Rattle.pm_head.specs.declared.form.Form.{Form}
use Rattle.pm_head.specs.declared.form.Form.TheVariants.{Plain, Late}
use Rattle.pm_head.specs.declared.clients.ClientEntry.{ClientEntry}
use Rattle.pm_head.specs.declared.clients.TheConstants.{MAX_CLIENTS}
use Rattle.pm_head.specs.Names.{is_name}
use Rattle.pm_head.specs.Lines.{json_line}

-- An editor's entry is its name, a raw client's an object with its name at `raw`, and a late client's one with its name at
-- `late`. A late client is an editor too.
abbrev pub editor : List ℕ → ClientEntry
editor name = record { name = name; raw = false; late = false }

abbrev pub raw_client : List ℕ → ClientEntry
raw_client name = record { name = name; raw = true; late = false }

abbrev pub late_client : List ℕ → ClientEntry
late_client name = record { name = name; raw = false; late = true }

abbrev pub raw_entry : Data → Option ClientEntry
raw_entry d = option_map raw_client (option_and_then as_str (get (codes "raw") d))

abbrev pub late_entry : Data → Option ClientEntry
late_entry d = option_map late_client (option_and_then as_str (get (codes "late") d))

-- Where clients may come late, an object with a value at `raw` is a raw client's entry, also where it has `late` too.
abbrev pub object_entry : Form → Data → Option ClientEntry
object_entry Plain d = raw_entry d
object_entry Late d = if is_some (field (codes "raw") d) then raw_entry d else late_entry d

abbrev pub entry_of : Form → Data → Option ClientEntry
entry_of form null = None
entry_of form (boolean b) = None
entry_of form (number n) = None
entry_of form (string name) = Some (editor name)
entry_of form (array ds) = None
entry_of form (object ms) = object_entry form (object ms)

-- its name is well-formed, and no earlier entry has it
abbrev pub is_new : List ClientEntry → ClientEntry → Bool
is_new earlier c = is_name c.name && not (list_any (λ other. pointwise nat_eq c.name other.name) earlier)

abbrev pub count_of : Items → ℕ
count_of no_items = 0
count_of (item d ds) = suc (count_of ds)

-- from 1 to 32 entries
abbrev pub bounded : Items → Result Items Code
bounded ds = if nat_lt 0 (count_of ds) && nat_le (count_of ds) MAX_CLIENTS then Ok ds else Err BadClients

module _ (form : Form) where
  -- an entry after these earlier ones
  abbrev pub next_client : List ClientEntry → Data → Result ClientEntry Code
  next_client earlier d = do
    entry ← or_fault WrongShape (entry_of form d)
    if is_new earlier entry then Ok entry else Err BadClients

  -- the entries after these earlier ones, from the front
  unfoldable pub entries_of : List ClientEntry → Items → Result (List ClientEntry) Code
  entries_of earlier no_items = Ok []
  entries_of earlier (item d ds) = do
    entry ← next_client earlier d
    rest ← entries_of (earlier ++ entry ∷ []) ds
    Ok (entry ∷ rest)

  -- First the value's kind counts, then the number of entries, then the entries.
  unfoldable pub clients_of : Data → Result (List ClientEntry) Code
  clients_of d = do
    items ← or_fault WrongShape (as_array d)
    entries ← bounded items
    entries_of [] entries

  -- line 3
  unfoldable pub clients_line : List ℕ → Result (List ClientEntry) Code
  clients_line line = json_line line >>= clients_of

-- whether each client is raw, in order
abbrev pub raw_flags : List ClientEntry → List Bool
raw_flags clients = map (λ c. c.raw) clients

-- A line that opens a document.
use Rattle.std.specs.Prelude.{ℕ, List, codes, Result, Ok}
use Rattle.serde_json.specs.Data.{Data}
use Rattle.pm_list.specs.Readings.{◌>>=◌}
use Rattle.pm_head.specs.declared.code.Code.{Code}
use Rattle.pm_opjson.specs.Fields.{text_in}
use Rattle.pm_order.specs.declared.opening.Opening.{Opening}
use Rattle.pm_order.specs.Names.{name_in}
use Rattle.pm_order.specs.Fields.{version_in}
use Rattle.pm_order.specs.Clients.{ids_in}

-- the name of its schema
abbrev pub kind_in : Data → Result (List ℕ) Code
kind_in d = text_in (codes "schema") d

-- the document's name, that of its schema, the version at which its log begins, and the IDs of its clients
unfoldable pub opening_in : Data → Result Opening Code
opening_in d = do
  name ← name_in (codes "in") d
  kind ← kind_in d
  version ← version_in d
  ids ← ids_in d
  Ok (record { name = name; kind = kind; version = version; ids = ids })

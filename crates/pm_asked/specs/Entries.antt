-- Line 3: who the client is, and at which version it comes.
use Rattle.std.specs.Prelude.{ℕ, List, codes, Option, Some, None, Result, Ok}
use Rattle.serde_json.specs.Data.{Data}
use Rattle.pm_list.specs.Readings.{◌>>=◌, or_fault}
use Rattle.pm_docjson.specs.Fields.{field}
use Rattle.pm_slicejson.specs.Numbers.{as_count}
use Rattle.pm_head.specs.declared.code.Code.{Code}
use Rattle.pm_head.specs.declared.code.Code.TheVariants.{WrongShape}
use Rattle.pm_head.specs.Lines.{json_line}
use Rattle.pm_talk.specs.Fields.{id_in}
use Rattle.pm_asked.specs.declared.entry.Entry.{Entry}

-- the version; 0 where nothing is said
abbrev pub version_of : Option Data → Result ℕ Code
version_of None = Ok 0
version_of (Some d) = or_fault WrongShape (as_count d)

abbrev pub version_in : Data → Result ℕ Code
version_in d = version_of (field (codes "version") d)

unfoldable pub entry_of : Data → Result Entry Code
entry_of d = do
  id ← id_in d
  version ← version_in d
  Ok (record { id = id; version = version })

-- what the line says, or the code of its first fault
unfoldable pub entry_line : List ℕ → Result Entry Code
entry_line line = json_line line >>= entry_of

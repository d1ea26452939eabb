-- A line that gives a schema a name.
use Rattle.std.specs.Prelude.{◌≡◌, ◌≤◌, ℕ, false, List, codes, Some, Result, Ok, Err}
use Rattle.serde_json.specs.Data.{Data, depth}
use Rattle.serde_json.specs.Find.{get}
use Rattle.serde_json.specs.Read.{max_depth, read}
use Rattle.serde_json.specs.Written.{has_float, compact_text}
use Rattle.pm_list.specs.Readings.{or_fault}
use Rattle.pm_head.specs.declared.code.Code.{Code}
use Rattle.pm_head.specs.declared.code.Code.TheVariants.{WrongShape}
use Rattle.pm_head.specs.Schemas.{OfValue}
use Rattle.pm_order.specs.declared.naming.Naming.{Naming}
use Rattle.pm_order.specs.Names.{name_in}

-- A text that reads as the value. It is the compact one where the value has no fraction; how a fraction is written is not said.
abbrev pub IsTextOf : Data → List ℕ → Type 0
IsTextOf d text = (has_float d ≡ false → text ≡ compact_text d) × (depth d ≤ max_depth → read text ≡ Some d)

-- this name, and a text of the schema's value, by which it is told from others
abbrev pub WithText : List ℕ → Data → Result Naming Code → Type 0
WithText name d (Ok n) = (n.name ≡ name) × IsTextOf d n.text
WithText name d (Err code) = ⊥

-- so of the value at `schema`, which must be there
abbrev pub NamedSo : List ℕ → Data → Result Naming Code → Type 0
NamedSo name d r = OfValue (WithText name) (or_fault WrongShape (get (codes "schema") d)) r

abbrev pub OfName : Data → Result (List ℕ) Code → Result Naming Code → Type 0
OfName d (Ok name) r = NamedSo name d r
OfName d (Err code) r = r ≡ Err code

-- what the line says, or the code of its first fault
abbrev pub NamingIs : Data → Result Naming Code → Type 0
NamingIs d r = OfName d (name_in (codes "name") d) r

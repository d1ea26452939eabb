-- What holds of each line, by the definitions.
use Rattle.std.specs.Prelude.{◌≡◌, ℕ, nat_le, List, length, Option, Some, None, Result, Ok, Err, if◌then◌else◌}
use Rattle.pm_head.specs.declared.code.Code.{Code}
use Rattle.pm_head.specs.declared.code.Code.TheVariants.{OpNotAllowed}
use Rattle.pm_talk.specs.Texts.{fault_text}
use Rattle.pm_editor.specs.declared.editor.Editor.{Editor}
use Rattle.pm_editor.specs.declared.editor.TheConstants.{MAX_CURSORS}
use Rattle.pm_asked.specs.declared.asked.Asked.{Asked}
use Rattle.pm_asked.specs.declared.asked.Asked.TheVariants.{Edit, Can, Turn, Cursor, Compose, Ask, Take, Doc, State}
use Rattle.pm_asked.specs.Asked.{asked_line}
use Rattle.pm_editor.specs.Editors.{answered}

-- the fault of a line, which asks this: its own, or that there is no room for its cursor
abbrev pub fault_in : Editor → Result Asked Code → Option Code
fault_in e (Ok (Edit edit)) = None
fault_in e (Ok (Can edit)) = None
fault_in e (Ok (Turn turn)) = None
fault_in e (Ok (Cursor p side)) = if nat_le MAX_CURSORS (length e.client.cursors) then Some OpNotAllowed else None
fault_in e (Ok Compose) = None
fault_in e (Ok Ask) = None
fault_in e (Ok (Take given)) = None
fault_in e (Ok Doc) = None
fault_in e (Ok State) = None
fault_in e (Err code) = Some code

-- a line with a fault is answered its code, and changes nothing
abbrev pub FaultsChangeNothing : Type 0
FaultsChangeNothing =
    (e : Editor) (line : List ℕ) (code : Code) → fault_in e (asked_line e.schema.spec e.id line) ≡ Some code → answered e line ≡ (fault_text code, e)

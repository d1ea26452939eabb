-- That an input is something: a session, or refused at its least faulty line.
use Rattle.std.specs.Prelude.{ℕ, List, Result}
use Rattle.pm_tokens.specs.Tokens.{Doc}
use Rattle.pm_schema.specs.declared.schema.Schema.{Schema}
use Rattle.pm_schema.specs.Built.{IsBuilt}
use Rattle.pm_head.specs.declared.form.Form.{Form}
use Rattle.pm_head.specs.declared.code.Code.{Code}
use Rattle.pm_head.specs.declared.fault.Refusal.{Refusal}
use Rattle.pm_head.specs.Schemas.{SchemaLine}
use Rattle.pm_head.specs.Documents.{DocLine}
use Rattle.pm_script.specs.declared.session.Session.{Session}
use Rattle.pm_script.specs.declared.rooms.RoomSession.{RoomSession}
use Rattle.pm_script.specs.Sessions.{SessionIs}
use Rattle.pm_script.specs.Rooms.{RoomsAre}

-- `schema`: each line 1 is a schema or is refused. `document`: each line 2 is the first document of a schema that was built, or is
-- refused. `sessions`, `rooms`: each input is a session or is refused, in each form of files; and so is each as a file of many
-- rooms.
pub record MeansSomething : Type 0 where
  pub schema : (line : List ℕ) → (r : Result Schema Code) × SchemaLine line r
  pub document : (s : Schema) → IsBuilt s → (line : List ℕ) → (r : Result Doc Code) × DocLine s line r
  pub sessions : (form : Form) (input : List ℕ) → (r : Result Session Refusal) × SessionIs form input r
  pub rooms : (input : List ℕ) → (r : Result (List RoomSession) Refusal) × RoomsAre input r

-- The lines of a file of many rooms that are one room's own, and the session that they make by themselves.
use Rattle.std.specs.Prelude.{◌≡◌, ℕ, ◌+◌, ◌*◌, Bool, false, List, [], ◌∷◌, ◌++◌, length, take, drop, slice_get, codes, option_map, unwrap_or, Some, Result, Ok, All, if◌then◌else◌}
use Rattle.pm_list.specs.Readings.{◌>>=◌}
use Rattle.pm_schema.specs.declared.spec.SchemaSpec.{SchemaSpec}
use Rattle.pm_head.specs.declared.form.Form.TheVariants.{Plain}
use Rattle.pm_head.specs.declared.fault.Refusal.{Refusal}
use Rattle.pm_head.specs.declared.clients.ClientEntry.{ClientEntry}
use Rattle.pm_head.specs.Heads.{HeadIs}
use Rattle.pm_head.specs.Lines.{lines_of, json_of, json_line}
use Rattle.pm_meaning.specs.Steps.{Step}
use Rattle.pm_ops.specs.declared.op.Op.{Op}
use Rattle.pm_session.specs.declared.line.Line.{Line}
use Rattle.pm_script.specs.declared.rooms.RoomSession.{RoomSession}
use Rattle.pm_script.specs.Entrants.{has_text}
use Rattle.pm_script.specs.Held.{Holds}
use Rattle.pm_script.specs.Lines.{op_in}
use Rattle.pm_script.specs.Sessions.{at_line}
use Rattle.pm_script.specs.Rooms.{last_head}

-- the line's `room` is this name
abbrev pub is_of_room : List ℕ → List ℕ → Bool
is_of_room name line = unwrap_or (option_map (has_text (codes "room") name) (json_of line)) false

-- of these lines, the first of which is line n, those whose `room` is this name, with their numbers
unfoldable pub own_lines : List ℕ → ℕ → List (List ℕ) → List (ℕ × List ℕ)
own_lines name n [] = []
own_lines name n (line ∷ rest) = if is_of_room name line then (n, line) ∷ own_lines name (n + 1) rest else own_lines name (n + 1) rest

-- the op lines that these numbered lines are in a session of this schema and these clients, after these earlier ones
unfoldable pub own_ops : SchemaSpec → List ClientEntry → List (Line Op Step) → List (ℕ × List ℕ) → Result (List (Line Op Step)) Refusal
own_ops s clients earlier [] = Ok []
own_ops s clients earlier (l ∷ rest) = do
  op ← at_line l.0 (json_line l.1 >>= (λ d. op_in Plain s clients earlier l.0 d))
  later ← own_ops s clients (earlier ++ op ∷ []) rest
  Ok (op ∷ later)

-- Room r, of so many in a file of these lines, is the session of its own lines alone: of its three, and of those after the
-- heads whose `room` is its name, with their numbers in the file.
pub record IsOfOwnLines (lines : List (List ℕ)) (count r : ℕ) (room : RoomSession) : Type 0 where
  pub head : HeadIs Plain (take 3 (drop (3 * r + 1) lines)) (Ok room.session.head)
  pub ops : own_ops room.session.head.schema.spec room.session.head.clients [] (own_lines room.name (last_head count + 1) (drop (last_head count) lines)) ≡ Ok room.session.lines

-- so it is with each of these rooms
abbrev pub AreOfOwnLines : List ℕ → List RoomSession → Type 0
AreOfOwnLines input rooms = (r : ℕ) (room : RoomSession) → slice_get rooms r ≡ Some room → IsOfOwnLines (lines_of input) (length rooms) r room

-- each of these rooms holds what a session holds
abbrev pub AllHold : List RoomSession → Type 0
AllHold rooms = All (λ room. Holds room.session) rooms

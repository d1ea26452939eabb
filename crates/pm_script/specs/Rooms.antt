-- What an input is as a file of many rooms: its rooms, each with its session, or its least faulty line with the code of that
-- line's first fault.
use Rattle.std.specs.Prelude.{◌≡◌, ℕ, ◌+◌, ◌*◌, nat_lt, nat_eq, position, List, [], ◌∷◌, ◌++◌, length, drop, slice_get, slice_set, codes, Result, Ok, Err, MatchBool, if◌then◌else◌}
use Rattle.std.specs.Cmp.Lexicographic.{pointwise}
use Rattle.serde_json.specs.Data.{Data}
use Rattle.pm_list.specs.Readings.{◌>>=◌, or_fault}
use Rattle.pm_head.specs.declared.form.Form.TheVariants.{Plain}
use Rattle.pm_head.specs.declared.code.Code.{Code}
use Rattle.pm_head.specs.declared.code.Code.TheVariants.{InputTooLong, MissingLine, TooManyLines, NoSuchRoom}
use Rattle.pm_head.specs.declared.fault.Refusal.{Refusal}
use Rattle.pm_head.specs.Refusals.{refused}
use Rattle.pm_head.specs.declared.reading.Head.{Head}
use Rattle.pm_head.specs.Heads.{HeadIs}
use Rattle.pm_head.specs.Lines.{lines_of, json_line}
use Rattle.pm_head.specs.Rooms.{rooms_line}
use Rattle.pm_meaning.specs.Steps.{Step}
use Rattle.pm_ops.specs.declared.op.Op.{Op}
use Rattle.pm_session.specs.declared.line.Line.{Line}
use Rattle.pm_script.specs.declared.rooms.RoomSession.{RoomSession}
use Rattle.pm_script.specs.declared.rooms.TheConstants.{MAX_OPS}
use Rattle.pm_script.specs.declared.session.TheConstants.{MAX_INPUT}
use Rattle.pm_opjson.specs.Fields.{text_in}
use Rattle.pm_script.specs.Lines.{op_in}
use Rattle.pm_script.specs.Sessions.{at_line}

-- ---- the rooms' heads, three lines each

-- a room of which no op line is read yet
abbrev pub opened : List ℕ → Head → RoomSession
opened name head = record { name = name; session = record { head = head; lines = [] } }

-- A head that stands after line n. A line of it that is refused is told by its number in the file.
abbrev pub moved : ℕ → Result Head Refusal → Result Head Refusal
moved n (Ok head) = Ok head
moved n (Err refusal) = Err (refused (n + refusal.line) refusal.code)

-- what the lines after line n are, the first three of which are a head
abbrev pub HeadBehind : ℕ → List (List ℕ) → Result Head Refusal → Type 0
HeadBehind n lines r = (head : Result Head Refusal) × HeadIs Plain lines head × (r ≡ moved n head)

-- the rooms from one of this name on, whose head is this, where the later ones are in the relation
abbrev pub AfterHead : (Result (List RoomSession) Refusal → Type 0) → List ℕ → Result Head Refusal → Result (List RoomSession) Refusal → Type 0
AfterHead Later name (Err refusal) r = r ≡ Err refusal
AfterHead Later name (Ok head) r = (later : Result (List RoomSession) Refusal) × Later later × (r ≡ (later >>= λ rooms. Ok (opened name head ∷ rooms)))

-- the rooms of these names, which the lines after line n write, three for each in order; or the first of them that has a
-- fault
abbrev pub AreOpened : List (List ℕ) → ℕ → List (List ℕ) → Result (List RoomSession) Refusal → Type 0
AreOpened [] n lines r = r ≡ Ok []
AreOpened (name ∷ names) n lines r = (head : Result Head Refusal) × HeadBehind n lines head × AfterHead (AreOpened names (n + 3) (drop 3 lines)) name head r

-- ---- the op lines, each in the room that it names

-- the place of the room that `room` names
abbrev pub room_in : List RoomSession → Data → Result ℕ Code
room_in rooms d = text_in (codes "room") d >>= (λ name. or_fault NoSuchRoom (position (λ r. pointwise nat_eq name r.name) rooms))

-- The op line with this number that a value is in a room: it is read by the room's schema and clients, and after the room's
-- earlier op lines. Those of other rooms count nothing.
abbrev pub room_op : RoomSession → ℕ → Data → Result (Line Op Step) Code
room_op room n d = op_in Plain room.session.head.schema.spec room.session.head.clients room.session.lines n d

-- the room with one op line more
abbrev pub with_op : RoomSession → Line Op Step → RoomSession
with_op room op = record { name = room.name; session = record { head = room.session.head; lines = room.session.lines ++ op ∷ [] } }

-- a room with the op line that a value is in it
abbrev pub room_with : RoomSession → ℕ → Data → Result RoomSession Code
room_with room n d = room_op room n d >>= (λ op. Ok (with_op room op))

-- the rooms with the op line that a value is in the one at place i; the others stay
abbrev pub at_place : List RoomSession → ℕ → ℕ → Data → Result (List RoomSession) Code
at_place rooms i n d = or_fault NoSuchRoom (slice_get rooms i) >>= (λ room. room_with room n d >>= (λ more. Ok (slice_set rooms i more)))

-- the rooms with the op line that a value is, in the room that it names: `room` is read first
unfoldable pub rooms_with : List RoomSession → ℕ → Data → Result (List RoomSession) Code
rooms_with rooms n d = do
  i ← room_in rooms d
  at_place rooms i n d

-- The same for a line. What stands after the last line that may be there is refused, whatever it holds.
unfoldable pub room_line : ℕ → List RoomSession → ℕ → List ℕ → Result (List RoomSession) Code
room_line last rooms n line = if nat_lt last n then Err TooManyLines else (json_line line >>= (λ d. rooms_with rooms n d))

-- the rooms with the op lines from number n on
unfoldable pub rooms_behind : ℕ → List RoomSession → ℕ → List (List ℕ) → Result (List RoomSession) Refusal
rooms_behind last rooms n [] = Ok rooms
rooms_behind last rooms n (line ∷ rest) = at_line n (room_line last rooms n line) >>= (λ more. rooms_behind last more (n + 1) rest)

-- ---- the file

-- the number of the last line of the heads of so many rooms, after line 1
abbrev pub last_head : ℕ → ℕ
last_head count = 3 * count + 1

-- the rooms of these heads with all op lines
abbrev pub all_behind : ℕ → Result (List RoomSession) Refusal → List (List ℕ) → Result (List RoomSession) Refusal
all_behind count (Ok rooms) lines = rooms_behind (last_head count + MAX_OPS) rooms (last_head count + 1) lines
all_behind count (Err refusal) lines = Err refusal

-- what the lines after line 1 are, which lists these names: three lines for each room, and then the op lines
abbrev pub AfterNames : List (List ℕ) → List (List ℕ) → Result (List RoomSession) Refusal → Type 0
AfterNames names lines r = (heads : Result (List RoomSession) Refusal) × AreOpened names 1 lines heads × (r ≡ all_behind (length names) heads (drop (3 * length names) lines))

-- the same, where line 1 may be refused
abbrev pub BehindNames : Result (List (List ℕ)) Code → List (List ℕ) → Result (List RoomSession) Refusal → Type 0
BehindNames (Ok names) lines r = AfterNames names lines r
BehindNames (Err code) lines r = r ≡ Err (refused 1 code)

-- what the lines are
abbrev pub RoomsOf : List (List ℕ) → Result (List RoomSession) Refusal → Type 0
RoomsOf [] r = r ≡ Err (refused 1 MissingLine)
RoomsOf (line ∷ lines) r = BehindNames (rooms_line line) lines r

-- what the input is; too long an input is refused at line 0
abbrev pub RoomsAre : List ℕ → Result (List RoomSession) Refusal → Type 0
RoomsAre input r = MatchBool (nat_lt MAX_INPUT (length input)) (r ≡ Err (refused 0 InputTooLong)) (RoomsOf (lines_of input) r)

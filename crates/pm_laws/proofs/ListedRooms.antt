-- Line 1 of a file of many rooms lists the rooms.
use Rattle.std.proofs.Common.{◌≡◌, ◌+◌, ◌*◌, ℕ, Bool, true, false, List, [], ◌∷◌, length, drop, refl, ap, sym, ◌∙◌, Ok, Err}
use Rattle.std.specs.Prelude.{Result, nat_lt, MatchBool}
use Rattle.pm_head.specs.declared.code.Code.{Code}
use Rattle.pm_head.specs.declared.code.Code.TheVariants.{InputTooLong}
use Rattle.pm_head.specs.declared.fault.Refusal.{Refusal}
use Rattle.pm_head.specs.Refusals.{refused}
use Rattle.pm_head.specs.Lines.{lines_of}
use Rattle.pm_head.specs.Rooms.{rooms_line}
use Rattle.pm_script.specs.declared.rooms.RoomSession.{RoomSession}
use Rattle.pm_script.specs.declared.session.TheConstants.{MAX_INPUT}
use Rattle.pm_script.specs.Sessions.{at_line}
use Rattle.pm_script.specs.Rooms.{AreOpened, room_line, rooms_behind, all_behind, BehindNames, RoomsOf}
use Rattle.pm_script.proofs.Came.{then-ok, line-ok}
use Rattle.pm_script.proofs.RoomHeads.{AllOpened, all-opened}
use Rattle.pm_script.proofs.RoomOps.{is-read, names_in, same-names}
use Rattle.pm_laws.specs.Listed.{AreListed, AllRoomsListed}

-- op lines leave the names
names-behind : (last : ℕ) (rooms : List RoomSession) (n : ℕ) (lines : List (List ℕ)) (end : List RoomSession) → rooms_behind last rooms n lines ≡ Ok end → names_in end ≡ names_in rooms
unfolding rooms_behind
names-behind last rooms n [] end h = let same : rooms ≡ end = cc in ap names_in (sym same)
names-behind last rooms n (line ∷ rest) end h =
    let a = then-ok (at_line n (room_line last rooms n line)) _ end h in
    let k = is-read last rooms n line a.0 (line-ok n (room_line last rooms n line) a.0 a.1) in
    names-behind last a.0 (n + 1) rest end a.2 ∙ same-names last rooms n line a.0 k

abbrev as_rooms : List RoomSession → Result (List RoomSession) Refusal
as_rooms rooms = Ok rooms

-- what the lines list
abbrev Lists : List (List ℕ) → List RoomSession → Type 0
Lists lines rooms = (line : List ℕ) × (rest : List (List ℕ)) × (lines ≡ line ∷ rest) × (rooms_line line ≡ Ok (names_in rooms))

of-rooms : (lines : List (List ℕ)) (rooms : List RoomSession) → RoomsOf lines (Ok rooms) → Lists lines rooms
of-rooms [] rooms h = absurd (cc)
of-rooms (line ∷ lines) rooms h = by (rooms_line line) refl h
  where
    heads : (names : List (List ℕ)) → rooms_line line ≡ Ok names → (hs : Result (List RoomSession) Refusal) → AreOpened names 1 lines hs
        → as_rooms rooms ≡ all_behind (length names) hs (drop (3 * length names) lines) → Lists (line ∷ lines) rooms
    heads names e (Err refusal) o k = absurd (cc)
    heads names e (Ok hs) o k =
        let all : AllOpened names lines hs = all-opened names 1 lines hs o in
        let named : names_in rooms ≡ names = names-behind _ hs _ _ rooms (sym k) ∙ all.named in
        (line, lines, refl, e ∙ ap Ok (sym named))

    by : (names : Result (List (List ℕ)) Code) → rooms_line line ≡ names → BehindNames names lines (Ok rooms) → Lists (line ∷ lines) rooms
    by (Err code) e k = absurd (cc)
    by (Ok names) e k = heads names e k.0 k.1 k.2

pub rooms-listed : (input : List ℕ) → AllRoomsListed input
rooms-listed input rooms h = by (nat_lt MAX_INPUT (length input)) h
  where
    as-listed : Lists (lines_of input) rooms → AreListed input rooms
    as-listed l = record { line = l.0; rest = l.1; lines_are = l.2; listed = l.3 }

    by : (b : Bool) → MatchBool b (as_rooms rooms ≡ Err (refused 0 InputTooLong)) (RoomsOf (lines_of input) (Ok rooms)) → AreListed input rooms
    by true h = absurd (cc)
    by false h = as-listed (of-rooms (lines_of input) rooms h)

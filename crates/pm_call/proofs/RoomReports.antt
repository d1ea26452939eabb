-- The rooms of a file of many: they are sound, each is the session of its own lines, and their reports are one text.
use Rattle.std.proofs.Common.{◌≡◌, ◌+◌, ◌*◌, ℕ, suc, List, [], ◌∷◌, ◌++◌, length, take, drop, refl, ap, ◌∙◌, Ok}
use Rattle.std.specs.Prelude.{Some, slice_get, All}
use Rattle.std.proofs.lemmas.List.Elements.{All-weaker}
use Rattle.pm_schema.specs.Built.{IsBuilt}
use Rattle.pm_head.specs.declared.form.Form.TheVariants as form
use Rattle.pm_head.specs.Lines.{lines_of}
use Rattle.pm_script.specs.declared.rooms.RoomSession.{RoomSession}
use Rattle.pm_script.specs.Held.{Holds}
use Rattle.pm_script.specs.OneRooms.{SameRooms}
use Rattle.pm_script.specs.Rooms.{RoomsAre}
use Rattle.pm_script.proofs.OneRooms.{one-rooms}
use Rattle.pm_script.proofs.OwnLaws.{rooms-own, rooms-hold}
use Rattle.pm_call.specs.RoomReports.{room_line, rooms_report}
use Rattle.pm_call.specs.RoomSounds.{AllRoomsSound, AllRoomsApart}
use Rattle.pm_call.specs.Sounds.{RoomsSound}
use Rattle.pm_same.proofs.Built.{head-built}
use Rattle.pm_call.proofs.Reports.{rooms-sound, lines-suit}
use Rattle.pm_call.proofs.SameReports.{reports-alike}

pub all_rooms_sound : (input : List ℕ) → AllRoomsSound input
all_rooms_sound input rooms is =
    All-weaker (λ (room : RoomSession). Holds room.session) (λ (room : RoomSession). RoomsSound room.session) (λ room held. rooms-sound room.session held.valid (lines-suit room.session held)) rooms (rooms-hold input rooms is)

pub all_rooms_apart : (input : List ℕ) → AllRoomsApart input
all_rooms_apart input rooms is = rooms-own input rooms is

-- ---- one text

AllBuilt : List RoomSession → Type 0
AllBuilt rooms = (r : ℕ) (room : RoomSession) → slice_get rooms r ≡ Some room → IsBuilt room.session.head.schema

all-built : (input : List ℕ) (rooms : List RoomSession) → RoomsAre input (Ok rooms) → AllBuilt rooms
unfolding AllBuilt
all-built input rooms is r room at = head-built form.Plain (take 3 (drop (3 * r + 1) (lines_of input))) room.session.head (rooms-own input rooms is r room at).head

texts-alike : (rs qs : List RoomSession) → AllBuilt rs → AllBuilt qs → SameRooms rs qs → rooms_report rs ≡ rooms_report qs
unfolding AllBuilt
texts-alike [] [] b k h = refl
texts-alike [] (q ∷ qs) b k h = absurd h
texts-alike (r ∷ rs) [] b k h = absurd h
texts-alike (r ∷ rs) (q ∷ qs) b k h =
    let report = reports-alike r.session q.session h.0.session (b 0 r refl) (k 0 q refl) in
    let rest = texts-alike rs qs (λ i x at. b (suc i) x at) (λ i x at. k (suc i) x at) h.1 in
    λ i. room_line (h.0.name i) ++ report i ++ rest i

pub one-rooms-report : (input : List ℕ) (rooms others : List RoomSession) → RoomsAre input (Ok rooms) → RoomsAre input (Ok others) → rooms_report rooms ≡ rooms_report others
one-rooms-report input rooms others h k = texts-alike rooms others (all-built input rooms h) (all-built input others k) (one-rooms input rooms others h k)

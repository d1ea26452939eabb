-- One order, one text: of `run`, and of `runrooms`.
use Rattle.std.proofs.Common.{◌≡◌, ℕ, suc, ◌+◌, ◌*◌, List, [], ◌∷◌, ◌++◌, length, take, drop, refl, sym, ◌∙◌, Ok}
use Rattle.std.specs.Prelude.{slice_get, Some}
use Rattle.pm_schema.specs.Built.{IsBuilt}
use Rattle.pm_head.specs.declared.form.Form.TheVariants as form
use Rattle.pm_head.specs.Lines.{lines_of}
use Rattle.pm_script.specs.declared.rooms.RoomSession.{RoomSession}
use Rattle.pm_script.specs.OneRooms.{SameRooms}
use Rattle.pm_script.specs.Rooms.{last_head, RoomsAre}
use Rattle.pm_script.proofs.OneRooms.{one-rooms}
use Rattle.pm_script.proofs.OneSession.{one-session}
use Rattle.pm_script.proofs.OwnLaws.{rooms-own}
use Rattle.pm_same.proofs.Built.{session-built, head-built}
use Rattle.pm_call.specs.RoomReports.{room_line}
use Rattle.pm_call.specs.RoomRuns.{AreRun}
use Rattle.pm_laws.specs.Orders.{OrderFixesRun, orders_of, OrdersFixRooms}
use Rattle.pm_laws.proofs.LineNumbers.{own-rise, session-rises}
use Rattle.pm_laws.proofs.OneRun.{NumbersRise, same-run}

pub order-fixes : (input : List ℕ) → OrderFixesRun input
order-fixes input s t is it text other x y e =
    same-run s t (one-session form.Plain input s t is it) (session-built form.Plain input s is) (session-built form.Plain input t it) (session-rises form.Plain input s is) text other x y e

-- what is asked of each room
record IsReady (room : RoomSession) : Type 0 where
  pub built : IsBuilt room.session.head.schema
  pub rise : NumbersRise room.session.lines

abbrev AllReady : List RoomSession → Type 0
AllReady rooms = (r : ℕ) (room : RoomSession) → slice_get rooms r ≡ Some room → IsReady room

all-ready : (input : List ℕ) (rooms : List RoomSession) → RoomsAre input (Ok rooms) → AllReady rooms
all-ready input rooms is r room at =
    let own = rooms-own input rooms is r room at in
    record {
      built = head-built form.Plain (take 3 (drop (3 * r + 1) (lines_of input))) room.session.head own.head;
      rise = own-rise room.name room.session.head.schema.spec room.session.head.clients (last_head (length rooms) + 1) (drop (last_head (length rooms)) (lines_of input)) room.session.lines own.ops;
    }

first-same : (a b : List ℕ) (ks ls : List (List ℕ)) → a ∷ ks ≡ b ∷ ls → (a ≡ b) × (ks ≡ ls)
first-same a b ks ls h = ((cc), (cc))

texts-same : (rs qs : List RoomSession) → AllReady rs → AllReady qs → SameRooms rs qs → (text other : List ℕ) (x : AreRun rs text) (y : AreRun qs other) → orders_of rs text x ≡ orders_of qs other y → text ≡ other
texts-same [] [] b k h text other x y e = x ∙ sym y
texts-same [] (q ∷ qs) b k h text other x y e = absurd h
texts-same (r ∷ rs) [] b k h text other x y e = absurd h
texts-same (r ∷ rs) (q ∷ qs) b k h text other x y e =
    let s = first-same x.2.order y.2.order (orders_of rs x.1 x.3) (orders_of qs y.1 y.3) e in
    let ready = b 0 r refl in
    let part : x.0 ≡ y.0 = same-run r.session q.session h.0.session ready.built (k 0 q refl).built ready.rise x.0 y.0 x.2 y.2 s.0 in
    let rest : x.1 ≡ y.1 = texts-same rs qs (λ i z at. b (suc i) z at) (λ i z at. k (suc i) z at) h.1 x.1 y.1 x.3 y.3 s.1 in
    x.4 ∙ ((λ i. room_line (h.0.name i) ++ (part i ++ rest i)) ∙ sym y.4)

pub orders-fix : (input : List ℕ) → OrdersFixRooms input
orders-fix input rooms others h k text other x y e =
    texts-same rooms others (all-ready input rooms h) (all-ready input others k) (one-rooms input rooms others h k) text other x y e

-- What `run` and `runrooms` write for an input in one order of the lines is one text.
use Rattle.std.specs.Prelude.{◌≡◌, ℕ, List, [], ◌∷◌, Ok}
use Rattle.pm_head.specs.declared.form.Form.TheVariants as form
use Rattle.pm_script.specs.declared.session.Session.{Session}
use Rattle.pm_script.specs.declared.rooms.RoomSession.{RoomSession}
use Rattle.pm_script.specs.Sessions.{SessionIs}
use Rattle.pm_script.specs.Rooms.{RoomsAre}
use Rattle.pm_call.specs.Running.{IsRun}
use Rattle.pm_call.specs.RoomRuns.{AreRun}

-- Two texts of `run` for the input are equal where their orders are.
abbrev pub OrderFixesRun : List ℕ → Type 0
OrderFixesRun input =
    (s t : Session) → SessionIs form.Plain input (Ok s) → SessionIs form.Plain input (Ok t)
    → (text other : List ℕ) (x : IsRun s text) (y : IsRun t other) → x.order ≡ y.order → text ≡ other

-- the orders of the rooms
abbrev pub orders_of : (rooms : List RoomSession) (text : List ℕ) → AreRun rooms text → List (List ℕ)
orders_of [] text x = []
orders_of (room ∷ rooms) text x = x.2.order ∷ orders_of rooms x.1 x.3

-- Two texts of `runrooms` for the input are equal where the orders of their rooms are.
abbrev pub OrdersFixRooms : List ℕ → Type 0
OrdersFixRooms input =
    (rooms others : List RoomSession) → RoomsAre input (Ok rooms) → RoomsAre input (Ok others)
    → (text other : List ℕ) (x : AreRun rooms text) (y : AreRun others other) → orders_of rooms text x ≡ orders_of others other y → text ≡ other

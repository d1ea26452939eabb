-- The lines of two rooms with an empty paragraph suit them.
use Rattle.std.proofs.Common.{◌≡◌, ℕ, zero, suc, ◌<◌, List, [], ◌∷◌, length, slice_get, slice_index_or, Some, false, refl, sym, ap, ◌∙◌, subst, arith}
use Rattle.pm_flat.specs.declared.flat.Replace.{Replace}
use Rattle.pm_flat.specs.declared.flat.Reason.{Reason}
use Rattle.pm_session.specs.Events.{State}
use Rattle.pm_session.specs.Suits.{LinesSuit}
use Rattle.pm_session.proofs.Openings.{opened-suits}
use Rattle.pm_rooms.specs.declared.hall.Hall.{Hall}
use Rattle.pm_rooms.specs.declared.line.RoomLine.{RoomLine}
use Rattle.pm_rooms.specs.Halls.{hall_of, LinesSuitHall}
use Rattle.pm_rooms.specs.Lines.{lines_in}
use Rattle.pm_rooms.proofs.HallRooms.{some-same}
use Rattle.tests_rooms.specs.TwoRooms.{empty_room, AreTwoRooms, the_lines}

abbrev TheHall : Type 0
TheHall = Hall Replace (Unit {0}) (List ℕ) Reason

abbrev TheState : Type 0
TheState = State Replace (Unit {0}) (List ℕ) Reason

-- a line's room is one of two
room-there : (n : ℕ) → n ≡ 2 → (i : ℕ) (d : RoomLine (List ℕ) Replace) → i < 3 → (slice_index_or the_lines i d).room < n
room-there n e zero d lt = omega (arith, e)
room-there n e (suc zero) d lt = omega (arith, e)
room-there n e (suc (suc zero)) d lt = omega (arith, e)
room-there n e (suc (suc (suc i))) d lt = absurd (omega (arith, lt))

-- the lines of each of the two rooms suit it
own-suit : (r : ℕ) (s : TheState) → slice_get (empty_room ∷ empty_room ∷ []) r ≡ Some s → LinesSuit s (lines_in r the_lines)
own-suit zero s at =
    subst (λ t. LinesSuit t (lines_in 0 the_lines)) (some-same empty_room s at)
    (opened-suits (Unit {0}) (List ℕ) Reason Replace [] (false ∷ []) (lines_in 0 the_lines) (record { kind = refl; named = tt }, tt))
own-suit (suc zero) s at =
    subst (λ t. LinesSuit t (lines_in 1 the_lines)) (some-same empty_room s at)
    (opened-suits (Unit {0}) (List ℕ) Reason Replace [] (false ∷ []) (lines_in 1 the_lines) (record { kind = refl; named = tt }, (record { kind = refl; named = tt }, tt)))
own-suit (suc (suc r)) s at = absurd (cc)

pub lines-suit : (hall : TheHall) → AreTwoRooms hall → LinesSuitHall (hall_of hall) the_lines
lines-suit hall two = record {
  there = λ i d lt. room-there (length (hall_of hall).rooms) (ap length two.rooms) i d lt;
  suit = λ r s at. own-suit r s (ap (λ l. slice_get l r) (sym two.rooms) ∙ at);
}

-- Rooms whose op lines are being read.
use Rattle.std.proofs.Common.{◌≡◌, ◌<◌, ◌+◌, ℕ, List, [], ◌∷◌, drop, length, map, refl, ap, sym, subst, ◌∙◌, suc, add-one, Ok, Err}
use Rattle.std.specs.Prelude.{slice_get, slice_set, slice_index_or, Some, Result}
use Rattle.std.proofs.Math.Seq.{drop-cons}
use Rattle.serde_json.specs.Data.{Data}
use Rattle.pm_list.specs.Readings.{◌>>=◌}
use Rattle.pm_head.specs.declared.code.Code.{Code}
use Rattle.pm_head.specs.declared.code.Code.TheVariants.{MissingLine}
use Rattle.pm_head.specs.declared.fault.LineError.{LineError}
use Rattle.pm_head.specs.declared.fault.LineError.TheVariants as line
use Rattle.pm_head.specs.Answers.{Gives}
use Rattle.pm_head.specs.Lines.{lines_of}
use Rattle.pm_head.specs.Refusals.{refused}
use Rattle.pm_head.proofs.Missing.{no_lines}
use Rattle.pm_script.specs.declared.open_room.OpenRoom.{OpenRoom}
use Rattle.pm_script.specs.OpenRooms.{room_of, rooms_of}
use Rattle.pm_script.specs.Rooms.{room_with, at_place, RoomsOf}
use Rattle.pm_script.proofs.RoomLists.{map-get, map-set}

-- a room that was put back after an op line
module _ (rooms : List OpenRoom) (i n : ℕ) (d : Data) (room new : OpenRoom) (there : slice_get rooms i ≡ Some room) where
  there-read : slice_get (rooms_of rooms) i ≡ Some (room_of room)
  there-read = map-get room_of rooms i room there

  put-read : room_with (room_of room) n d ≡ Ok (room_of new) → at_place (rooms_of rooms) i n d ≡ Ok (rooms_of (slice_set rooms i new))
  put-read read =
      let opened : at_place (rooms_of rooms) i n d ≡ Ok (slice_set (rooms_of rooms) i (room_of new)) = rw (there-read, read) refl in
      opened ∙ ap Ok (sym (map-set room_of rooms i new))

  put-fault : (code : Code) → room_with (room_of room) n d ≡ Err code → at_place (rooms_of rooms) i n d ≡ Err code
  put-fault code fault = rw (there-read, fault) refl

  pub put-room : (r : Result (Unit {0}) LineError) → Gives (λ u. room_of new) r (room_with (room_of room) n d) → Gives (λ u. rooms_of (slice_set rooms i new)) r (at_place (rooms_of rooms) i n d)
  put-room (Ok u) h = put-read h
  put-room (Err (line.Code code)) h = put-fault code h
  put-room (Err line.NoMemory) h = tt

pub no-rooms : (bytes : List ℕ) → bytes ≡ [] → RoomsOf (lines_of bytes) (Err (refused 1 MissingLine))
no-rooms bytes e = subst (λ (ls : List (List ℕ)). RoomsOf ls (Err (refused 1 MissingLine))) (sym (no_lines bytes e)) refl

-- the next name of those that are left
pub front-drop : (names : List (List ℕ)) (i : ℕ) (name : List ℕ) → i < length names → name ≡ slice_index_or names i name → drop i names ≡ name ∷ drop (i + 1) names
front-drop names i name within is = drop-cons names i name within ∙ ap (λ x. x ∷ drop (suc i) names) (sym is) ∙ rw add-one refl

-- The op lines of a file of many rooms, one by one, and what one of them makes of each room.
use Rattle.std.proofs.Common.{◌≡◌, ◌≢◌, ◌+◌, ℕ, Bool, true, false, List, [], ◌∷◌, ◌++◌, length, map, refl, ap, sym, subst, ◌∙◌, Ok, Err}
use Rattle.std.specs.Prelude.{slice_get, slice_set, Some, Result, position, nat_lt, nat_eq, codes, option_map, unwrap_or, if◌then◌else◌}
use Rattle.std.specs.Cmp.Lexicographic.{pointwise}
use Rattle.std.proofs.lemmas.List.{append_assoc, append-nil}
use Rattle.std.proofs.lemmas.Bool.{eqb-true, eqb-false}
use Rattle.serde_json.specs.Data.{Data}
use Rattle.pm_list.specs.Readings.{◌>>=◌, or_fault}
use Rattle.pm_head.specs.declared.code.Code.TheVariants.{TooManyLines, LineTooLong, NotJson, NoSuchRoom, WrongShape}
use Rattle.pm_head.specs.declared.fault.Refusal.{Refusal}
use Rattle.pm_head.specs.declared.fault.SessionError.{SessionError}
use Rattle.pm_head.specs.declared.fault.SessionError.TheVariants as session
use Rattle.pm_head.specs.Lines.{json_line, json_of}
use Rattle.pm_meaning.specs.Steps.{Step}
use Rattle.pm_ops.specs.declared.op.Op.{Op}
use Rattle.pm_session.specs.declared.line.Line.{Line}
use Rattle.pm_script.specs.declared.rooms.RoomSession.{RoomSession}
use Rattle.pm_script.specs.Answers.{Gives}
use Rattle.pm_script.specs.Entrants.{text_at}
use Rattle.pm_opjson.specs.Fields.{text_in}
use Rattle.pm_script.specs.Sessions.{at_line}
use Rattle.pm_script.specs.Rooms.{room_in, room_op, with_op, room_with, rooms_with, room_line, rooms_behind}
use Rattle.pm_script.specs.OwnLines.{is_of_room}
use Rattle.pm_script.proofs.Came.{then-ok, fault-ok, unless-ok}
use Rattle.pm_script.proofs.RoomLists.{position-at, map-get, map-same}
use Rattle.pm_script.proofs.RoomNames.{NamesDiffer, same-text, text-same}

-- ---- line after line

module _ (last : ℕ) (rooms more : List RoomSession) (n : ℕ) (line : List ℕ) (lines rest : List (List ℕ)) (split : lines ≡ line ∷ rest) where
  pub lines-step : (whole : Result (List RoomSession) Refusal) → at_line n (room_line last rooms n line) ≡ Ok more → rooms_behind last rooms n lines ≡ whole → rooms_behind last more (n + 1) rest ≡ whole
  unfolding rooms_behind
  lines-step whole read h =
      let opened : rooms_behind last rooms n lines ≡ rooms_behind last more (n + 1) rest = rw (split, read) refl in
      sym opened ∙ h

  pub lines-fault : (whole : Result (List RoomSession) Refusal) (refusal : Refusal) → at_line n (room_line last rooms n line) ≡ Err refusal → rooms_behind last rooms n lines ≡ whole → whole ≡ Err refusal
  unfolding rooms_behind
  lines-fault whole refusal read h =
      let opened : rooms_behind last rooms n lines ≡ Err refusal = rw (split, read) refl in
      sym h ∙ opened

pub lines-end : (last : ℕ) (rooms : List RoomSession) (n : ℕ) (lines : List (List ℕ)) (whole : Result (List RoomSession) Refusal) → lines ≡ [] → rooms_behind last rooms n lines ≡ whole → whole ≡ Ok rooms
unfolding rooms_behind
lines-end last rooms n lines whole none h =
    let opened : rooms_behind last rooms n lines ≡ Ok rooms = rw none refl in
    sym h ∙ opened

-- what a call answers that reads them, where one of them has this fault
pub fault-lines : {X Y : Type 0} (view : X → List RoomSession) (other : Y → List RoomSession) (last : ℕ) (rooms : List RoomSession) (n : ℕ) (line : List ℕ) (lines rest : List (List ℕ))
    (whole : Result (List RoomSession) Refusal) (r : Result X SessionError) (e d : SessionError) → lines ≡ line ∷ rest → r ≡ Err e → e ≡ d
    → Gives other (Err d) (at_line n (room_line last rooms n line)) → rooms_behind last rooms n lines ≡ whole → Gives view r whole
fault-lines view other last rooms n line lines rest whole r e d split is same h read =
    subst (λ z. Gives view z whole) (sym is) (subst (λ x. Gives view (Err x) whole) (sym same) (by d h))
  where
    by : (x : SessionError) → Gives other (Err x) (at_line n (room_line last rooms n line)) → Gives view (Err x) whole
    by (session.Refused refusal) f = lines-fault last rooms rooms n line lines rest split whole refusal f read
    by session.NoMemory f = tt

-- ---- one line

-- an op line that was read: its room, what became of it, and what the line names
pub record IsRead (last : ℕ) (rooms : List RoomSession) (n : ℕ) (line : List ℕ) (more : List RoomSession) : Type 0 where
  pub d : Data
  pub value : json_line line ≡ Ok d
  pub i : ℕ
  pub named : room_in rooms d ≡ Ok i
  pub room : RoomSession
  pub at : slice_get rooms i ≡ Some room
  pub op : Line Op Step
  pub read : room_op room n d ≡ Ok op
  pub more_is : slice_set rooms i (with_op room op) ≡ more

pub is-read : (last : ℕ) (rooms : List RoomSession) (n : ℕ) (line : List ℕ) (more : List RoomSession) → room_line last rooms n line ≡ Ok more → IsRead last rooms n line more
unfolding room_line rooms_with
is-read last rooms n line more h =
    let a = then-ok (json_line line) (λ d. rooms_with rooms n d) more (unless-ok (nat_lt last n) TooManyLines _ more h) in
    let b = then-ok (room_in rooms a.0) _ more a.2 in
    let c = then-ok (or_fault NoSuchRoom (slice_get rooms b.0)) _ more b.2 in
    let e = then-ok (room_with c.0 n a.0) _ more c.2 in
    let g = then-ok (room_op c.0 n a.0) _ e.0 e.1 in
    let set : slice_set rooms b.0 e.0 ≡ more = cc in
    let made : with_op c.0 g.0 ≡ e.0 = cc in
    record {
      d = a.0;
      value = a.1;
      i = b.0;
      named = b.1;
      room = c.0;
      at = fault-ok NoSuchRoom (slice_get rooms b.0) c.0 c.1;
      op = g.0;
      read = g.1;
      more_is = subst (λ r. slice_set rooms b.0 r ≡ more) (sym made) set;
    }

-- the names stay
abbrev pub names_in : List RoomSession → List (List ℕ)
names_in rooms = map (λ room. room.name) rooms

pub same-names : (last : ℕ) (rooms : List RoomSession) (n : ℕ) (line : List ℕ) (more : List RoomSession) → IsRead last rooms n line more → names_in more ≡ names_in rooms
same-names last rooms n line more h =
    let name : RoomSession → List ℕ = λ room. room.name in
    ap (map name) (sym h.more_is) ∙ map-same name rooms h.i (with_op h.room h.op) h.room h.at refl

-- ---- whose line it is

json-there : (line : List ℕ) (d : Data) → json_line line ≡ Ok d → json_of line ≡ Some d
unfolding json_line
json-there line d h = fault-ok NotJson (json_of line) d (unless-ok (nat_lt 1048576 (length line)) LineTooLong _ d h)

of-room-is : (line name text : List ℕ) (d : Data) → json_of line ≡ Some d → text_at (codes "room") d ≡ Some text → is_of_room name line ≡ pointwise nat_eq text name
of-room-is line name text d value at = rw (value, at) refl

pub is-own : (last : ℕ) (rooms : List RoomSession) (n : ℕ) (line : List ℕ) (more : List RoomSession) → (h : IsRead last rooms n line more) → NamesDiffer (names_in rooms)
    → (r : ℕ) (room : RoomSession) → slice_get rooms r ≡ Some room → is_of_room room.name line ≡ nat_eq h.i r
is-own last rooms n line more h differ r room at =
    let text = then-ok (text_in (codes "room") h.d) _ h.i h.named in
    let found = fault-ok NoSuchRoom (position (λ x. pointwise nat_eq text.0 x.name) rooms) h.i text.2 in
    let hit : pointwise nat_eq text.0 h.room.name ≡ true = position-at (λ x. pointwise nat_eq text.0 x.name) rooms h.i h.room found h.at in
    let said = of-room-is line room.name text.0 h.d (json-there line h.d h.value) (fault-ok WrongShape (text_at (codes "room") h.d) text.0 text.1) in
    said ∙ by (nat_eq h.i r) refl text.0 (same-text text.0 h.room.name hit)
  where
    name : RoomSession → List ℕ
    name x = x.name

    same-place : h.i ≡ r → h.room ≡ room
    same-place e = let there : slice_get rooms r ≡ Some h.room = subst (λ k. slice_get rooms k ≡ Some h.room) e h.at in cc

    by : (b : Bool) → nat_eq h.i r ≡ b → (text : List ℕ) → text ≡ h.room.name → pointwise nat_eq text room.name ≡ b
    by true e text is = subst (λ z. pointwise nat_eq z room.name ≡ true) (sym (is ∙ ap name (same-place (eqb-true h.i r e)))) (text-same room.name)
    by false e text is = apart (pointwise nat_eq text room.name) refl
      where
        apart : (b : Bool) → pointwise nat_eq text room.name ≡ b → pointwise nat_eq text room.name ≡ false
        apart false t = t
        apart true t = absurd (eqb-false h.i r e (differ h.i r h.room.name room.name (map-get name rooms h.i h.room h.at) (map-get name rooms r room at) (subst (λ z. pointwise nat_eq z room.name ≡ true) is t)))

-- Each room of a file of many is the session of its own lines.
use Rattle.std.proofs.Common.{◌≡◌, ◌+◌, ◌*◌, ℕ, Bool, true, false, List, [], ◌∷◌, ◌++◌, length, take, drop, map, refl, ap, sym, subst, ◌∙◌, Ok, Err, add-one}
use Rattle.std.specs.Prelude.{slice_get, slice_set, Some, Result, Vec, nat_lt, nat_eq, MatchBool, IfOk, All}
use Rattle.std.specs.declared.alloc.Global.{Global}
use Rattle.std.proofs.lemmas.List.{append_assoc, append-nil, length-map}
use Rattle.std.proofs.lemmas.Bool.{eqb-true, eqb-false}
use Rattle.serde_json.specs.Data.{Data}
use Rattle.pm_list.specs.Readings.{◌>>=◌}
use Rattle.pm_head.specs.declared.form.Form.TheVariants.{Plain}
use Rattle.pm_head.specs.declared.code.Code.{Code}
use Rattle.pm_head.specs.declared.code.Code.TheVariants.{InputTooLong}
use Rattle.pm_head.specs.declared.fault.Refusal.{Refusal}
use Rattle.pm_head.specs.declared.fault.SessionError.{SessionError}
use Rattle.pm_head.specs.Refusals.{refused}
use Rattle.pm_head.specs.Answers.{Reads}
use Rattle.pm_head.specs.Heads.{HeadIs}
use Rattle.pm_head.specs.Lines.{lines_of, json_line}
use Rattle.pm_head.specs.Rooms.{rooms_line}
use Rattle.pm_meaning.specs.Steps.{Step}
use Rattle.pm_ops.specs.declared.op.Op.{Op}
use Rattle.pm_session.specs.declared.line.Line.{Line}
use Rattle.pm_script.specs.declared.rooms.RoomSession.{RoomSession}
use Rattle.pm_script.specs.declared.rooms.TheConstants.{MAX_OPS}
use Rattle.pm_script.specs.declared.session.TheConstants.{MAX_INPUT}
use Rattle.pm_script.specs.Held.{Holds}
use Rattle.pm_script.specs.Lines.{op_in}
use Rattle.pm_script.specs.Sessions.{at_line}
use Rattle.pm_script.specs.Rooms.{AreOpened, room_op, with_op, room_line, rooms_behind, last_head, all_behind, BehindNames, RoomsOf, RoomsAre}
use Rattle.pm_script.specs.OwnLines.{is_of_room, own_lines, own_ops, IsOfOwnLines, AreOfOwnLines, AllHold}
use Rattle.pm_script.proofs.Came.{then-ok, line-ok}
use Rattle.pm_script.proofs.HeadLaws.{head-good}
use Rattle.pm_script.proofs.Suited.{own-suit}
use Rattle.pm_script.proofs.RoomLists.{set-there, set-elsewhere, map-get, map-got, all-at}
use Rattle.pm_script.proofs.RoomNames.{NamesDiffer, line-differs}
use Rattle.pm_script.proofs.RoomHeads.{AllOpened, all-opened, head-three}
use Rattle.pm_script.proofs.RoomOps.{IsRead, is-read, names_in, same-names, is-own}

-- A room and what becomes of it by these lines, the first of which is line n: the op lines come to it that its own lines are.
record IsAfter (n : ℕ) (lines : List (List ℕ)) (room final : RoomSession) : Type 0 where
  pub name : final.name ≡ room.name
  pub head : final.session.head ≡ room.session.head
  pub later : List (Line Op Step)
  pub read : own_ops room.session.head.schema.spec room.session.head.clients room.session.lines (own_lines room.name n lines) ≡ Ok later
  pub ops : final.session.lines ≡ room.session.lines ++ later

none-after : (n : ℕ) (room : RoomSession) → IsAfter n [] room room
unfolding own_lines own_ops
none-after n room = record { name = refl; head = refl; later = []; read = refl; ops = sym (append-nil room.session.lines) }

others-line : (n : ℕ) (line : List ℕ) (rest : List (List ℕ)) (room final : RoomSession) → is_of_room room.name line ≡ false → IsAfter (n + 1) rest room final → IsAfter n (line ∷ rest) room final
unfolding own_lines
others-line n line rest room final other h =
    let skips : own_lines room.name n (line ∷ rest) ≡ own_lines room.name (n + 1) rest = rw other refl in
    record {
      name = h.name;
      head = h.head;
      later = h.later;
      read = ap (own_ops room.session.head.schema.spec room.session.head.clients room.session.lines) skips ∙ h.read;
      ops = h.ops;
    }

own-line : (n : ℕ) (line : List ℕ) (rest : List (List ℕ)) (room final : RoomSession) (d : Data) (op : Line Op Step) → is_of_room room.name line ≡ true → json_line line ≡ Ok d
    → room_op room n d ≡ Ok op → IsAfter (n + 1) rest (with_op room op) final → IsAfter n (line ∷ rest) room final
unfolding own_lines own_ops
own-line n line rest room final d op own value read h =
    let s = room.session.head.schema.spec in
    let clients = room.session.head.clients in
    let earlier = room.session.lines in
    let takes : own_lines room.name n (line ∷ rest) ≡ (n, line) ∷ own_lines room.name (n + 1) rest = rw own refl in
    let one : at_line n (json_line line >>= (λ x. op_in Plain s clients earlier n x)) ≡ Ok op = rw value (ap (at_line n) read) in
    let both : own_ops s clients earlier ((n, line) ∷ own_lines room.name (n + 1) rest) ≡ Ok (op ∷ h.later) = rw (one, h.read) refl in
    record {
      name = h.name;
      head = h.head;
      later = op ∷ h.later;
      read = ap (own_ops s clients earlier) takes ∙ both;
      ops = h.ops ∙ append_assoc earlier (op ∷ []) h.later;
    }

some-same : (x y : RoomSession) → Some x ≡ Some y → x ≡ y
some-same x y h = cc

-- one line, after which the room becomes what it becomes by the others
module _ (last : ℕ) (rooms more : List RoomSession) (n : ℕ) (line : List ℕ) (rest : List (List ℕ)) (k : IsRead last rooms n line more) (differ : NamesDiffer (names_in rooms))
    (r : ℕ) (room final : RoomSession) (at : slice_get rooms r ≡ Some room)
    (next : (x : RoomSession) → slice_get more r ≡ Some x → IsAfter (n + 1) rest x final) where
  here : k.i ≡ r → is_of_room room.name line ≡ true → IsAfter n (line ∷ rest) room final
  here e own =
      let same : k.room ≡ room = some-same k.room room (sym (subst (λ j. slice_get rooms j ≡ Some k.room) e k.at) ∙ at) in
      let put : slice_get more k.i ≡ Some (with_op k.room k.op) = subst (λ l. slice_get l k.i ≡ Some (with_op k.room k.op)) k.more_is (set-there rooms k.i (with_op k.room k.op) k.room k.at) in
      let there : slice_get more r ≡ Some (with_op room k.op) = subst (λ x. slice_get more r ≡ Some (with_op x k.op)) same (subst (λ j. slice_get more j ≡ Some (with_op k.room k.op)) e put) in
      let read : room_op room n k.d ≡ Ok k.op = subst (λ x. room_op x n k.d ≡ Ok k.op) same k.read in
      own-line n line rest room final k.d k.op own k.value read (next (with_op room k.op) there)

  elsewhere : (k.i ≡ r → ⊥) → is_of_room room.name line ≡ false → IsAfter n (line ∷ rest) room final
  elsewhere ne other =
      let stays : slice_get more r ≡ Some room = subst (λ l. slice_get l r ≡ Some room) k.more_is (set-elsewhere rooms k.i r (with_op k.room k.op) ne ∙ at) in
      others-line n line rest room final other (next room stays)

  one-line : IsAfter n (line ∷ rest) room final
  one-line = by (nat_eq k.i r) refl
    where
      whose : is_of_room room.name line ≡ nat_eq k.i r
      whose = is-own last rooms n line more k differ r room at

      by : (b : Bool) → nat_eq k.i r ≡ b → IsAfter n (line ∷ rest) room final
      by true e = here (eqb-true k.i r e) (whose ∙ e)
      by false e = elsewhere (eqb-false k.i r e) (whose ∙ e)

own-behind : (last : ℕ) (rooms : List RoomSession) (n : ℕ) (lines : List (List ℕ)) (end : List RoomSession) → NamesDiffer (names_in rooms) → rooms_behind last rooms n lines ≡ Ok end
    → (r : ℕ) (room final : RoomSession) → slice_get rooms r ≡ Some room → slice_get end r ≡ Some final → IsAfter n lines room final
unfolding rooms_behind
own-behind last rooms n [] end differ h r room final at there =
    let same : rooms ≡ end = cc in
    let one : room ≡ final = some-same room final (sym at ∙ ap (λ l. slice_get l r) same ∙ there) in
    subst (IsAfter n [] room) one (none-after n room)
own-behind last rooms n (line ∷ rest) end differ h r room final at there =
    let a = then-ok (at_line n (room_line last rooms n line)) _ end h in
    let k = is-read last rooms n line a.0 (line-ok n (room_line last rooms n line) a.0 a.1) in
    let differ_more : NamesDiffer (names_in a.0) = subst NamesDiffer (sym (same-names last rooms n line a.0 k)) differ in
    one-line last rooms a.0 n line rest k differ r room final at (λ x put. own-behind last a.0 (n + 1) rest end differ_more a.2 r x final put there)

names-behind : (last : ℕ) (rooms : List RoomSession) (n : ℕ) (lines : List (List ℕ)) (end : List RoomSession) → rooms_behind last rooms n lines ≡ Ok end → names_in end ≡ names_in rooms
unfolding rooms_behind
names-behind last rooms n [] end h = let same : rooms ≡ end = cc in ap names_in (sym same)
names-behind last rooms n (line ∷ rest) end h =
    let a = then-ok (at_line n (room_line last rooms n line)) _ end h in
    let k = is-read last rooms n line a.0 (line-ok n (room_line last rooms n line) a.0 a.1) in
    names-behind last a.0 (n + 1) rest end a.2 ∙ same-names last rooms n line a.0 k

-- ---- the file

name_of : RoomSession → List ℕ
name_of room = room.name

module _ (line : List ℕ) (names lines : List (List ℕ)) (listed : rooms_line line ≡ Ok names) (heads rooms : List RoomSession) (all : AllOpened names lines heads)
    (behind : rooms_behind (last_head (length names) + MAX_OPS) heads (last_head (length names) + 1) (drop (3 * length names) lines) ≡ Ok rooms) where
  as-many : length rooms ≡ length names
  unfolding name_of
  as-many = sym (length-map rooms name_of) ∙ ap length (names-behind _ heads _ _ rooms behind ∙ all.named)

  behind-line : (k : ℕ) → drop (k + 1) (line ∷ lines) ≡ drop k lines
  behind-line k = rw (add-one k) refl

  own-room : (r : ℕ) (room : RoomSession) → slice_get rooms r ≡ Some room → IsOfOwnLines (line ∷ lines) (length rooms) r room
  unfolding name_of
  own-room r room at =
      let named : slice_get (names_in heads) r ≡ Some room.name = ap (λ l. slice_get l r) (sym (names-behind _ heads _ _ rooms behind)) ∙ map-get name_of rooms r room at in
      let first = map-got name_of heads r room.name named in
      let o = first.0 in
      let head = all.each r o first.1 in
      let differ : NamesDiffer (names_in heads) = subst NamesDiffer (sym all.named) (line-differs line names listed) in
      let after = own-behind (last_head (length names) + MAX_OPS) heads (last_head (length names) + 1) (drop (3 * length names) lines) rooms differ behind r o room first.1 at in
      let three : HeadIs Plain (take 3 (drop (3 * r) lines)) (Ok o.session.head) = head-three (drop (3 * r) lines) (Ok o.session.head) head.head in
      let here : HeadIs Plain (take 3 (drop (3 * r) lines)) (Ok room.session.head) = subst (λ h. HeadIs Plain (take 3 (drop (3 * r) lines)) (Ok h)) (sym after.head) three in
      let behind_heads : drop (last_head (length rooms)) (line ∷ lines) ≡ drop (3 * length names) lines = behind-line (3 * length rooms) ∙ ap (λ n. drop (3 * n) lines) as-many in
      let none : [] ≡ o.session.lines = sym head.none in
      let count : length rooms ≡ length names = as-many in
      let all_later : room.session.lines ≡ after.later = after.ops ∙ ap (λ l. l ++ after.later) head.none in
      record {
        head = subst (λ ls. HeadIs Plain (take 3 ls) (Ok room.session.head)) (sym (behind-line (3 * r))) here;
        ops = (λ i. own_ops (after.head i).schema.spec (after.head i).clients (none i) (own_lines (after.name i) (last_head (count i) + 1) (behind_heads i))) ∙ after.read ∙ ap Ok (sym all_later);
      }

abbrev as_rooms : List RoomSession → Result (List RoomSession) Refusal
as_rooms rooms = Ok rooms

of-rooms : (lines : List (List ℕ)) (rooms : List RoomSession) → RoomsOf lines (Ok rooms) → (r : ℕ) (room : RoomSession) → slice_get rooms r ≡ Some room → IsOfOwnLines lines (length rooms) r room
of-rooms [] rooms h r room at = absurd (cc)
of-rooms (line ∷ lines) rooms h r room at = by (rooms_line line) refl h
  where
    heads : (names : List (List ℕ)) → rooms_line line ≡ Ok names → (hs : Result (List RoomSession) Refusal) → AreOpened names 1 lines hs
        → as_rooms rooms ≡ all_behind (length names) hs (drop (3 * length names) lines) → IsOfOwnLines (line ∷ lines) (length rooms) r room
    heads names e (Err refusal) o k = absurd (cc)
    heads names e (Ok hs) o k = own-room line names lines e hs rooms (all-opened names 1 lines hs o) (sym k) r room at

    by : (names : Result (List (List ℕ)) Code) → rooms_line line ≡ names → BehindNames names lines (Ok rooms) → IsOfOwnLines (line ∷ lines) (length rooms) r room
    by (Err code) e k = absurd (cc)
    by (Ok names) e k = heads names e k.0 k.1 k.2

pub rooms-own : (input : List ℕ) (rooms : List RoomSession) → RoomsAre input (Ok rooms) → AreOfOwnLines input rooms
rooms-own input rooms h = by (nat_lt MAX_INPUT (length input)) h
  where
    by : (b : Bool) → MatchBool b (as_rooms rooms ≡ Err (refused 0 InputTooLong)) (RoomsOf (lines_of input) (Ok rooms)) → AreOfOwnLines input rooms
    by true h = absurd (cc)
    by false h = of-rooms (lines_of input) rooms h

-- what is read holds
one-holds : (lines : List (List ℕ)) (count r : ℕ) (room : RoomSession) → IsOfOwnLines lines count r room → Holds room.session
one-holds lines count r room h =
    let good = head-good Plain (take 3 (drop (3 * r + 1) lines)) room.session.head h.head in
    record {
      valid = good.0;
      some = good.1.0;
      few = good.1.1;
      suit = own-suit room.session.head.schema.spec room.session.head.clients good.2 [] (own_lines room.name (last_head count + 1) (drop (last_head count) lines)) room.session.lines h.ops;
    }

pub rooms-hold : (input : List ℕ) (rooms : List RoomSession) → RoomsAre input (Ok rooms) → AllHold rooms
rooms-hold input rooms h =
    all-at (λ (room : RoomSession). Holds room.session) rooms (λ r room at. one-holds (lines_of input) (length rooms) r room (rooms-own input rooms h r room at))

pub read-own : (input : List ℕ) (r : Result (Vec RoomSession Global) SessionError) → Reads (λ v. v.items) (RoomsAre input) r → IfOk r (λ v. AreOfOwnLines input v.items)
read-own input (Ok v) h = rooms-own input v.items h
read-own input (Err e) h = tt

pub read-hold : (input : List ℕ) (r : Result (Vec RoomSession Global) SessionError) → Reads (λ v. v.items) (RoomsAre input) r → IfOk r (λ v. AllHold v.items)
read-hold input (Ok v) h = rooms-hold input v.items h
read-hold input (Err e) h = tt

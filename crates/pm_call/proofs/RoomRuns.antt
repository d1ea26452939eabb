-- Rooms that were played on threads: what is told of each is a run of its session.
use Rattle.std.proofs.Common.{◌≡◌, ◌<◌, ◌≤◌, ℕ, suc, List, [], ◌∷◌, length, map, refl, ap, subst, sym, ◌∙◌, string_bytes}
use Rattle.std.specs.Prelude.{Bool, String, Result, Ok, Err, IfOk, All}
use Rattle.std.specs.declared.alloc.AllocError.{AllocError}
use Rattle.std.specs.declared.alloc.Global.{Global}
use Rattle.std.proofs.lemmas.List.{length-map}
use Rattle.std.proofs.lemmas.List.Elements.{All-nil, All-cons, All-head, All-tail}
use Rattle.pm_tokens.specs.Tokens.{Doc}
use Rattle.pm_schema.specs.declared.schema.Schema.{Schema}
use Rattle.pm_meaning.specs.Steps.{Step}
use Rattle.pm_meaning.specs.declared.reason.Reason.{Reason}
use Rattle.pm_apply.specs.Changes.{meaning}
use Rattle.pm_head.specs.Clients.{raw_flags}
use Rattle.pm_ops.specs.declared.op.Op.{Op}
use Rattle.pm_session.specs.declared.line.Line.{Line}
use Rattle.pm_session.specs.Events.{state_of}
use Rattle.pm_session.specs.Sessions.{opened, session}
use Rattle.pm_session.specs.Sounds.{Sound}
use Rattle.pm_session.specs.Suits.{LinesSuit}
use Rattle.pm_session.proofs.Openings.{opened-suits}
use Rattle.pm_script.specs.declared.rooms.RoomSession.{RoomSession}
use Rattle.pm_script.specs.Held.{Holds}
use Rattle.pm_script.specs.OwnLines.{AllHold}
use Rattle.pm_rooms.specs.declared.new_room.NewRoom.{NewRoom}
use Rattle.pm_rooms.specs.Handed.{Matched}
use Rattle.pm_rooms.specs.Opened.{CanOpen}
use Rattle.pm_rooms.specs.Played.{RoomIsOrderly}
use Rattle.pm_making.specs.Making.{makes}
use Rattle.pm_call.specs.Handing.{PlayedRoom, Opening, entry_of, opening_in, opening_of, EntriesTold}
use Rattle.pm_call.specs.RoomRuns.{AreRun}
use Rattle.pm_call.specs.Running.{IsRun, IsTold}
use Rattle.pm_call.proofs.Runs.{run-from}

abbrev pub Room : Type 0
Room = NewRoom Step Op Schema Doc Reason

abbrev pub Orderly : Room → PlayedRoom → Type 0
Orderly room t = RoomIsOrderly meaning (λ (schema : Schema) (doc : Doc) (op : Op). makes schema doc op) room t

-- the room that was played is sound
abbrev pub IsSound : PlayedRoom → Type 0
IsSound t = Sound meaning t.rules (state_of t.room)

abbrev HoldsIn : RoomSession → Type 0
HoldsIn room = Holds room.session

-- ---- rooms can be opened

can-one : (room : RoomSession) (new : Room) → opening_of new ≡ opening_in room → Holds room.session → CanOpen meaning new
can-one room new e held =
    let s = room.session in
    let rules : new.rules ≡ room.session.head.schema = ap (λ (o : Opening). o.schema) e in
    let doc : new.doc ≡ room.session.head.doc = ap (λ (o : Opening). o.doc) e in
    let raw : new.raw.items ≡ raw_flags room.session.head.clients = ap (λ (o : Opening). o.raw) e in
    let lines : new.lines.items ≡ room.session.lines = ap (λ (o : Opening). o.lines) e in
    let count : length (raw_flags room.session.head.clients) ≡ length room.session.head.clients = length-map s.head.clients (λ c. c.raw) in
    let counted : length new.raw.items ≡ length room.session.head.clients = ap (λ (bs : List Bool). length bs) raw ∙ count in
    let suits = opened-suits Schema Doc Reason Step s.head.doc (raw_flags s.head.clients) s.lines held.suit in
    let by_lines = subst (λ (ls : List (Line Op Step)). LinesSuit {Rules = Schema} {Doc = Doc} {Reason = Reason} (opened s.head.doc (raw_flags s.head.clients)) ls) (sym lines) suits in
    let by_raw = subst (λ (bs : List Bool). LinesSuit {Rules = Schema} {Doc = Doc} {Reason = Reason} (opened s.head.doc bs) new.lines.items) (sym raw) by_lines in
    record {
      good = subst (λ (r : Schema). meaning.is_good r new.doc) (sym rules) (subst (λ (d : Doc). meaning.is_good s.head.schema d) (sym doc) held.valid);
      some = subst (λ (n : ℕ). 0 < n) (sym counted) held.some;
      few = subst (λ (n : ℕ). n ≤ 32) (sym counted) held.few;
      suit = subst (λ (d : Doc). LinesSuit {Rules = Schema} {Doc = Doc} {Reason = Reason} (opened d new.raw.items) new.lines.items) (sym doc) by_raw;
    }

pub can-open : (rooms : List RoomSession) (news : List Room) → map opening_of news ≡ map opening_in rooms → AllHold rooms → All (λ (room : Room). CanOpen meaning room) news
can-open [] [] e held = All-nil (λ (room : Room). CanOpen meaning room)
can-open [] (n ∷ ns) e held = absurd (cc)
can-open (r ∷ rs) [] e held = absurd (cc)
can-open (r ∷ rs) (n ∷ ns) e held =
    let one : opening_of n ≡ opening_in r = cc in
    let rest : map opening_of ns ≡ map opening_in rs = cc in
    All-cons (λ (room : Room). CanOpen meaning room) n ns (can-one r n one (All-head HoldsIn r rs held)) (can-open rs ns rest (All-tail HoldsIn r rs held))

-- ---- what was played

pub all-sound : (news : List Room) (ts : List PlayedRoom) → Matched Orderly news ts → All IsSound ts
all-sound [] [] m = All-nil IsSound
all-sound [] (t ∷ ts) m = absurd m
all-sound (n ∷ ns) [] m = absurd m
all-sound (n ∷ ns) (t ∷ ts) m = All-cons IsSound t ts m.0.sound (all-sound ns ts m.1)

-- as many were played as there are rooms
pub as-many : (rooms : List RoomSession) (news : List Room) (ts : List PlayedRoom) → map opening_of news ≡ map opening_in rooms → Matched Orderly news ts
    → length (map entry_of rooms) ≡ length ts
as-many [] [] [] e m = refl
as-many [] [] (t ∷ ts) e m = absurd m
as-many [] (n ∷ ns) ts e m = absurd (cc)
as-many (r ∷ rs) [] ts e m = absurd (cc)
as-many (r ∷ rs) (n ∷ ns) [] e m = absurd m
as-many (r ∷ rs) (n ∷ ns) (t ∷ ts) e m = let rest : map opening_of ns ≡ map opening_in rs = cc in ap suc (as-many rs ns ts rest m.1)

run-one : (room : RoomSession) (new : Room) (t : PlayedRoom) (part : List ℕ) → Holds room.session → opening_of new ≡ opening_in room → Orderly new t
    → IsTold room.session.head.clients t.rules t.lines.items t.outcomes.items (state_of t.room) part → IsRun room.session part
run-one room new t part held e o told =
    let rules : new.rules ≡ room.session.head.schema = ap (λ (o : Opening). o.schema) e in
    let doc : new.doc ≡ room.session.head.doc = ap (λ (o : Opening). o.doc) e in
    let raw : new.raw.items ≡ raw_flags room.session.head.clients = ap (λ (o : Opening). o.raw) e in
    let lines : new.lines.items ≡ room.session.lines = ap (λ (o : Opening). o.lines) e in
    let suit = subst (λ (d : Doc). LinesSuit {Rules = Schema} {Doc = Doc} {Reason = Reason} (opened d new.raw.items) t.lines.items) doc o.suit in
    let plays = subst (λ (d : Doc). (t.outcomes.items, state_of t.room) ≡ session meaning t.rules (makes t.rules) (opened d new.raw.items) t.lines.items) doc o.plays in
    run-from room.session t.order.items t.lines.items t.outcomes.items (state_of t.room) t.rules new.raw.items room.session.head.clients new.lines.items part
    held.valid raw refl lines (o.rules ∙ rules) o.lines o.order o.once suit plays told

are-run : (rooms : List RoomSession) (news : List Room) (ts : List PlayedRoom) (text : List ℕ) → AllHold rooms → map opening_of news ≡ map opening_in rooms
    → Matched Orderly news ts → EntriesTold (map entry_of rooms) ts text → AreRun rooms text
are-run [] [] [] text held e m told = told
are-run [] [] (t ∷ ts) text held e m told = absurd m
are-run [] (n ∷ ns) ts text held e m told = absurd (cc)
are-run (r ∷ rs) [] ts text held e m told = absurd (cc)
are-run (r ∷ rs) (n ∷ ns) [] text held e m told = absurd m
are-run (r ∷ rs) (n ∷ ns) (t ∷ ts) text held e m told =
    let one : opening_of n ≡ opening_in r = cc in
    let rest : map opening_of ns ≡ map opening_in rs = cc in
    (told.0, told.1, run-one r n t told.0 (All-head HoldsIn r rs held) one m.0 told.2, are-run rs ns ts told.1 (All-tail HoldsIn r rs held) rest m.1 told.3, told.4)

-- the same, where memory may have run out
pub are-run-in : (rooms : List RoomSession) (news : List Room) (ts : List PlayedRoom) (r : Result (String Global) AllocError) → AllHold rooms
    → map opening_of news ≡ map opening_in rooms → Matched Orderly news ts
    → IfOk r (λ s. EntriesTold (map entry_of rooms) ts (string_bytes s)) → IfOk r (λ s. AreRun rooms (string_bytes s))
are-run-in rooms news ts (Err error) held e m told = told
are-run-in rooms news ts (Ok s) held e m told = are-run rooms news ts (string_bytes s) held e m told

-- People that share the stands and the lines of rooms just opened are ready to play.
use Rattle.std.specs.List.{AllByRecursion as Each}
use Rattle.std.proofs.Common.{◌≡◌, ◌⊎◌, inl, inr, ℕ, zero, suc, ◌+◌, ◌<◌, List, [], ◌∷◌, length, map, get_or, slice_get, Some, All, refl, sym, ap, ◌∙◌, subst, arith}
use Rattle.std.proofs.lemmas.Option.{slice_get_within, get_or_from_slice_get, slice_get-get_or}
use mathlib.Core.Logic.{dite}
use native.Mathlib.Decide.{ℕ_discrete}
use Rattle.pm_change.specs.Changes.{Meaning}
use Rattle.pm_authority.specs.declared.authority.Authority.{Authority}
use Rattle.pm_authority.specs.declared.machine.Request.{Request}
use Rattle.pm_desk.specs.Desks.{DeskValue}
use Rattle.pm_session.specs.declared.line.Line.{Line}
use Rattle.pm_session.specs.Sessions.{new_members}
use Rattle.pm_workers.specs.Seatings.{seats_for}
use Rattle.pm_workers.specs.Threads.{own_lines}
use Rattle.pm_workers.specs.Worked.{IsReady}
use Rattle.pm_workers.proofs.Interleaved.{member-at}
use Rattle.pm_workers.proofs.Readying.{new-count, clients-within, ready-at}
use Rattle.pm_workers.proofs.Unused.{one-of, seats-count}
use Rattle.pm_rooms.specs.declared.line.RoomLine.{RoomLine}
use Rattle.pm_rooms.specs.declared.new_room.NewRoom.{NewRoom}
use Rattle.pm_rooms.specs.declared.person.Person.{Person}
use Rattle.pm_rooms.specs.declared.stand.Stand.{Stand}
use Rattle.pm_rooms.specs.Handed.{handed, Matched}
use Rattle.pm_rooms.specs.Lines.{lines_in}
use Rattle.pm_rooms.specs.Opened.{person_of, line_person, stand_person, all_stands, CanOpen, IsDeskOf}
use Rattle.pm_rooms.specs.People.{IsPersonReady}
use Rattle.pm_rooms.specs.Shared.{IsPersonOf}
use Rattle.pm_rooms.specs.Stands.{IsPlayedBy, HasStand, StandsDiffer, stand_lines}
use Rattle.pm_rooms.proofs.Dealt.{at-matched, matched-length, handed-here, handed-there}
use Rattle.pm_rooms.proofs.Lines.{lines-here, lines-there}
use Rattle.pm_rooms.proofs.Newcomers.{IsNew, all-new, all-differ, new-there}
use Rattle.pm_rooms.proofs.Shares.{each-at, each-handed, handed-for, handed-all, differ-handed, differ-at, Others}
use Rattle.pm_rooms.proofs.StandLines.{played-or-not, stand-here, stand-there}

-- what is so of all items is so of the one at a place
pub all-at : {A : Type 0} (P : A → Type 0) (xs : List A) → All P xs → (k : ℕ) (x : A) → slice_get xs k ≡ Some x → P x
all-at P xs h k x at = subst P (get_or_from_slice_get xs k x x at) (h k x (slice_get_within xs k x at))

pub at-all : {A : Type 0} (P : A → Type 0) (xs : List A) → ((k : ℕ) (x : A) → slice_get xs k ≡ Some x → P x) → All P xs
at-all P xs h k e lt = h k (get_or xs k e) (slice_get-get_or xs k e lt)

pub all-each : {A : Type 0} (P : A → Type 0) (xs : List A) → All P xs → Each P xs
all-each P [] h = tt
all-each P (x ∷ xs) h = (h 0 x (omega arith), all-each P xs (λ k e lt. h (suc k) e (omega (arith, lt))))

module _ {Rules Doc Reason C Op : Type 0} (who : RoomLine Op C → ℕ) (x : Stand C Rules Doc Reason) (i : ℕ) (only : (line : RoomLine Op C) → IsPlayedBy x line → who line ≡ i) where
  -- who gets all lines of a stand gets the stand's own lines
  pub own-handed : (lines : List (RoomLine Op C)) → stand_lines x (handed i (map who lines) lines) ≡ stand_lines x lines
  own-handed [] = refl
  own-handed (line ∷ lines) = dite (ℕ_discrete (who line) i)
      (λ e. ap (stand_lines x) (handed-here i (who line) (map who lines) line lines e) ∙ by-case (own-handed lines) (played-or-not x line))
      (λ ne. ap (stand_lines x) (handed-there i (who line) (map who lines) line lines ne) ∙ own-handed lines ∙ sym (stand-there x line lines (λ h. ne (only line h))))
    where
      by-case : stand_lines x (handed i (map who lines) lines) ≡ stand_lines x lines → IsPlayedBy x line ⊎ (IsPlayedBy x line → ⊥) → stand_lines x (line ∷ handed i (map who lines) lines) ≡ stand_lines x (line ∷ lines)
      by-case more (inl h) = stand-here x line (handed i (map who lines) lines) h ∙ ap (λ l. line.line ∷ l) more ∙ sym (stand-here x line lines h)
      by-case more (inr other) = stand-there x line (handed i (map who lines) lines) other ∙ more ∙ sym (stand-there x line lines other)

-- a line of a room is one of the room's lines
line-in : {Op C : Type 0} (n : ℕ) (lines : List (RoomLine Op C)) (k : ℕ) (line : RoomLine Op C) → slice_get lines k ≡ Some line → All (λ l. l.client < n) (lines_in line.room lines) → line.line.client < n
line-in n [] k line at h = absurd (cc)
line-in {Op} {C} n (l ∷ lines) zero line at h =
    let e : l ≡ line = one-of l line at in
    subst (λ (z : RoomLine Op C). z.line.client < n) e
    (subst (λ (q : List (Line Op C)). All (λ (y : Line Op C). y.client < n) q) (lines-here line.room l lines (ap (λ (z : RoomLine Op C). z.room) e)) h 0 l.line (omega arith))
line-in {Op} {C} n (l ∷ lines) (suc k) line at h = dite (ℕ_discrete l.room line.room)
    (λ e. line-in n lines k line at (λ j d lt. subst (λ (q : List (Line Op C)). All (λ (y : Line Op C). y.client < n) q) (lines-here line.room l lines e) h (suc j) d (omega (arith, lt))))
    (λ ne. line-in n lines k line at (subst (λ (q : List (Line Op C)). All (λ (y : Line Op C). y.client < n) q) (lines-there line.room l lines ne) h))

module _ {Rules Doc Reason C Op : Type 0} (m : Meaning Rules Doc Reason C) (rooms : List (NewRoom C Op Rules Doc Reason)) (desks : List (DeskValue (Authority C Rules Doc Reason) Rules))
    (people : List (List ℕ)) (lines : List (RoomLine Op C)) (can : All (λ room. CanOpen m room) rooms) (desks_are : Matched (λ room d. IsDeskOf m room d) rooms desks)
    (of_rooms : (r : ℕ) (room : NewRoom C Op Rules Doc Reason) → slice_get rooms r ≡ Some room → lines_in r lines ≡ room.lines.items)
    (within : All (λ line. line.room < length rooms) lines) where
  abbrev all : List (Stand C Rules Doc Reason)
  all = all_stands 0 rooms desks

  desk-of : (r : ℕ) (room : NewRoom C Op Rules Doc Reason) (d : DeskValue (Authority C Rules Doc Reason) Rules) → slice_get rooms r ≡ Some room → slice_get desks r ≡ Some d → IsDeskOf m room d
  desk-of r room d at desk_at = at-matched (λ room d. IsDeskOf m room d) rooms desks desks_are r room d at desk_at

  -- each stand is ready for its own of all lines
  pub new-ready : (x : Stand C Rules Doc Reason) → IsNew 0 rooms desks x → (d : DeskValue (Authority C Rules Doc Reason) Rules) → slice_get desks x.room ≡ Some d
      → IsReady m d (stand_lines x lines) x.member x.seat []
  new-ready x n d at =
      let r : x.room ≡ n.r = omega (arith, n.room_is) in
      let same : n.d ≡ d = one-of n.d d (sym n.desk_at ∙ sym (ap (slice_get desks) r) ∙ at) in
      let own : own_lines x.client n.room.lines.items ≡ stand_lines x lines = ap (own_lines x.client) (sym (of_rooms n.r n.room n.at)) ∙ ap (λ j. own_lines x.client (lines_in j lines)) (sym r) in
      subst (λ l. IsReady m d l x.member x.seat []) own
      (subst (λ c. IsReady m c (own_lines x.client n.room.lines.items) x.member x.seat []) same
      (ready-at m n.d n.room.doc n.room.raw.items n.room.lines.items (desk-of n.r n.room n.d n.at n.desk_at).opening (all-at (λ room. CanOpen m room) rooms can n.r n.room n.at).suit x.client x.member x.seat n.member_at n.seat_at))

  -- each line has a stand
  line-stand : (k : ℕ) (line : RoomLine Op C) → slice_get lines k ≡ Some line → (j : ℕ) × (x : Stand C Rules Doc Reason) × (slice_get all j ≡ Some x) × IsPlayedBy x line
  line-stand k line at =
      let f = member-at rooms line.room (all-at (λ (l : RoomLine Op C). l.room < length rooms) lines within k line at) in
      let room = f.0 in
      let lt : line.room < length desks = subst (λ n. line.room < n) (sym (matched-length (λ room d. IsDeskOf m room d) rooms desks desks_are)) (slice_get_within rooms line.room room f.1) in
      let e = member-at desks line.room lt in
      let suit = (all-at (λ room. CanOpen m room) rooms can line.room room f.1).suit in
      let n = length room.raw.items in
      let client : line.line.client < n =
      line-in n lines k line at (subst (λ (q : List (Line Op C)). All (λ (y : Line Op C). y.client < n) q) (sym (of_rooms line.room room f.1)) (clients-within Rules Doc Reason C room.doc room.raw.items room.lines.items suit)) in
      let x = member-at (new_members {Rules = Rules} {Reason = Reason} {C = C} room.doc 0 room.raw.items) line.line.client (subst (λ c. line.line.client < c) (sym (new-count Rules Doc Reason C room.doc room.raw.items)) client) in
      let s = member-at (seats_for {Q = Request C} e.0 n) line.line.client (subst (λ c. line.line.client < c) (sym (seats-count (Request C) e.0 n)) client) in
      let t = new-there 0 rooms desks line.room room e.0 line.line.client x.0 s.0 f.1 e.1 x.1 s.1 in
      let z : 0 + line.room ≡ line.room = omega arith in
      (t.0, record { room = 0 + line.room; client = line.line.client; member = x.0; seat = s.0 }, t.1, record { room = z; client = refl })

  module _ (i : ℕ) (p : Person C Op Rules Doc Reason) (h : IsPersonOf people all lines i p) where
    abbrev mine : List (Stand C Rules Doc Reason)
    mine = handed i (map (λ x. stand_person people x) all) all

    abbrev due : List (RoomLine Op C)
    due = handed i (map (λ line. line_person people line) lines) lines

    pub mine-new : (j : ℕ) (x : Stand C Rules Doc Reason) → slice_get p.stands.items j ≡ Some x → IsNew 0 rooms desks x
    mine-new j x at = each-at (λ x. IsNew 0 rooms desks x) mine (each-handed (λ x. IsNew 0 rooms desks x) i (map (λ x. stand_person people x) all) all (all-new 0 rooms desks)) j x
        (subst (λ l. slice_get l j ≡ Some x) h.stands_are at)

    -- a stand of the person's has all its own lines
    pub own-due : (j : ℕ) (x : Stand C Rules Doc Reason) → slice_get p.stands.items j ≡ Some x → stand_lines x p.lines.items ≡ stand_lines x lines
    own-due j x at =
        let for_me : stand_person people x ≡ i = each-at (λ x. stand_person people x ≡ i) mine (handed-for (λ x. stand_person people x) i all) j x (subst (λ l. slice_get l j ≡ Some x) h.stands_are at) in
        ap (stand_lines x) h.lines_are ∙ own-handed (λ line. line_person people line) x i
        (λ line by. ap (λ r. person_of people r line.line.client) (sym by.room) ∙ ap (person_of people x.room) (sym by.client) ∙ for_me) lines

    person-there : All (λ line. HasStand p.stands.items line) p.lines.items
    person-there = subst (λ l. All (λ line. HasStand p.stands.items line) l) (sym h.lines_are) (at-all (λ line. HasStand p.stands.items line) due (λ k line at. due-stand k line at))
      where
        due-stand : (k : ℕ) (line : RoomLine Op C) → slice_get due k ≡ Some line → HasStand p.stands.items line
        due-stand k line at =
            let for_me : line_person people line ≡ i = each-at (λ line. line_person people line ≡ i) due (handed-for (λ line. line_person people line) i lines) k line at in
            let one = each-at (λ line. HasStand all line) due (each-handed (λ line. HasStand all line) i (map (λ line. line_person people line) lines) lines
            (all-each (λ line. HasStand all line) lines (at-all (λ line. HasStand all line) lines (λ j l lat. let f = line-stand j l lat in record { place = f.0; stand = f.1; at = f.2; by = f.3 })))) k line at in
            let same : stand_person people one.stand ≡ i = ap (λ r. person_of people r one.stand.client) one.by.room ∙ ap (person_of people line.room) one.by.client ∙ for_me in
            let t = handed-all (λ x. stand_person people x) i all one.place one.stand one.at same in
            record { place = t.0; stand = one.stand; at = ap (λ l. slice_get l t.0) h.stands_are ∙ t.1; by = one.by }

    -- The person is ready to play.
    pub person-ready : IsPersonReady m desks p
    person-ready = record {
      stands = record {
        there = person-there;
        differ = subst (λ l. StandsDiffer l) (sym h.stands_are) (differ-at mine (differ-handed Others i (map (λ x. stand_person people x) all) all (all-differ 0 rooms desks)));
        desks_there = at-all (λ x. x.room < length desks) p.stands.items (λ j x at.
            let n = mine-new j x at in
            let lt : n.r < length desks = slice_get_within desks n.r n.d n.desk_at in
            omega (arith, lt, n.room_is));
        ready = λ j x d at desk_at. subst (λ l. IsReady m d l x.member x.seat []) (sym (own-due j x at)) (new-ready x (mine-new j x at) d desk_at);
      };
      none = h.none;
    }

-- What people did in their rooms is what each room's clients did.
use Rattle.std.specs.Prelude.{Result}
use Rattle.std.proofs.Common.{◌≡◌, ℕ, ◌+◌, ◌<◌, List, ◌++◌, length, take, drop, slice_get, Some, All, sym, ap, ap₂, ◌∙◌, subst, arith}
use Rattle.std.proofs.lemmas.Option.{slice_get_within}
use Rattle.pm_change.specs.Changes.{Meaning}
use Rattle.pm_change.specs.declared.no_step.NoStep.{NoStep}
use Rattle.pm_authority.specs.declared.authority.Authority.{Authority}
use Rattle.pm_authority.specs.declared.machine.Request.{Request}
use Rattle.pm_desk.specs.Desks.{DeskValue}
use Rattle.pm_session.specs.Sessions.{new_members}
use Rattle.pm_workers.specs.declared.worker.Worker.{Worker}
use Rattle.pm_workers.specs.Hired.{PlayedOwn, AllPlayed}
use Rattle.pm_workers.specs.Seatings.{seats_for}
use Rattle.pm_workers.specs.Threads.{own_lines}
use Rattle.pm_workers.specs.Worked.{Worked}
use Rattle.pm_workers.proofs.Interleaved.{member-at}
use Rattle.pm_workers.proofs.Readying.{new-count}
use Rattle.pm_workers.proofs.Unused.{seats-count}
use Rattle.pm_rooms.specs.declared.line.RoomLine.{RoomLine}
use Rattle.pm_rooms.specs.declared.new_room.NewRoom.{NewRoom}
use Rattle.pm_rooms.specs.declared.person.Person.{Person}
use Rattle.pm_rooms.specs.declared.stand.Stand.{Stand}
use Rattle.pm_rooms.specs.Handed.{Matched}
use Rattle.pm_rooms.specs.Lines.{lines_in}
use Rattle.pm_rooms.specs.Opened.{new_stands, all_stands, CanOpen, IsDeskOf}
use Rattle.pm_rooms.specs.Parted.{CanPart, IsParted}
use Rattle.pm_rooms.specs.People.{PersonFinished, PersonWorked}
use Rattle.pm_rooms.specs.Played.{StandPlayed}
use Rattle.pm_rooms.specs.Shared.{IsPersonOf}
use Rattle.pm_rooms.specs.Stands.{HasStand, stand_lines, stand_outcomes}
use Rattle.pm_rooms.proofs.Dealt.{matched-at, at-matched, matched-length, matched-front, matched-back}
use Rattle.pm_rooms.proofs.Newcomers.{IsNew}
use Rattle.pm_rooms.proofs.Readiness.{all-at, at-all, own-due, mine-new, person-ready}
use Rattle.pm_rooms.proofs.Shares.{stand-at, stands-count}

module _ {Rules Doc Reason C Op : Type 0} (m : Meaning Rules Doc Reason C) (rooms : List (NewRoom C Op Rules Doc Reason)) (desks : List (DeskValue (Authority C Rules Doc Reason) Rules))
    (people : List (List ℕ)) (lines : List (RoomLine Op C)) (can : All (λ room. CanOpen m room) rooms) (desks_are : Matched (λ room d. IsDeskOf m room d) rooms desks)
    (of_rooms : (r : ℕ) (room : NewRoom C Op Rules Doc Reason) → slice_get rooms r ≡ Some room → lines_in r lines ≡ room.lines.items)
    (within : All (λ line. line.room < length rooms) lines) (makes : Rules → Doc → Op → Result (List C) NoStep) (i : ℕ) (p q : Person C Op Rules Doc Reason)
    (h : IsPersonOf people (all_stands 0 rooms desks) lines i p) (f : PersonFinished m desks makes p q) (w : PersonWorked m desks makes p q) where
  -- what the stand at a place was, and that it is of the same client still
  record Stood (j : ℕ) (y : Stand C Rules Doc Reason) : Type 0 where
    x : Stand C Rules Doc Reason
    at : slice_get p.stands.items j ≡ Some x
    new : IsNew 0 rooms desks x
    room : y.room ≡ x.room
    client : y.client ≡ x.client

  stood : (j : ℕ) (y : Stand C Rules Doc Reason) → slice_get q.stands.items j ≡ Some y → Stood j y
  stood j y at =
      let e = member-at p.stands.items j (subst (λ n. j < n) w.count (slice_get_within q.stands.items j y at)) in
      let n = mine-new m rooms desks people lines can desks_are of_rooms within i p h j e.0 e.1 in
      let r : n.r ≡ e.0.room = omega (arith, n.room_is) in
      let one = f.stands.each j e.0 y n.d e.1 at (ap (slice_get desks) (sym r) ∙ n.desk_at) in
      record { x = e.0; at = e.1; new = n; room = one.room; client = one.client }

  -- the person's stands can be taken apart
  pub can-part : CanPart q
  can-part =
      let ready = (person-ready m rooms desks people lines can desks_are of_rooms within i p h).stands in
      record {
        there = subst (λ l. All (λ line. HasStand q.stands.items line) l) (ap (λ v. v.items) (sym f.lines)) (at-all (λ line. HasStand q.stands.items line) p.lines.items (λ k line at.
            let one = all-at (λ line. HasStand p.stands.items line) p.lines.items ready.there k line at in
            let e = member-at q.stands.items one.place (subst (λ n. one.place < n) (sym w.count) (slice_get_within p.stands.items one.place one.stand one.at)) in
            let s = stood one.place e.0 e.1 in
            let same : Some s.x ≡ Some one.stand = sym s.at ∙ one.at in
            let is : s.x ≡ one.stand = cc in
            record {
              place = one.place;
              stand = e.0;
              at = e.1;
              by = record {
                room = s.room ∙ ap (λ (z : Stand C Rules Doc Reason). z.room) is ∙ one.by.room;
                client = s.client ∙ ap (λ (z : Stand C Rules Doc Reason). z.client) is ∙ one.by.client;
              };
            }));
        differ = λ a b x y at_a at_b room client.
            let s = stood a x at_a in
            let t = stood b y at_b in
            ready.differ a b s.x t.x s.at t.at (sym s.room ∙ room ∙ t.room) (sym s.client ∙ client ∙ t.client);
        each = w.each_line ∙ ap (λ v. length v.items) (sym f.lines);
      }

  -- What a person's stands came to is what clients of the rooms did.
  pub stands-played : (ws : List (Worker C Op Rules Doc Reason)) → IsParted q ws → Matched (λ x v. StandPlayed m makes rooms desks x v) p.stands.items ws
  stands-played ws parted =
      matched-at (λ x v. StandPlayed m makes rooms desks x v) p.stands.items ws (parted.count ∙ w.count) (λ j x v at v_at room d room_at desk_at.
      let e = member-at q.stands.items j (subst (λ n. j < n) (sym w.count) (slice_get_within p.stands.items j x at)) in
      let y = e.0 in
      let part = parted.parts j y v e.1 v_at in
      let one = f.stands.each j x y d at e.1 desk_at in
      let did = w.each j x y d at e.1 desk_at in
      let own : stand_lines x p.lines.items ≡ own_lines x.client room.lines.items =
      own-due m rooms desks people lines can desks_are of_rooms within i p h j x at ∙ ap (own_lines x.client) (of_rooms x.room room room_at) in
      let same_lines : q.lines.items ≡ p.lines.items = ap (λ v. v.items) f.lines in
      let told : v.outcomes.items ≡ stand_outcomes x p.lines.items q.outcomes.items =
      part.outcomes_are ∙ ap₂ (λ a b. stand_outcomes (record y { room = a; client = b }) q.lines.items q.outcomes.items) one.room one.client
      ∙ ap (λ l. stand_outcomes x l q.outcomes.items) same_lines in
      record {
        lines_are = part.lines_are ∙ ap₂ (λ a b. stand_lines (record y { room = a; client = b }) q.lines.items) one.room one.client ∙ ap (stand_lines x) same_lines ∙ own;
        worked = subst (λ l. Worked m (makes d.opening.rules) d l x.member x.seat v.outcomes.items v.member v.seat) own
            (subst (λ o. Worked m (makes d.opening.rules) d (stand_lines x p.lines.items) x.member x.seat o v.member v.seat) (sym told)
            (subst (λ z. Worked m (makes d.opening.rules) d (stand_lines x p.lines.items) x.member x.seat (stand_outcomes x p.lines.items q.outcomes.items) z v.seat) (sym part.member)
            (subst (λ z. Worked m (makes d.opening.rules) d (stand_lines x p.lines.items) x.member x.seat (stand_outcomes x p.lines.items q.outcomes.items) y.member z) (sym part.seat) did)));
      })

module _ {Rules Doc Reason C Op : Type 0} (m : Meaning Rules Doc Reason C) (makes : Rules → Doc → Op → Result (List C) NoStep) (rooms : List (NewRoom C Op Rules Doc Reason))
    (desks : List (DeskValue (Authority C Rules Doc Reason) Rules)) (r : ℕ) (room : NewRoom C Op Rules Doc Reason) (d : DeskValue (Authority C Rules Doc Reason) Rules)
    (at : slice_get rooms r ≡ Some room) (desk_at : slice_get desks r ≡ Some d) (can : CanOpen m room) (desk_is : IsDeskOf m room d) where
  pub room-count : length (new_stands r room d) ≡ length room.raw.items
  room-count =
      stands-count r 0 (new_members room.doc 0 room.raw.items) (seats_for d (length room.raw.items)) (seats-count (Request C) d (length room.raw.items) ∙ sym (new-count Rules Doc Reason C room.doc room.raw.items))
      ∙ new-count Rules Doc Reason C room.doc room.raw.items

  -- the workers of a room that stand before those of later rooms
  pub room-played : (later : List (Stand C Rules Doc Reason)) (workers : List (Worker C Op Rules Doc Reason)) → Matched (λ x v. StandPlayed m makes rooms desks x v) (new_stands r room d ++ later) workers
      → AllPlayed m makes d room.doc room.raw.items room.lines.items (take (length room.raw.items) workers)
  room-played later workers h =
      let n = length room.raw.items in
      let mine = subst (λ k. Matched (λ x v. StandPlayed m makes rooms desks x v) (new_stands r room d) (take k workers)) room-count (matched-front (λ x v. StandPlayed m makes rooms desks x v) (new_stands r room d) later workers h) in
      record {
        opening = desk_is.opening;
        some = can.some;
        suit = can.suit;
        count = matched-length (λ x v. StandPlayed m makes rooms desks x v) (new_stands r room d) (take n workers) mine ∙ room-count;
        each = λ i x s v x_at s_at v_at.
            let z : 0 + i ≡ i = omega arith in
            let one = at-matched (λ x v. StandPlayed m makes rooms desks x v) (new_stands r room d) (take n workers) mine i (record { room = r; client = 0 + i; member = x; seat = s }) v
            (stand-at r 0 (new_members room.doc 0 room.raw.items) (seats_for d n) i x s x_at s_at) v_at room d at desk_at in
            subst (λ j. PlayedOwn m makes d room.lines.items j x s v) z one;
      }

  pub later-played : (later : List (Stand C Rules Doc Reason)) (workers : List (Worker C Op Rules Doc Reason)) → Matched (λ x v. StandPlayed m makes rooms desks x v) (new_stands r room d ++ later) workers
      → Matched (λ x v. StandPlayed m makes rooms desks x v) later (drop (length room.raw.items) workers)
  later-played later workers h =
      subst (λ k. Matched (λ x v. StandPlayed m makes rooms desks x v) later (drop k workers)) room-count (matched-back (λ x v. StandPlayed m makes rooms desks x v) (new_stands r room d) later workers h)

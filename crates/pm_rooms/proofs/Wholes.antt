-- A whole session in rooms: what was opened is shared out, played, taken apart and dealt back.
use Rattle.std.specs.Prelude.{Result, slice_index_or}
use Rattle.std.proofs.Common.{◌≡◌, ℕ, ◌<◌, List, [], length, map, get_or, slice_get, Some, All, Vec, Global, sym, ap, ◌∙◌, subst}
use Rattle.std.proofs.lemmas.Option.{slice_get_within, get_or_from_slice_get}
use Rattle.pm_change.specs.Changes.{Meaning}
use Rattle.pm_change.specs.declared.no_step.NoStep.{NoStep}
use Rattle.pm_session.specs.declared.line.Line.{Line}
use Rattle.pm_workers.specs.declared.worker.Worker.{Worker}
use Rattle.pm_workers.specs.Threads.{dealt}
use Rattle.pm_workers.proofs.Interleaved.{member-at}
use Rattle.pm_workers.proofs.MergeLaws.{length-map, map-get}
use Rattle.pm_rooms.specs.declared.line.RoomLine.{RoomLine}
use Rattle.pm_rooms.specs.declared.new_room.NewRoom.{NewRoom}
use Rattle.pm_rooms.specs.declared.opening.Opened.{Opened}
use Rattle.pm_rooms.specs.declared.person.Person.{Person}
use Rattle.pm_rooms.specs.declared.sharing.Crowd.{Crowd}
use Rattle.pm_rooms.specs.Handed.{handed, Matched}
use Rattle.pm_rooms.specs.Lines.{lines_in}
use Rattle.pm_rooms.specs.Opened.{stand_person, all_stands, CanOpen}
use Rattle.pm_rooms.specs.Openings.{AreOpened}
use Rattle.pm_rooms.specs.Parted.{CanPart, IsParted}
use Rattle.pm_rooms.specs.People.{IsPersonReady, PersonFinished, PersonWorked}
use Rattle.pm_rooms.specs.Played.{StandPlayed}
use Rattle.pm_rooms.specs.Shared.{IsPersonOf, AreShared}
use Rattle.pm_rooms.proofs.Dealt.{at-matched, matched-length, dealt-matched}
use Rattle.pm_rooms.proofs.Endings.{can-part, stands-played}
use Rattle.pm_rooms.proofs.Readiness.{at-all, all-each, person-ready}

module _ {Rules Doc Reason C Op : Type 0} (m : Meaning Rules Doc Reason C) (rooms : List (NewRoom C Op Rules Doc Reason)) (can : All (λ room. CanOpen m room) rooms)
    (o : Opened C Op Rules Doc Reason) (opened : AreOpened m rooms o) (lines : List (RoomLine Op C))
    (of_lines : (r : ℕ) (own : Vec (Line Op C) Global) → slice_get o.lines.items r ≡ Some own → lines_in r lines ≡ own.items) (there : All (λ line. line.room < length o.lines.items) lines)
    (c : Crowd C Op Rules Doc Reason) (people : List (List ℕ)) (shared : AreShared people o.stands.items lines c) where
  of-rooms : (r : ℕ) (room : NewRoom C Op Rules Doc Reason) → slice_get rooms r ≡ Some room → lines_in r lines ≡ room.lines.items
  of-rooms r room at = of_lines r room.lines (ap (λ l. slice_get l r) opened.lines ∙ map-get (λ room. room.lines) rooms r room at)

  within : All (λ line. line.room < length rooms) lines
  within = subst (λ n. All (λ (line : RoomLine Op C). line.room < n) lines) (ap length opened.lines ∙ length-map (λ room. room.lines) rooms) there

  person-of : (i : ℕ) (p : Person C Op Rules Doc Reason) → slice_get c.people.items i ≡ Some p → IsPersonOf people (all_stands 0 rooms o.desks.items) lines i p
  person-of i p at = subst (λ l. IsPersonOf people l lines i p) opened.stands (shared.each i p at)

  pub people-ready : All (λ p. IsPersonReady m o.desks.items p) c.people.items
  people-ready = at-all (λ p. IsPersonReady m o.desks.items p) c.people.items (λ i p at. person-ready m rooms o.desks.items people lines can opened.desks of-rooms within i p (person-of i p at))

  module _ (makes : Rules → Doc → Op → Result (List C) NoStep) (new : List (Person C Op Rules Doc Reason)) (count : length new ≡ length c.people.items)
      (finished : (i : ℕ) (d : Person C Op Rules Doc Reason) → i < length c.people.items → PersonFinished m o.desks.items makes (slice_index_or c.people.items i d) (slice_index_or new i d))
      (worked : (i : ℕ) (d : Person C Op Rules Doc Reason) → i < length c.people.items → PersonWorked m o.desks.items makes (slice_index_or c.people.items i d) (slice_index_or new i d)) where
    record Before (i : ℕ) (q : Person C Op Rules Doc Reason) : Type 0 where
      p : Person C Op Rules Doc Reason
      at : slice_get c.people.items i ≡ Some p
      did : PersonFinished m o.desks.items makes p q
      work : PersonWorked m o.desks.items makes p q

    before : (i : ℕ) (q : Person C Op Rules Doc Reason) → slice_get new i ≡ Some q → Before i q
    before i q at =
        let lt : i < length c.people.items = subst (λ n. i < n) count (slice_get_within new i q at) in
        let e = member-at c.people.items i lt in
        let was : get_or c.people.items i e.0 ≡ e.0 = get_or_from_slice_get c.people.items i e.0 e.0 e.1 in
        let is : get_or new i e.0 ≡ q = get_or_from_slice_get new i q e.0 at in
        record {
          p = e.0;
          at = e.1;
          did = subst (λ a. PersonFinished m o.desks.items makes a q) was (subst (λ b. PersonFinished m o.desks.items makes (get_or c.people.items i e.0) b) is (finished i e.0 lt));
          work = subst (λ a. PersonWorked m o.desks.items makes a q) was (subst (λ b. PersonWorked m o.desks.items makes (get_or c.people.items i e.0) b) is (worked i e.0 lt));
        }

    pub all-can-part : All (λ p. CanPart p) new
    all-can-part = at-all (λ p. CanPart p) new (λ i q at.
        let b = before i q at in
        can-part m rooms o.desks.items people lines can opened.desks of-rooms within makes i b.p q (person-of i b.p b.at) b.did b.work)

    module _ (parted : List (Vec (Worker C Op Rules Doc Reason) Global)) (parts : Matched (λ p w. IsParted p w.items) new parted) where
      abbrev hands : List (List (Worker C Op Rules Doc Reason))
      hands = map (λ l. l.items) parted

      hands-count : length hands ≡ length c.people.items
      hands-count = length-map (λ l. l.items) parted ∙ matched-length (λ p w. IsParted p w.items) new parted parts ∙ count

      hand-matched : (i : ℕ) → i < length hands → Matched (λ x v. StandPlayed m makes rooms o.desks.items x v) (handed i c.turns.items o.stands.items) (get_or hands i [])
      hand-matched i lt =
          let e = member-at parted i (subst (λ n. i < n) (length-map (λ l. l.items) parted) lt) in
          let f = member-at new i (subst (λ n. i < n) (hands-count ∙ sym count) lt) in
          let b = before i f.0 f.1 in
          let h = person-of i b.p b.at in
          let one = stands-played m rooms o.desks.items people lines can opened.desks of-rooms within makes i b.p f.0 h b.did b.work e.0.items (at-matched (λ p w. IsParted p w.items) new parted parts i f.0 e.0 f.1 e.1) in
          let given : get_or hands i [] ≡ e.0.items = get_or_from_slice_get hands i e.0.items [] (map-get (λ l. l.items) parted i e.0 e.1) in
          let own : b.p.stands.items ≡ handed i c.turns.items o.stands.items =
          h.stands_are ∙ ap (λ l. handed i (map (λ x. stand_person people x) l) l) (sym opened.stands) ∙ ap (λ t. handed i t o.stands.items) (sym shared.turns) in
          subst (λ l. Matched (λ x v. StandPlayed m makes rooms o.desks.items x v) (handed i c.turns.items o.stands.items) l) (sym given)
          (subst (λ l. Matched (λ x v. StandPlayed m makes rooms o.desks.items x v) l e.0.items) own one)

      pub turns-within : All (λ turn. turn < length hands) c.turns.items
      turns-within = subst (λ n. All (λ turn. turn < n) c.turns.items) (sym hands-count) shared.within

      -- Dealt back, what became of the stands stands room by room again.
      pub all-dealt : Matched (λ x v. StandPlayed m makes rooms o.desks.items x v) (all_stands 0 rooms o.desks.items) (dealt c.turns.items hands)
      all-dealt =
          let long : length o.stands.items ≡ length c.turns.items = sym (ap length shared.turns ∙ length-map (λ x. stand_person people x) o.stands.items) in
          subst (λ l. Matched (λ x v. StandPlayed m makes rooms o.desks.items x v) l (dealt c.turns.items hands)) opened.stands
          (dealt-matched (λ x v. StandPlayed m makes rooms o.desks.items x v) c.turns.items o.stands.items hands long (all-each (λ turn. turn < length hands) c.turns.items turns-within) hand-matched)

-- One room after another is closed.
use Rattle.std.proofs.Common.{◌≡◌, ℕ, ◌+◌, ◌<◌, ◌≤◌, List, [], ◌∷◌, ◌++◌, length, take, drop, get_or, slice_get, Some, sym, ap, ap₂, ◌∙◌, subst, arith, length-append}
use Rattle.std.proofs.lemmas.List.{drop_more, take_more}
use Rattle.std.proofs.lemmas.Option.{slice_get_within, get_or_from_slice_get, slice_get-get_or}
use Rattle.pm_change.specs.Changes.{Meaning}
use Rattle.pm_authority.specs.declared.authority.Authority.{Authority}
use Rattle.pm_desk.specs.Desks.{DeskValue}
use Rattle.pm_workers.specs.declared.file.File.{File}
use Rattle.pm_workers.specs.declared.threaded.Threaded.{Threaded}
use Rattle.pm_workers.specs.declared.worker.Worker.{Worker}
use Rattle.pm_workers.specs.Hired.{AllPlayed, HasPlayed}
use Rattle.pm_workers.specs.Orderly.{IsOrderly}
use Rattle.pm_workers.proofs.Filing.{clients-count}
use Rattle.pm_workers.proofs.Interleaved.{member-at}
use Rattle.pm_workers.proofs.MergeLaws.{length-map}
use Rattle.pm_rooms.specs.declared.new_room.NewRoom.{NewRoom}
use Rattle.pm_rooms.specs.Handed.{Matched}
use Rattle.pm_rooms.specs.Opened.{new_stands, all_stands, CanOpen, IsDeskOf, IsRoomFile}
use Rattle.pm_rooms.specs.Played.{HallPlayed, StandPlayed, RoomIsOrderly}
use Rattle.pm_rooms.proofs.Dealt.{at-matched, matched-length, matched-push}
use Rattle.pm_rooms.proofs.Endings.{room-count, room-played, later-played}
use Rattle.pm_rooms.proofs.Readiness.{all-at}

module _ {Rules Doc Reason C Op : Type 0} (m : Meaning Rules Doc Reason C) (desks : List (DeskValue (Authority C Rules Doc Reason) Rules)) (files : List File)
    (workers : List (Worker C Op Rules Doc Reason)) (p : HallPlayed m desks files workers) (k : ℕ) (file : File) (at : slice_get files k ≡ Some file)
    (d : DeskValue (Authority C Rules Doc Reason) Rules) (desk_at : slice_get desks k ≡ Some d) (left : List (Worker C Op Rules Doc Reason))
    (played : Matched (λ x v. StandPlayed m p.makes p.rooms desks x v) (all_stands k (drop k p.rooms) (drop k desks)) left) where
  -- The room that is closed next.
  pub record OneRoom : Type 0 where
    pub room : NewRoom C Op Rules Doc Reason
    pub room_at : slice_get p.rooms k ≡ Some room
    pub can : CanOpen m room
    pub desk_is : IsDeskOf m room d
    pub file_is : IsRoomFile room file
    pub stands : all_stands k (drop k p.rooms) (drop k desks) ≡ new_stands k room d ++ all_stands (k + 1) (drop (k + 1) p.rooms) (drop (k + 1) desks)

  pub one-room : OneRoom
  one-room =
      let lt : k < length p.rooms = subst (λ n. k < n) (matched-length (λ room file. IsRoomFile room file) p.rooms files p.filed) (slice_get_within files k file at) in
      let e = member-at p.rooms k lt in
      let room = e.0 in
      let rooms_are : drop k p.rooms ≡ room ∷ drop (k + 1) p.rooms = drop_more p.rooms k room lt ∙ ap (λ r. r ∷ drop (k + 1) p.rooms) (get_or_from_slice_get p.rooms k room room e.1) in
      let desks_are : drop k desks ≡ d ∷ drop (k + 1) desks = drop_more desks k d (slice_get_within desks k d desk_at) ∙ ap (λ r. r ∷ drop (k + 1) desks) (get_or_from_slice_get desks k d d desk_at) in
      record {
        room = room;
        room_at = e.1;
        can = all-at (λ room. CanOpen m room) p.rooms p.can k room e.1;
        desk_is = at-matched (λ room d. IsDeskOf m room d) p.rooms desks p.desks_are k room d e.1 desk_at;
        file_is = at-matched (λ room file. IsRoomFile room file) p.rooms files p.filed k room file e.1 at;
        stands = ap₂ (λ a b. all_stands k a b) rooms_are desks_are;
      }

  next-played : Matched (λ x v. StandPlayed m p.makes p.rooms desks x v) (new_stands k one-room.room d ++ all_stands (k + 1) (drop (k + 1) p.rooms) (drop (k + 1) desks)) left
  next-played = subst (λ l. Matched (λ x v. StandPlayed m p.makes p.rooms desks x v) l left) one-room.stands played

  file-count : length file.places.items ≡ length one-room.room.raw.items
  file-count = sym (length-map (λ l. l.items) file.places.items) ∙ ap length one-room.file_is.places ∙ clients-count one-room.room.lines.items (length one-room.room.raw.items) 0

  -- the room's workers stand at the front
  pub hall-next : Matched (λ x v. StandPlayed m p.makes p.rooms desks x v) (all_stands (k + 1) (drop (k + 1) p.rooms) (drop (k + 1) desks)) (drop (length file.places.items) left)
  hall-next =
      let o = one-room in
      subst (λ n. Matched (λ x v. StandPlayed m p.makes p.rooms desks x v) (all_stands (k + 1) (drop (k + 1) p.rooms) (drop (k + 1) desks)) (drop n left)) (sym file-count)
      (later-played m p.makes p.rooms desks k o.room d o.room_at desk_at o.can o.desk_is (all_stands (k + 1) (drop (k + 1) p.rooms) (drop (k + 1) desks)) left next-played)

  pub own-played : AllPlayed m p.makes d one-room.room.doc one-room.room.raw.items one-room.room.lines.items (take (length file.places.items) left)
  own-played =
      let o = one-room in
      subst (λ n. AllPlayed m p.makes d o.room.doc o.room.raw.items o.room.lines.items (take n left)) (sym file-count)
      (room-played m p.makes p.rooms desks k o.room d o.room_at desk_at o.can o.desk_is (all_stands (k + 1) (drop (k + 1) p.rooms) (drop (k + 1) desks)) left next-played)

  -- The session that the room's workers played.
  abbrev pub has-played : (own : List (Worker C Op Rules Doc Reason)) → own ≡ take (length file.places.items) left → HasPlayed m d file own
  has-played own is = record {
    makes = p.makes;
    doc = one-room.room.doc;
    raw = one-room.room.raw.items;
    lines = one-room.room.lines.items;
    played = subst (λ l. AllPlayed m p.makes d one-room.room.doc one-room.room.raw.items one-room.room.lines.items l) (sym is) own-played;
    filed = one-room.file_is;
  }

  -- one more room is closed
  pub orderly-next : (t : Threaded C Op Rules Doc Reason) (done after : List (Threaded C Op Rules Doc Reason)) → Matched (λ room t. RoomIsOrderly m p.makes room t) (take k p.rooms) done
      → IsOrderly m p.makes d.opening.rules one-room.room.doc one-room.room.raw.items one-room.room.lines.items t → after ≡ done ++ t ∷ []
      → Matched (λ room t. RoomIsOrderly m p.makes room t) (take (k + 1) p.rooms) after
  orderly-next t done after before is grown =
      let o = one-room in
      let front : take (k + 1) p.rooms ≡ take k p.rooms ++ o.room ∷ [] =
      take_more p.rooms k o.room (slice_get_within p.rooms k o.room o.room_at) ∙ ap (λ r. take k p.rooms ++ r ∷ []) (get_or_from_slice_get p.rooms k o.room o.room o.room_at) in
      subst (λ l. Matched (λ room t. RoomIsOrderly m p.makes room t) l after) (sym front)
      (subst (λ l. Matched (λ room t. RoomIsOrderly m p.makes room t) (take k p.rooms ++ o.room ∷ []) l) (sym grown)
      (matched-push (λ room t. RoomIsOrderly m p.makes room t) (take k p.rooms) done o.room t before
      (subst (λ r. IsOrderly m p.makes r o.room.doc o.room.raw.items o.room.lines.items t) o.desk_is.rules is)))

  -- the room's workers are there
  pub fits : length file.places.items ≤ length left
  fits =
      let own = matched-length (λ x v. StandPlayed m p.makes p.rooms desks x v) (new_stands k one-room.room d ++ all_stands (k + 1) (drop (k + 1) p.rooms) (drop (k + 1) desks)) left next-played in
      let both = length-append (new_stands k one-room.room d) (all_stands (k + 1) (drop (k + 1) p.rooms) (drop (k + 1) desks)) in
      let mine = room-count m p.makes p.rooms desks k one-room.room d one-room.room_at desk_at one-room.can one-room.desk_is in
      let count = file-count in
      omega (arith, own, both, mine, count)

-- the item before what is left
pub front-drop : {A : Type 0} (xs : List A) (k : ℕ) (x : A) (rest : List A) → k < length xs → x ∷ rest ≡ drop k xs → (slice_get xs k ≡ Some x) × (rest ≡ drop (k + 1) xs)
front-drop xs k x rest lt is =
    let e : x ∷ rest ≡ get_or xs k x ∷ drop (k + 1) xs = is ∙ drop_more xs k x lt in
    let first : x ≡ get_or xs k x = cc in
    (slice_get-get_or xs k x lt ∙ ap Some (sym first), cc)

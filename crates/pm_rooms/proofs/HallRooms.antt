-- One room of a hall becomes another, and the others stay.
use Rattle.std.proofs.Common.{◌≡◌, ℕ, ◌<◌, length, map, slice_get, slice_set, slice_index_or, Some, refl, sym, ap, ◌∙◌, subst}
use Rattle.std.proofs.lemmas.Option.{slice_get_within}
use mathlib.Core.Logic.{dite}
use native.Mathlib.Decide.{ℕ_discrete}
use Rattle.pm_change.specs.Changes.{Meaning}
use Rattle.pm_client.proofs.Takings.{index-get}
use Rattle.pm_session.specs.Events.{State, state_of}
use Rattle.pm_session.specs.Sounds.{Sound}
use Rattle.pm_session.specs.declared.room.Room.{Room}
use Rattle.pm_workers.proofs.Interleaved.{member-at, set-elsewhere}
use Rattle.pm_workers.proofs.MergeLaws.{set-there, length-set, map-set, map-get, length-map}
use Rattle.pm_rooms.specs.declared.hall.Hall.{Hall}
use Rattle.pm_rooms.specs.Halls.{HallState, hall_of, HasRoom, OfRoom, RoomsStay, OthersStay, HallIsSound}

pub some-same : {A : Type 0} (x y : A) → Some x ≡ Some y → x ≡ y
some-same x y h = cc

module _ {Rules Doc Reason C : Type 0} where
  -- the hall with this room at place r
  abbrev pub changed : HallState C Rules Doc Reason → ℕ → State C Rules Doc Reason → HallState C Rules Doc Reason
  changed h r t = record h { rooms = slice_set h.rooms r t }

  -- the same, where the room is put into the list of a hall
  pub is-changed : (hall : Hall C Rules Doc Reason) (r : ℕ) (room : Room C Rules Doc Reason)
      → record (hall_of hall) { rooms = map state_of (slice_set hall.rooms.items r room) } ≡ changed (hall_of hall) r (state_of room)
  is-changed hall r room = ap (λ l. record (hall_of hall) { rooms = l }) (map-set state_of hall.rooms.items r room)

  -- a room that is read from the lists of a hall
  pub has-room : (hall : Hall C Rules Doc Reason) (r : ℕ) (rules : Rules) (room : Room C Rules Doc Reason) → r < length hall.rules.items → r < length hall.rooms.items
      → rules ≡ slice_index_or hall.rules.items r rules → room ≡ slice_index_or hall.rooms.items r room → HasRoom (hall_of hall) r rules (state_of room)
  has-room hall r rules room there within rules_is room_is = record {
    rules_at = index-get hall.rules.items r rules there ∙ ap Some (sym rules_is);
    room_at = map-get state_of hall.rooms.items r room (index-get hall.rooms.items r room within ∙ ap Some (sym room_is));
  }

  -- a place at which a hall has a room is one of its list
  pub room-within : (hall : Hall C Rules Doc Reason) (r : ℕ) (s : State C Rules Doc Reason) → slice_get (hall_of hall).rooms r ≡ Some s → r < length hall.rooms.items
  room-within hall r s at = subst (λ n. r < n) (length-map state_of hall.rooms.items) (slice_get_within (hall_of hall).rooms r s at)

  pub rules-within : (m : Meaning Rules Doc Reason C) (hall : Hall C Rules Doc Reason) (r : ℕ) → HallIsSound m (hall_of hall) → r < length hall.rooms.items → r < length hall.rules.items
  rules-within m hall r sound within = subst (λ n. r < n) (sym (sound.each ∙ length-map state_of hall.rooms.items)) within

  module _ (h : HallState C Rules Doc Reason) (r : ℕ) where
    pub of-changed : (rules : Rules) (s t : State C Rules Doc Reason) → HasRoom h r rules s → (P : Rules → State C Rules Doc Reason → State C Rules Doc Reason → Type 0)
        → P rules s t → OfRoom r h (changed h r t) P
    of-changed rules s t has P p other u v before after =
        let same : rules ≡ other = some-same rules other (sym has.rules_at ∙ before.rules_at) in
        let was : s ≡ u = some-same s u (sym has.room_at ∙ before.room_at) in
        let is : t ≡ v = some-same t v (sym (set-there h.rooms r t s has.room_at) ∙ after.room_at) in
        subst (λ x. P x u v) same (subst (λ x. P rules x v) was (subst (P rules s) is p))

    pub others-changed : (t : State C Rules Doc Reason) → OthersStay r h (changed h r t)
    others-changed t = record {
      stay = record { rules = refl; count = length-set h.rooms r t };
      others = λ i ne. set-elsewhere h.rooms r i t (λ e. ne (sym e));
    }

    pub sound-changed : (m : Meaning Rules Doc Reason C) (rules : Rules) (s t : State C Rules Doc Reason) → HallIsSound m h → HasRoom h r rules s → Sound m rules t
        → HallIsSound m (changed h r t)
    sound-changed m rules s t sound has keeps = record {
      each = sound.each ∙ sym (length-set h.rooms r t);
      sound = λ i other v at. dite (ℕ_discrete i r)
          (λ e.
          let same : rules ≡ other = some-same rules other (sym has.rules_at ∙ ap (slice_get h.rules) (sym e) ∙ at.rules_at) in
          let is : t ≡ v = some-same t v (sym (set-there h.rooms r t s has.room_at) ∙ ap (slice_get (slice_set h.rooms r t)) (sym e) ∙ at.room_at) in
          subst (λ x. Sound m x v) same (subst (Sound m rules) is keeps))
          (λ ne. sound.sound i other v (record { rules_at = at.rules_at; room_at = sym (set-elsewhere h.rooms r i t (λ e. ne (sym e))) ∙ at.room_at }));
    }

  -- The room that was read at place r, with its rules, became another and was put back.
  module _ (hall : Hall C Rules Doc Reason) (r : ℕ) (rules : Rules) (room new : Room C Rules Doc Reason) (has : HasRoom (hall_of hall) r rules (state_of room)) where
    abbrev pub put_back : HallState C Rules Doc Reason
    put_back = record (hall_of hall) { rooms = map state_of (slice_set hall.rooms.items r new) }

    pub put-room : (P : Rules → State C Rules Doc Reason → State C Rules Doc Reason → Type 0) → P rules (state_of room) (state_of new) → OfRoom r (hall_of hall) put_back P
    put-room P p =
        subst (λ k. OfRoom r (hall_of hall) k P) (sym (is-changed hall r new)) (of-changed (hall_of hall) r rules (state_of room) (state_of new) has P p)

    pub put-sound : (m : Meaning Rules Doc Reason C) → HallIsSound m (hall_of hall) → Sound m rules (state_of new) → HallIsSound m put_back
    put-sound m sound keeps =
        subst (HallIsSound m) (sym (is-changed hall r new)) (sound-changed (hall_of hall) r m rules (state_of room) (state_of new) sound has keeps)

  pub put-others : (hall : Hall C Rules Doc Reason) (r : ℕ) (new : Room C Rules Doc Reason)
      → OthersStay r (hall_of hall) (record (hall_of hall) { rooms = map state_of (slice_set hall.rooms.items r new) })
  put-others hall r new = subst (OthersStay r (hall_of hall)) (sym (is-changed hall r new)) (others-changed (hall_of hall) r (state_of new))

  -- a room of a hall was there in each hall that it came from
  pub was-there : (h k : HallState C Rules Doc Reason) → RoomsStay h k → (r : ℕ) (rules : Rules) (t : State C Rules Doc Reason) → HasRoom k r rules t
      → (s : State C Rules Doc Reason) × HasRoom h r rules s
  was-there h k stay r rules t has =
      let within : r < length h.rooms = subst (λ n. r < n) stay.count (slice_get_within k.rooms r t has.room_at) in
      let there = member-at h.rooms r within in
      (there.0, record { rules_at = ap (λ l. slice_get l r) (sym stay.rules) ∙ has.rules_at; room_at = there.1 })

  pub stay-on : (h k l : HallState C Rules Doc Reason) → RoomsStay h k → RoomsStay k l → RoomsStay h l
  stay-on h k l a b = record { rules = b.rules ∙ a.rules; count = b.count ∙ a.count }

-- Lines in a hall, one after another.
use Rattle.std.proofs.Common.{◌≡◌, ◌≢◌, inl, inr, ℕ, ◌<◌, suc, List, [], ◌∷◌, ◌++◌, length, take, slice_get, slice_index_or, Some, Result, refl, sym, ap, ◌∙◌, subst, arith}
use mathlib.Core.Logic.{dite}
use native.Mathlib.Decide.{ℕ_discrete}
use Rattle.pm_change.specs.Changes.{Meaning, Laws}
use Rattle.pm_change.specs.declared.no_step.NoStep.{NoStep}
use Rattle.pm_session.specs.declared.outcome.Outcome.{Outcome}
use Rattle.pm_session.specs.Events.{State, played}
use Rattle.pm_session.specs.Left.{LeftByLine}
use Rattle.pm_session.specs.Sessions.{session}
use Rattle.pm_session.specs.Suits.{LinesSuit}
use Rattle.pm_session.proofs.Playing.{suits-first, suits-rest}
use Rattle.pm_workers.proofs.Interleaved.{member-at}
use Rattle.pm_rooms.specs.declared.line.RoomLine.{RoomLine}
use Rattle.pm_rooms.specs.Lines.{lines_in, outcomes_in}
use Rattle.pm_rooms.specs.Halls.{HallState, HasRoom, OfRoom, EachRoom, OthersStay, SuitsHall, LinesSuitHall, HallIsSound, LeftInHall}
use Rattle.pm_rooms.proofs.HallRooms.{some-same, was-there}
use Rattle.pm_rooms.proofs.Lines.{lines-here, lines-there, lines-more, lines-other, outcomes-more, outcomes-other, session-push}

module _ {Rules Doc Reason C Op : Type 0} (m : Meaning Rules Doc Reason C) (makes : Rules → Doc → Op → Result (List C) NoStep) where
  -- the line was played in its room, with this outcome
  abbrev pub Plays : HallState C Rules Doc Reason → RoomLine Op C → Outcome C Rules Doc Reason → HallState C Rules Doc Reason → Type 0
  Plays h line o k = OfRoom line.room h k (λ rules s t. (o, t) ≡ played m rules (makes rules) s line.line)

  -- the rooms and the outcomes after these lines
  abbrev pub Rooms : HallState C Rules Doc Reason → List (RoomLine Op C) → HallState C Rules Doc Reason → Type 0
  Rooms h lines k = EachRoom h k (λ r rules s t. t ≡ (session m rules (makes rules) s (lines_in r lines)).1)

  abbrev pub Outcomes : HallState C Rules Doc Reason → List (RoomLine Op C) → List (Outcome C Rules Doc Reason) → HallState C Rules Doc Reason → Type 0
  Outcomes h lines outcomes k = EachRoom h k (λ r rules s t. outcomes_in r lines outcomes ≡ (session m rules (makes rules) s (lines_in r lines)).0)

  -- no line
  pub rooms-none : (h : HallState C Rules Doc Reason) → Rooms h [] h
  rooms-none h r rules s t was is = let e : Some t ≡ Some s = sym is.room_at ∙ was.room_at in cc

  pub outcomes-none : (h : HallState C Rules Doc Reason) → Outcomes h [] [] h
  outcomes-none h r rules s t was is = refl

  -- The hall h0 became h by some lines, and h became k by one line more.
  module _ (h0 h k : HallState C Rules Doc Reason) (xs : List (RoomLine Op C)) (line : RoomLine Op C) (rooms : Rooms h0 xs h) (others : OthersStay line.room h k) where
    -- a room of k, as it was in h
    record Was (r : ℕ) (rules : Rules) (s t : State C Rules Doc Reason) : Type 0 where
      room : State C Rules Doc Reason
      has : HasRoom h r rules room
      before : room ≡ (session m rules (makes rules) s (lines_in r xs)).1

    was-in : (r : ℕ) (rules : Rules) (s t : State C Rules Doc Reason) → HasRoom h0 r rules s → HasRoom k r rules t → Was r rules s t
    was-in r rules s t was is =
        let u = was-there h k others.stay r rules t is in
        record { room = u.0; has = u.1; before = rooms r rules s u.0 was u.1 }

    -- what is so of the line's room, at a place that is the line's
    of-line : (P : Rules → State C Rules Doc Reason → State C Rules Doc Reason → Type 0) → OfRoom line.room h k P
        → (r : ℕ) → line.room ≡ r → (rules : Rules) (u t : State C Rules Doc Reason) → HasRoom h r rules u → HasRoom k r rules t → P rules u t
    of-line P so r e rules u t has is = so rules u t (subst (λ n. HasRoom h n rules u) (sym e) has) (subst (λ n. HasRoom k n rules t) (sym e) is)

    -- another room is as it was
    other-room : (r : ℕ) → line.room ≢ r → (rules : Rules) (u t : State C Rules Doc Reason) → HasRoom h r rules u → HasRoom k r rules t → t ≡ u
    other-room r ne rules u t has is = some-same t u (sym is.room_at ∙ others.others r (λ e. ne (sym e)) ∙ has.room_at)

    other-before : (r : ℕ) → line.room ≢ r → (rules : Rules) (s t : State C Rules Doc Reason) → HasRoom h0 r rules s → HasRoom k r rules t
        → t ≡ (session m rules (makes rules) s (lines_in r xs)).1
    other-before r ne rules s t was is = let u = was-in r rules s t was is in other-room r ne rules u.room t u.has is ∙ u.before

    pub rooms-more : (o : Outcome C Rules Doc Reason) → Plays h line o k → Rooms h0 (xs ++ line ∷ []) k
    rooms-more o plays r rules s t was is =
        let u = was-in r rules s t was is in
        let makes_r = makes rules in
        dite (ℕ_discrete line.room r)
        (λ e.
        let p : (o, t) ≡ played m rules makes_r u.room line.line = of-line (λ rules s t. (o, t) ≡ played m rules (makes rules) s line.line) plays r e rules u.room t u.has is in
        ap (λ q. q.1) p ∙ ap (λ (x : State C Rules Doc Reason). (played m rules makes_r x line.line).1) u.before
        ∙ sym (ap (λ q. q.1) (session-push m rules makes_r s (lines_in r xs) line.line)) ∙ ap (λ l. (session m rules makes_r s l).1) (sym (lines-more r xs line e)))
        (λ ne. other-before r ne rules s t was is ∙ ap (λ l. (session m rules makes_r s l).1) (sym (lines-other r xs line ne)))

    pub outcomes-on : (os : List (Outcome C Rules Doc Reason)) (o : Outcome C Rules Doc Reason) → length os ≡ length xs → Outcomes h0 xs os h → Plays h line o k
        → Outcomes h0 (xs ++ line ∷ []) (os ++ o ∷ []) k
    outcomes-on os o each outcomes plays r rules s t was is =
        let u = was-in r rules s t was is in
        let makes_r = makes rules in
        let so_far = (session m rules makes_r s (lines_in r xs)).0 in
        let given = outcomes r rules s u.room was u.has in
        dite (ℕ_discrete line.room r)
        (λ e.
        let p : (o, t) ≡ played m rules makes_r u.room line.line = of-line (λ rules s t. (o, t) ≡ played m rules (makes rules) s line.line) plays r e rules u.room t u.has is in
        outcomes-more r xs os line o each e ∙ ap (λ l. l ++ o ∷ []) given ∙ ap (λ q. so_far ++ q.0 ∷ []) p
        ∙ ap (λ (x : State C Rules Doc Reason). so_far ++ (played m rules makes_r x line.line).0 ∷ []) u.before
        ∙ sym (ap (λ q. q.0) (session-push m rules makes_r s (lines_in r xs) line.line)) ∙ ap (λ l. (session m rules makes_r s l).0) (sym (lines-more r xs line e)))
        (λ ne. outcomes-other r xs os line o each ne ∙ given ∙ ap (λ l. (session m rules makes_r s l).0) (sym (lines-other r xs line ne)))

    -- the line ran out of memory
    pub left-next : (lines : List (RoomLine Op C)) (n : ℕ) → xs ≡ take n lines → slice_get lines n ≡ Some line
        → OfRoom line.room h k (λ rules s t. LeftByLine m rules s line.line t) → LeftInHall m makes h0 lines k
    left-next lines n front at left = record {
      played = n;
      left = λ r rules s t was is.
          let u = was-in r rules s t was is in
          let room = λ (l : List (RoomLine Op C)). (session m rules (makes rules) s (lines_in r l)).1 in
          dite (ℕ_discrete line.room r)
          (λ e. inr (
            line,
            at,
            e,
            subst (λ x. LeftByLine m rules x line.line t) (u.before ∙ ap room front)
                (of-line (λ rules s t. LeftByLine m rules s line.line t) left r e rules u.room t u.has is),
          ))
          (λ ne. inl (other-before r ne rules s t was is ∙ ap room front));
    }

  -- memory ran out between two lines
  pub left-between : (h0 k : HallState C Rules Doc Reason) (lines : List (RoomLine Op C)) (n : ℕ) → Rooms h0 (take n lines) k → LeftInHall m makes h0 lines k
  left-between h0 k lines n rooms = record { played = n; left = λ r rules s t was is. inl (rooms r rules s t was is) }

module _ {Rules Doc Reason C Op : Type 0} (m : Meaning Rules Doc Reason C) (laws : Laws m) (makes : Rules → Doc → Op → Result (List C) NoStep) where
  -- the first of these lines suits its room, and the later ones suit the hall after it
  module _ (h : HallState C Rules Doc Reason) (sound : HallIsSound m h) (line : RoomLine Op C) (lines : List (RoomLine Op C)) (suit : LinesSuitHall h (line ∷ lines)) where
    own-suit : (s : State C Rules Doc Reason) → slice_get h.rooms line.room ≡ Some s → LinesSuit s (line.line ∷ lines_in line.room lines)
    own-suit s at = subst (LinesSuit s) (lines-here line.room line lines refl) (suit.suit line.room s at)

    pub line-there : line.room < length h.rooms
    line-there = suit.there 0 line (omega arith)

    -- the line's room, with its rules
    pub line-room : (rules : Rules) × ((s : State C Rules Doc Reason) × HasRoom h line.room rules s)
    line-room =
        let there = member-at h.rooms line.room line-there in
        let ruled = member-at h.rules line.room (subst (λ n. line.room < n) (sym sound.each) line-there) in
        (ruled.0, (there.0, record { rules_at = ruled.1; room_at = there.1 }))

    pub hall-suits-first : SuitsHall h line
    hall-suits-first =
        let rules = line-room.0 in
        let s = line-room.1.0 in
        let has = line-room.1.1 in
        record {
          room = s;
          at = has.room_at;
          suits = suits-first m rules laws (makes rules) s (sound.sound line.room rules s has) line.line (lines_in line.room lines) (own-suit s has.room_at);
        }

    pub hall-suits-rest : (o : Outcome C Rules Doc Reason) (k : HallState C Rules Doc Reason) → OthersStay line.room h k → Plays m makes h line o k → LinesSuitHall k lines
    hall-suits-rest o k others plays = record {
      there = λ i d lt. subst (λ n. (slice_index_or lines i d).room < n) (sym others.stay.count) (suit.there (suc i) d (omega (arith, lt)));
      suit = λ r t at. dite (ℕ_discrete r line.room) (λ e. here r t at e)
          (λ ne. subst (LinesSuit t) (lines-there r line lines (λ e. ne (sym e))) (suit.suit r t (sym (others.others r ne) ∙ at)));
    }
      where
        here : (r : ℕ) (t : State C Rules Doc Reason) → slice_get k.rooms r ≡ Some t → r ≡ line.room → LinesSuit t (lines_in r lines)
        here r t at e =
            let rules = line-room.0 in
            let s = line-room.1.0 in
            let has = line-room.1.1 in
            let is : HasRoom k line.room rules t = record {
              rules_at = ap (λ l. slice_get l line.room) others.stay.rules ∙ has.rules_at;
              room_at = ap (slice_get k.rooms) (sym e) ∙ at;
            } in
            let rest = suits-rest m rules laws (makes rules) s (sound.sound line.room rules s has) line.line (lines_in line.room lines) (own-suit s has.room_at) in
            subst (λ n. LinesSuit t (lines_in n lines)) (sym e)
            (subst (λ x. LinesSuit x (lines_in line.room lines)) (sym (ap (λ p. p.1) (plays rules s t has is))) rest)

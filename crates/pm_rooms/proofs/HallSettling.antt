-- The rooms of a hall settle one after another.
use Rattle.std.proofs.Common.{◌≡◌, ◌≢◌, ℕ, ◌<◌, ◌≤◌, ◌+◌, slice_get, length, sym, ap, ◌∙◌, subst, arith}
use Rattle.std.proofs.lemmas.Option.{slice_get_within}
use mathlib.Core.Logic.{dite}
use native.Mathlib.Decide.{ℕ_discrete}
use Rattle.pm_change.specs.Changes.{Meaning, Laws}
use Rattle.pm_session.specs.Events.{State}
use Rattle.pm_session.specs.Left.{LeftBySettle}
use Rattle.pm_session.specs.Sessions.{settled}
use Rattle.pm_session.specs.Sounds.{AllCaughtUp}
use Rattle.pm_session.proofs.Settling.{settled-caught}
use Rattle.pm_rooms.specs.Halls.{HallState, HasRoom, OfRoom, EachRoom, RoomsStay, OthersStay, HallIsSound, LeftSettling}
use Rattle.pm_rooms.proofs.HallRooms.{some-same, was-there}

module _ {Rules Doc Reason C : Type 0} (m : Meaning Rules Doc Reason C) where
  -- the first n rooms are settled
  abbrev pub FirstSettled : ℕ → HallState C Rules Doc Reason → HallState C Rules Doc Reason → Type 0
  FirstSettled n h k = EachRoom h k (λ r rules s t. r < n → t ≡ settled m rules s)

  -- and the others are as before
  abbrev pub LaterStay : ℕ → HallState C Rules Doc Reason → HallState C Rules Doc Reason → Type 0
  LaterStay n h k = EachRoom h k (λ r rules s t. n ≤ r → t ≡ s)

  pub none-settled : (h : HallState C Rules Doc Reason) → FirstSettled 0 h h
  none-settled h r rules s t was is lt = absurd (omega (arith, lt))

  pub all-stay : (h : HallState C Rules Doc Reason) → LaterStay 0 h h
  all-stay h r rules s t was is le = some-same t s (sym is.room_at ∙ was.room_at)

  -- The hall h0 became h, where the first n rooms settled, and h became k by room n.
  module _ (h0 h k : HallState C Rules Doc Reason) (n : ℕ) (first : FirstSettled n h0 h) (later : LaterStay n h0 h) (others : OthersStay n h k) where
    -- another room than room n is in h as it is in k
    as-it-was : (r : ℕ) → r ≢ n → (rules : Rules) (t : State C Rules Doc Reason) → HasRoom k r rules t → HasRoom h r rules t
    as-it-was r ne rules t is = record {
      rules_at = ap (λ l. slice_get l r) (sym others.stay.rules) ∙ is.rules_at;
      room_at = sym (others.others r ne) ∙ is.room_at;
    }

    -- room n is in h as it was in h0
    not-yet : (P : Rules → State C Rules Doc Reason → State C Rules Doc Reason → Type 0) → OfRoom n h k P → OfRoom n h0 k P
    not-yet P so rules s t was is =
        let u = was-there h k others.stay n rules t is in
        subst (λ x. P rules x t) (later n rules s u.0 was u.1 (omega arith)) (so rules u.0 t u.1 is)

    pub first-more : OfRoom n h k (λ rules s t. t ≡ settled m rules s) → FirstSettled (n + 1) h0 k
    first-more so r rules s t was is lt = dite (ℕ_discrete r n)
        (λ e. not-yet (λ rules s t. t ≡ settled m rules s) so rules s t (subst (λ i. HasRoom h0 i rules s) e was) (subst (λ i. HasRoom k i rules t) e is))
        (λ ne. first r rules s t was (as-it-was r ne rules t is) (omega (arith, lt, ne)))

    pub first-kept : FirstSettled n h0 k
    first-kept r rules s t was is lt =
        let ne : r ≢ n = λ e. absurd (omega (arith, e, lt)) in
        first r rules s t was (as-it-was r ne rules t is) lt

    pub later-kept : LaterStay (n + 1) h0 k
    later-kept r rules s t was is le =
        let ne : r ≢ n = λ e. absurd (omega (arith, e, le)) in
        later r rules s t was (as-it-was r ne rules t is) (omega (arith, le))

    -- room n ran out of memory
    pub left-settling : RoomsStay h0 h → n < length h.rooms → OfRoom n h k (λ rules s t. LeftBySettle m rules s t) → LeftSettling m h0 k
    left-settling stay within left = record {
      reached = n;
      within = subst (λ i. n < i) stay.count within;
      before = first-kept;
      there = not-yet (λ rules s t. LeftBySettle m rules s t) left;
      later = λ r rules s t was is lt. later-kept r rules s t was is (omega (arith, lt));
    }

  -- all rooms are settled
  pub settled-all : (h k : HallState C Rules Doc Reason) (n : ℕ) → RoomsStay h k → length k.rooms ≤ n → FirstSettled n h k → EachRoom h k (λ r rules s t. t ≡ settled m rules s)
  settled-all h k n stay all first r rules s t was is =
      let lt = slice_get_within k.rooms r t is.room_at in
      first r rules s t was is (omega (arith, all, lt))

  pub caught-all : Laws m → (h k : HallState C Rules Doc Reason) → HallIsSound m h → EachRoom h k (λ r rules s t. t ≡ settled m rules s) → EachRoom h k (λ r rules s t. AllCaughtUp t)
  caught-all laws h k sound all r rules s t was is =
      subst (λ x. AllCaughtUp x) (sym (all r rules s t was is)) (settled-caught m rules laws s (sound.sound r rules s was))

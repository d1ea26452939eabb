-- The lines of one stand, one line after another.
use Rattle.std.proofs.Common.{◌≡◌, ◌⊎◌, inl, inr, ℕ, suc, List, [], ◌∷◌, ◌++◌, length, refl, sym, ap, ◌∙◌, arith, append-nil}
use mathlib.Core.Logic.{dite}
use native.Mathlib.Decide.{ℕ_discrete}
use Rattle.pm_session.specs.declared.line.Line.{Line}
use Rattle.pm_workers.specs.Threads.{own_lines, own_outcomes}
use Rattle.pm_workers.proofs.Interleaved.{outcomes-here, outcomes-there}
use Rattle.pm_workers.proofs.Owns.{own-here, own-there, own-append}
use Rattle.pm_rooms.specs.declared.line.RoomLine.{RoomLine}
use Rattle.pm_rooms.specs.declared.stand.Stand.{Stand}
use Rattle.pm_rooms.specs.Lines.{lines_in, outcomes_in}
use Rattle.pm_rooms.specs.Stands.{IsPlayedBy, stand_lines, stand_outcomes}
use Rattle.pm_rooms.proofs.Lines.{lines-here, lines-there, lines-append, outcomes-append}
use Rattle.pm_rooms.proofs.Lines.{outcomes-here as room-here, outcomes-there as room-there}

module _ {Op C A : Type 0} where
  -- outcomes of one client's lines
  pub own-given : (i : ℕ) (xs ys : List (Line Op C)) (os ps : List A) → length os ≡ length xs → own_outcomes i (xs ++ ys) (os ++ ps) ≡ own_outcomes i xs os ++ own_outcomes i ys ps
  own-given i [] ys [] ps h = refl
  own-given i [] ys (o ∷ os) ps h = absurd (omega (arith, h))
  own-given i (x ∷ xs) ys [] ps h = absurd (omega (arith, h))
  own-given i (x ∷ xs) ys (o ∷ os) ps h =
      let rest = own-given i xs ys os ps (omega (arith, h)) in
      dite (ℕ_discrete x.client i)
      (λ e. outcomes-here i x (xs ++ ys) o (os ++ ps) e ∙ ap (λ l. o ∷ l) rest ∙ ap (λ l. l ++ own_outcomes i ys ps) (sym (outcomes-here i x xs o os e)))
      (λ ne. outcomes-there i x (xs ++ ys) o (os ++ ps) ne ∙ rest ∙ ap (λ l. l ++ own_outcomes i ys ps) (sym (outcomes-there i x xs o os ne)))

  -- a client has an outcome for each of its lines
  pub own-each : (i : ℕ) (xs : List (Line Op C)) (os : List A) → length os ≡ length xs → length (own_outcomes i xs os) ≡ length (own_lines i xs)
  own-each i [] [] h = refl
  own-each i [] (o ∷ os) h = absurd (omega (arith, h))
  own-each i (x ∷ xs) [] h = absurd (omega (arith, h))
  own-each i (x ∷ xs) (o ∷ os) h =
      let rest = own-each i xs os (omega (arith, h)) in
      dite (ℕ_discrete x.client i)
      (λ e. ap length (outcomes-here i x xs o os e) ∙ ap suc rest ∙ sym (ap length (own-here i x xs e)))
      (λ ne. ap length (outcomes-there i x xs o os ne) ∙ rest ∙ sym (ap length (own-there i x xs ne)))

  own-none : (i : ℕ) (xs : List (Line Op C)) → own_outcomes {A = A} i xs [] ≡ []
  own-none i [] = refl
  own-none i (x ∷ xs) = refl

  room-none : (r : ℕ) (xs : List (RoomLine Op C)) → outcomes_in {A = A} r xs [] ≡ []
  room-none r [] = refl
  room-none r (x ∷ xs) = refl

  -- a room has an outcome for each of its lines
  pub room-each : (r : ℕ) (xs : List (RoomLine Op C)) (os : List A) → length os ≡ length xs → length (outcomes_in r xs os) ≡ length (lines_in r xs)
  room-each r [] [] h = refl
  room-each r [] (o ∷ os) h = absurd (omega (arith, h))
  room-each r (x ∷ xs) [] h = absurd (omega (arith, h))
  room-each r (x ∷ xs) (o ∷ os) h =
      let rest = room-each r xs os (omega (arith, h)) in
      dite (ℕ_discrete x.room r)
      (λ e. ap length (room-here r x xs o os e) ∙ ap suc rest ∙ sym (ap length (lines-here r x xs e)))
      (λ ne. ap length (room-there r x xs o os ne) ∙ rest ∙ sym (ap length (lines-there r x xs ne)))

module _ {Rules Doc Reason C Op : Type 0} (x : Stand C Rules Doc Reason) where
  pub played-or-not : (line : RoomLine Op C) → IsPlayedBy x line ⊎ (IsPlayedBy x line → ⊥)
  played-or-not line = dite (ℕ_discrete line.room x.room)
      (λ e. dite (ℕ_discrete line.line.client x.client) (λ f. inl (record { room = sym e; client = sym f })) (λ ne. inr (λ h. ne (sym h.client))))
      (λ ne. inr (λ h. ne (sym h.room)))

  -- a line of the stand stands at the front, or another
  pub stand-here : (line : RoomLine Op C) (lines : List (RoomLine Op C)) → IsPlayedBy x line → stand_lines x (line ∷ lines) ≡ line.line ∷ stand_lines x lines
  stand-here line lines h = ap (own_lines x.client) (lines-here x.room line lines (sym h.room)) ∙ own-here x.client line.line (lines_in x.room lines) (sym h.client)

  pub stand-there : (line : RoomLine Op C) (lines : List (RoomLine Op C)) → (IsPlayedBy x line → ⊥) → stand_lines x (line ∷ lines) ≡ stand_lines x lines
  stand-there line lines other = dite (ℕ_discrete line.room x.room)
      (λ e. ap (own_lines x.client) (lines-here x.room line lines e) ∙ own-there x.client line.line (lines_in x.room lines) (λ f. other (record { room = sym e; client = sym f })))
      (λ ne. ap (own_lines x.client) (lines-there x.room line lines ne))

  pub stand-append : (xs ys : List (RoomLine Op C)) → stand_lines x (xs ++ ys) ≡ stand_lines x xs ++ stand_lines x ys
  stand-append xs ys = ap (own_lines x.client) (lines-append x.room xs ys) ∙ own-append x.client (lines_in x.room xs) (lines_in x.room ys)

  -- one line more of the stand, and one more of another
  pub stand-more : (xs : List (RoomLine Op C)) (line : RoomLine Op C) → IsPlayedBy x line → stand_lines x (xs ++ line ∷ []) ≡ stand_lines x xs ++ line.line ∷ []
  stand-more xs line h = stand-append xs (line ∷ []) ∙ ap (λ l. stand_lines x xs ++ l) (stand-here line [] h)

  pub stand-other : (xs : List (RoomLine Op C)) (line : RoomLine Op C) → (IsPlayedBy x line → ⊥) → stand_lines x (xs ++ line ∷ []) ≡ stand_lines x xs
  stand-other xs line other = stand-append xs (line ∷ []) ∙ ap (λ l. stand_lines x xs ++ l) (stand-there line [] other) ∙ append-nil (stand_lines x xs)

  module _ {A : Type 0} where
    pub given-append : (xs ys : List (RoomLine Op C)) (os ps : List A) → length os ≡ length xs → stand_outcomes x (xs ++ ys) (os ++ ps) ≡ stand_outcomes x xs os ++ stand_outcomes x ys ps
    given-append xs ys os ps h =
        ap (λ l. own_outcomes x.client l (outcomes_in x.room (xs ++ ys) (os ++ ps))) (lines-append x.room xs ys)
        ∙ ap (own_outcomes x.client (lines_in x.room xs ++ lines_in x.room ys)) (outcomes-append x.room xs ys os ps h)
        ∙ own-given x.client (lines_in x.room xs) (lines_in x.room ys) (outcomes_in x.room xs os) (outcomes_in x.room ys ps) (room-each x.room xs os h)

    given-here : (line : RoomLine Op C) (o : A) → IsPlayedBy x line → stand_outcomes x (line ∷ []) (o ∷ []) ≡ o ∷ []
    given-here line o h =
        ap (λ l. own_outcomes x.client l (outcomes_in x.room (line ∷ []) (o ∷ []))) (lines-here x.room line [] (sym h.room))
        ∙ ap (own_outcomes x.client (line.line ∷ [])) (room-here x.room line [] o [] (sym h.room)) ∙ outcomes-here x.client line.line [] o [] (sym h.client)

    given-there : (line : RoomLine Op C) (o : A) → (IsPlayedBy x line → ⊥) → stand_outcomes x (line ∷ []) (o ∷ []) ≡ []
    given-there line o other = dite (ℕ_discrete line.room x.room)
        (λ e.
        ap (λ l. own_outcomes x.client l (outcomes_in x.room (line ∷ []) (o ∷ []))) (lines-here x.room line [] e)
        ∙ ap (own_outcomes x.client (line.line ∷ [])) (room-here x.room line [] o [] e)
        ∙ outcomes-there x.client line.line [] o [] (λ f. other (record { room = sym e; client = sym f })))
        (λ ne. ap (λ l. own_outcomes x.client l (outcomes_in x.room (line ∷ []) (o ∷ []))) (lines-there x.room line [] ne))

    -- the outcome of one line more of the stand, and of one more of another
    pub given-more : (xs : List (RoomLine Op C)) (os : List A) (line : RoomLine Op C) (o : A) → length os ≡ length xs → IsPlayedBy x line
        → stand_outcomes x (xs ++ line ∷ []) (os ++ o ∷ []) ≡ stand_outcomes x xs os ++ o ∷ []
    given-more xs os line o h by = given-append xs (line ∷ []) os (o ∷ []) h ∙ ap (λ l. stand_outcomes x xs os ++ l) (given-here line o by)

    pub given-other : (xs : List (RoomLine Op C)) (os : List A) (line : RoomLine Op C) (o : A) → length os ≡ length xs → (IsPlayedBy x line → ⊥)
        → stand_outcomes x (xs ++ line ∷ []) (os ++ o ∷ []) ≡ stand_outcomes x xs os
    given-other xs os line o h other =
        given-append xs (line ∷ []) os (o ∷ []) h ∙ ap (λ l. stand_outcomes x xs os ++ l) (given-there line o other) ∙ append-nil (stand_outcomes x xs os)

    -- the outcomes of the first lines are all that there are
    pub given-front : (xs ys : List (RoomLine Op C)) (os : List A) → length os ≡ length xs → stand_outcomes x (xs ++ ys) os ≡ stand_outcomes x xs os
    given-front xs ys os h =
        ap (stand_outcomes x (xs ++ ys)) (sym (append-nil os)) ∙ given-append xs ys os [] h
        ∙ ap (λ l. stand_outcomes x xs os ++ own_outcomes x.client (lines_in x.room ys) l) (room-none x.room ys)
        ∙ ap (λ l. stand_outcomes x xs os ++ l) (own-none x.client (lines_in x.room ys)) ∙ append-nil (stand_outcomes x xs os)

    -- there is an outcome for each of the stand's own lines
    pub given-each : (xs : List (RoomLine Op C)) (os : List A) → length os ≡ length xs → length (stand_outcomes x xs os) ≡ length (stand_lines x xs)
    given-each xs os h = own-each x.client (lines_in x.room xs) (outcomes_in x.room xs os) (room-each x.room xs os h)

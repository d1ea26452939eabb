-- The lines of one room, one line after another.
use Rattle.std.proofs.Common.{◌≡◌, ◌≢◌, ℕ, List, [], ◌∷◌, ◌++◌, length, cond, Result, refl, sym, ap, ◌∙◌, arith, eq-eqb, ne_eqb, append-nil}
use mathlib.Core.Logic.{dite}
use native.Mathlib.Decide.{ℕ_discrete}
use Rattle.pm_change.specs.Changes.{Meaning}
use Rattle.pm_change.specs.declared.no_step.NoStep.{NoStep}
use Rattle.pm_session.specs.declared.line.Line.{Line}
use Rattle.pm_session.specs.declared.outcome.Outcome.{Outcome}
use Rattle.pm_session.specs.Events.{State, played}
use Rattle.pm_session.specs.Sessions.{session}
use Rattle.pm_rooms.specs.declared.line.RoomLine.{RoomLine}
use Rattle.pm_rooms.specs.Lines.{lines_in, outcomes_in}

module _ {Op C : Type 0} (r : ℕ) where
  -- a line of the room stands at the front, or one of another
  pub lines-here : (line : RoomLine Op C) (lines : List (RoomLine Op C)) → line.room ≡ r → lines_in r (line ∷ lines) ≡ line.line ∷ lines_in r lines
  lines-here line lines e = ap (λ b. cond b (line.line ∷ lines_in r lines) (lines_in r lines)) (eq-eqb line.room r e)

  pub lines-there : (line : RoomLine Op C) (lines : List (RoomLine Op C)) → line.room ≢ r → lines_in r (line ∷ lines) ≡ lines_in r lines
  lines-there line lines ne = ap (λ b. cond b (line.line ∷ lines_in r lines) (lines_in r lines)) (ne_eqb line.room r ne)

  pub lines-append : (xs ys : List (RoomLine Op C)) → lines_in r (xs ++ ys) ≡ lines_in r xs ++ lines_in r ys
  lines-append [] ys = refl
  lines-append (x ∷ xs) ys = dite (ℕ_discrete x.room r)
      (λ e. lines-here x (xs ++ ys) e ∙ ap (λ l. x.line ∷ l) (lines-append xs ys) ∙ ap (λ l. l ++ lines_in r ys) (sym (lines-here x xs e)))
      (λ ne. lines-there x (xs ++ ys) ne ∙ lines-append xs ys ∙ ap (λ l. l ++ lines_in r ys) (sym (lines-there x xs ne)))

  -- one line more of the room, and one more of another
  pub lines-more : (xs : List (RoomLine Op C)) (line : RoomLine Op C) → line.room ≡ r → lines_in r (xs ++ line ∷ []) ≡ lines_in r xs ++ line.line ∷ []
  lines-more xs line e = lines-append xs (line ∷ []) ∙ ap (λ l. lines_in r xs ++ l) (lines-here line [] e)

  pub lines-other : (xs : List (RoomLine Op C)) (line : RoomLine Op C) → line.room ≢ r → lines_in r (xs ++ line ∷ []) ≡ lines_in r xs
  lines-other xs line ne = lines-append xs (line ∷ []) ∙ ap (λ l. lines_in r xs ++ l) (lines-there line [] ne) ∙ append-nil (lines_in r xs)

  module _ {A : Type 0} where
    pub outcomes-here : (line : RoomLine Op C) (lines : List (RoomLine Op C)) (o : A) (os : List A) → line.room ≡ r
        → outcomes_in r (line ∷ lines) (o ∷ os) ≡ o ∷ outcomes_in r lines os
    outcomes-here line lines o os e = ap (λ b. cond b (o ∷ outcomes_in r lines os) (outcomes_in r lines os)) (eq-eqb line.room r e)

    pub outcomes-there : (line : RoomLine Op C) (lines : List (RoomLine Op C)) (o : A) (os : List A) → line.room ≢ r
        → outcomes_in r (line ∷ lines) (o ∷ os) ≡ outcomes_in r lines os
    outcomes-there line lines o os ne = ap (λ b. cond b (o ∷ outcomes_in r lines os) (outcomes_in r lines os)) (ne_eqb line.room r ne)

    pub outcomes-append : (xs ys : List (RoomLine Op C)) (os ps : List A) → length os ≡ length xs
        → outcomes_in r (xs ++ ys) (os ++ ps) ≡ outcomes_in r xs os ++ outcomes_in r ys ps
    outcomes-append [] ys [] ps h = refl
    outcomes-append [] ys (o ∷ os) ps h = absurd (omega (arith, h))
    outcomes-append (x ∷ xs) ys [] ps h = absurd (omega (arith, h))
    outcomes-append (x ∷ xs) ys (o ∷ os) ps h =
        let rest = outcomes-append xs ys os ps (omega (arith, h)) in
        dite (ℕ_discrete x.room r)
        (λ e. outcomes-here x (xs ++ ys) o (os ++ ps) e ∙ ap (λ l. o ∷ l) rest ∙ ap (λ l. l ++ outcomes_in r ys ps) (sym (outcomes-here x xs o os e)))
        (λ ne. outcomes-there x (xs ++ ys) o (os ++ ps) ne ∙ rest ∙ ap (λ l. l ++ outcomes_in r ys ps) (sym (outcomes-there x xs o os ne)))

    pub outcomes-more : (xs : List (RoomLine Op C)) (os : List A) (line : RoomLine Op C) (o : A) → length os ≡ length xs → line.room ≡ r
        → outcomes_in r (xs ++ line ∷ []) (os ++ o ∷ []) ≡ outcomes_in r xs os ++ o ∷ []
    outcomes-more xs os line o h e = outcomes-append xs (line ∷ []) os (o ∷ []) h ∙ ap (λ l. outcomes_in r xs os ++ l) (outcomes-here line [] o [] e)

    pub outcomes-other : (xs : List (RoomLine Op C)) (os : List A) (line : RoomLine Op C) (o : A) → length os ≡ length xs → line.room ≢ r
        → outcomes_in r (xs ++ line ∷ []) (os ++ o ∷ []) ≡ outcomes_in r xs os
    outcomes-other xs os line o h ne =
        outcomes-append xs (line ∷ []) os (o ∷ []) h ∙ ap (λ l. outcomes_in r xs os ++ l) (outcomes-there line [] o [] ne) ∙ append-nil (outcomes_in r xs os)

-- a session with one line more
pub session-push : {Rules Doc Reason C Op : Type 0} (m : Meaning Rules Doc Reason C) (rules : Rules) (makes : Doc → Op → Result (List C) NoStep)
    (s : State C Rules Doc Reason) (xs : List (Line Op C)) (line : Line Op C)
    → session m rules makes s (xs ++ line ∷ [])
    ≡ ((session m rules makes s xs).0 ++ (played m rules makes (session m rules makes s xs).1 line).0 ∷ [], (played m rules makes (session m rules makes s xs).1 line).1)
session-push m rules makes s [] line = refl
session-push {Rules} {Doc} {Reason} {C} m rules makes s (x ∷ xs) line =
    let first = played m rules makes s x in
    ap (λ (p : List (Outcome C Rules Doc Reason) × State C Rules Doc Reason). (first.0 ∷ p.0, p.1)) (session-push m rules makes first.1 xs line)

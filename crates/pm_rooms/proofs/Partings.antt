-- The steps of the loops that take a person's stands apart.
use Rattle.std.proofs.Common.{◌≡◌, ◌⊎◌, inl, inr, ℕ, zero, suc, List, [], ◌∷◌, ◌++◌, length, slice_get, slice_set, Some, refl, sym, ap, ap₂, ◌∙◌, subst, append_assoc}
use mathlib.Core.Logic.{dite}
use native.Mathlib.Decide.{ℕ_discrete}
use Rattle.pm_session.specs.declared.outcome.Outcome.{Outcome}
use Rattle.pm_workers.specs.declared.worker.Worker.{Worker}
use Rattle.pm_workers.specs.Threads.{own_outcomes}
use Rattle.pm_workers.proofs.Interleaved.{outcomes-here, outcomes-there, set-elsewhere}
use Rattle.pm_workers.proofs.MergeLaws.{set-there}
use Rattle.pm_workers.proofs.Unused.{one-of}
use Rattle.pm_rooms.specs.declared.line.RoomLine.{RoomLine}
use Rattle.pm_rooms.specs.declared.stand.Stand.{Stand}
use Rattle.pm_rooms.specs.Lines.{lines_in, outcomes_in}
use Rattle.pm_rooms.specs.Parted.{IsPartSoFar, ArePlaces}
use Rattle.pm_rooms.specs.Stands.{IsPlayedBy, StandsDiffer, stand_lines, stand_outcomes}
use Rattle.pm_rooms.proofs.Lines.{lines-here, lines-there}
use Rattle.pm_rooms.proofs.Lines.{outcomes-here as room-here, outcomes-there as room-there}
use Rattle.pm_rooms.proofs.StandLines.{stand-here, stand-there}

-- an item of a list with one more is one of the list or the last
pub at-push : {A : Type 0} (xs : List A) (x : A) (k : ℕ) (y : A) → slice_get (xs ++ x ∷ []) k ≡ Some y → (slice_get xs k ≡ Some y) ⊎ ((k ≡ length xs) × (x ≡ y))
at-push [] x zero y at = inr (refl, one-of x y at)
at-push [] x (suc k) y at = absurd (cc)
at-push (a ∷ xs) x zero y at = inl at
at-push (a ∷ xs) x (suc k) y at = by (at-push xs x k y at)
  where
    by : (slice_get xs k ≡ Some y) ⊎ ((k ≡ length xs) × (x ≡ y)) → (slice_get xs k ≡ Some y) ⊎ ((suc k ≡ suc (length xs)) × (x ≡ y))
    by (inl e) = inl e
    by (inr e) = inr (ap suc e.0, e.1)

module _ {Rules Doc Reason C Op : Type 0} where
  pub places-next : (stands : List (Stand C Rules Doc Reason)) (lines : List (RoomLine Op C)) (places : List ℕ) (n : ℕ) → length places ≡ n → (place : ℕ) (line : RoomLine Op C) → slice_get lines n ≡ Some line
      → (x : Stand C Rules Doc Reason) × (slice_get stands place ≡ Some x) × IsPlayedBy x line → ArePlaces stands lines places → ArePlaces stands lines (places ++ place ∷ [])
  places-next stands lines places n count place line at here h k l p l_at p_at = by (at-push places place k p p_at)
    where
      by : (slice_get places k ≡ Some p) ⊎ ((k ≡ length places) × (place ≡ p)) → (x : Stand C Rules Doc Reason) × (slice_get stands p ≡ Some x) × IsPlayedBy x l
      by (inl e) = h k l p l_at e
      by (inr e) =
          let same : line ≡ l = one-of line l (sym at ∙ ap (slice_get lines) (sym (e.0 ∙ count)) ∙ l_at) in
          (here.0, ap (slice_get stands) (sym e.1) ∙ here.1, subst (λ z. IsPlayedBy here.0 z) same here.2)

  -- the outcome of a line at the front is the stand's, or another's
  outcome-here : {A : Type 0} (x : Stand C Rules Doc Reason) (line : RoomLine Op C) (lines : List (RoomLine Op C)) (o : A) (os : List A) → IsPlayedBy x line
      → stand_outcomes x (line ∷ lines) (o ∷ os) ≡ o ∷ stand_outcomes x lines os
  outcome-here x line lines o os h =
      ap₂ (λ a b. own_outcomes x.client a b) (lines-here x.room line lines (sym h.room)) (room-here x.room line lines o os (sym h.room))
      ∙ outcomes-here x.client line.line (lines_in x.room lines) o (outcomes_in x.room lines os) (sym h.client)

  outcome-there : {A : Type 0} (x : Stand C Rules Doc Reason) (line : RoomLine Op C) (lines : List (RoomLine Op C)) (o : A) (os : List A) → (IsPlayedBy x line → ⊥)
      → stand_outcomes x (line ∷ lines) (o ∷ os) ≡ stand_outcomes x lines os
  outcome-there x line lines o os other = dite (ℕ_discrete line.room x.room)
      (λ e. ap₂ (λ a b. own_outcomes x.client a b) (lines-here x.room line lines e) (room-here x.room line lines o os e)
      ∙ outcomes-there x.client line.line (lines_in x.room lines) o (outcomes_in x.room lines os) (λ f. other (record { room = sym e; client = sym f })))
      (λ ne. ap₂ (λ a b. own_outcomes x.client a b) (lines-there x.room line lines ne) (room-there x.room line lines o os ne))

  module _ (all : List (RoomLine Op C)) (told : List (Outcome C Rules Doc Reason)) (stands : List (Stand C Rules Doc Reason)) (differ : StandsDiffer stands)
      (line : RoomLine Op C) (rest : List (RoomLine Op C)) (o : Outcome C Rules Doc Reason) (later : List (Outcome C Rules Doc Reason)) where
    -- one line more is given to its stand's worker
    pub part-next : (workers : List (Worker C Op Rules Doc Reason)) (place : ℕ) (s : Stand C Rules Doc Reason) (was is : Worker C Op Rules Doc Reason) → slice_get stands place ≡ Some s → IsPlayedBy s line
        → slice_get workers place ≡ Some was → is.member ≡ was.member → is.seat ≡ was.seat → is.lines.items ≡ was.lines.items ++ line.line ∷ [] → is.outcomes.items ≡ was.outcomes.items ++ o ∷ []
        → ((j : ℕ) (x : Stand C Rules Doc Reason) (w : Worker C Op Rules Doc Reason) → slice_get stands j ≡ Some x → slice_get workers j ≡ Some w → IsPartSoFar all (line ∷ rest) told (o ∷ later) x w)
        → (j : ℕ) (x : Stand C Rules Doc Reason) (w : Worker C Op Rules Doc Reason) → slice_get stands j ≡ Some x → slice_get (slice_set workers place is) j ≡ Some w → IsPartSoFar all rest told later x w
    part-next workers place s was is s_at by was_at member seat lines outcomes h j x w x_at w_at = dite (ℕ_discrete place j)
        (λ e.
        let same : s ≡ x = one-of s x (sym s_at ∙ ap (slice_get stands) e ∙ x_at) in
        let its : is ≡ w = one-of is w (sym (set-there workers place is was was_at) ∙ ap (slice_get (slice_set workers place is)) e ∙ w_at) in
        let one = h place s was s_at was_at in
        subst (λ z. IsPartSoFar all rest told later z w) same (subst (λ v. IsPartSoFar all rest told later s v) its (record {
          member = member ∙ one.member;
          seat = seat ∙ one.seat;
          lines_are = ap (λ l. l ++ stand_lines s rest) lines ∙ append_assoc was.lines.items (line.line ∷ []) (stand_lines s rest) ∙ ap (λ l. was.lines.items ++ l) (sym (stand-here s line rest by)) ∙ one.lines_are;
          outcomes_are = ap (λ l. l ++ stand_outcomes s rest later) outcomes ∙ append_assoc was.outcomes.items (o ∷ []) (stand_outcomes s rest later) ∙ ap (λ l. was.outcomes.items ++ l) (sym (outcome-here s line rest o later by)) ∙ one.outcomes_are;
        })))
        (λ ne.
        let other : IsPlayedBy x line → ⊥ = λ f. ne (differ place j s x s_at x_at (by.room ∙ sym f.room) (by.client ∙ sym f.client)) in
        let one = h j x w x_at (sym (set-elsewhere workers place j is ne) ∙ w_at) in
        record {
          member = one.member;
          seat = one.seat;
          lines_are = ap (λ l. w.lines.items ++ l) (sym (stand-there x line rest other)) ∙ one.lines_are;
          outcomes_are = ap (λ l. w.outcomes.items ++ l) (sym (outcome-there x line rest o later other)) ∙ one.outcomes_are;
        })

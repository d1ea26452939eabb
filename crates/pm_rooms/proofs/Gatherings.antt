-- Stands and lines are shared out to people.
use Rattle.std.proofs.Common.{◌≡◌, ℕ, zero, suc, ◌<◌, List, [], ◌∷◌, length, map, slice_get, Some, All, Vec, Global, sym, ap, ◌∙◌, subst, arith}
use Rattle.pm_workers.proofs.MergeLaws.{length-map, map-get}
use Rattle.pm_rooms.specs.declared.line.RoomLine.{RoomLine}
use Rattle.pm_rooms.specs.declared.sharing.Crowd.{Crowd}
use Rattle.pm_rooms.specs.declared.stand.Stand.{Stand}
use Rattle.pm_rooms.specs.Handed.{handed}
use Rattle.pm_rooms.specs.Opened.{person_of, line_person, stand_person}
use Rattle.pm_rooms.specs.Shared.{AreShared}
use Rattle.pm_rooms.proofs.Readiness.{all-at}

-- what is so of each view is so of the views
pub all-map : {A B : Type 0} (f : A → B) (P : B → Type 0) → ((x : A) → P (f x)) → (xs : List A) → All P (map f xs)
all-map f P h [] k e lt = absurd (omega (arith, lt))
all-map f P h (x ∷ xs) zero e lt = h x
all-map f P h (x ∷ xs) (suc k) e lt = all-map f P h xs k e (omega (arith, lt))

module _ {Rules Doc Reason C Op : Type 0} (people : List (List ℕ)) (stands : List (Stand C Rules Doc Reason)) (lines : List (RoomLine Op C)) (count : ℕ)
    (below : (room client : ℕ) → person_of people room client < count) where
  pub stands-below : All (λ turn. turn < count) (map (λ x. stand_person people x) stands)
  stands-below = all-map (λ x. stand_person people x) (λ turn. turn < count) (λ x. below x.room x.client) stands

  pub lines-below : All (λ turn. turn < count) (map (λ line. line_person people line) lines)
  lines-below = all-map (λ line. line_person people line) (λ turn. turn < count) (λ line. below line.room line.line.client) lines

  pub shared : (c : Crowd C Op Rules Doc Reason) (turns calls : List ℕ) (given : List (Vec (Stand C Rules Doc Reason) Global)) (due : List (Vec (RoomLine Op C) Global))
      → turns ≡ map (λ x. stand_person people x) stands → calls ≡ map (λ line. line_person people line) lines → length given ≡ count
      → ((i : ℕ) (own : Vec (Stand C Rules Doc Reason) Global) → slice_get given i ≡ Some own → own.items ≡ handed i turns stands)
      → ((i : ℕ) (own : Vec (RoomLine Op C) Global) → slice_get due i ≡ Some own → own.items ≡ handed i calls lines)
      → map (λ p. p.stands) c.people.items ≡ given → map (λ p. p.lines) c.people.items ≡ due → All (λ p. p.outcomes.items ≡ []) c.people.items → c.turns.items ≡ turns → AreShared people stands lines c
  shared c turns calls given due turns_are calls_are long own own_lines stands_are lines_are none same = record {
    turns = same ∙ turns_are;
    within = subst (λ l. All (λ turn. turn < length c.people.items) l) (sym (same ∙ turns_are))
        (subst (λ n. All (λ turn. turn < n) (map (λ x. stand_person people x) stands)) (sym (sym (length-map (λ p. p.stands) c.people.items) ∙ ap length stands_are ∙ long)) stands-below);
    each = λ i p at. record {
      stands_are = own i p.stands (ap (λ l. slice_get l i) (sym stands_are) ∙ map-get (λ p. p.stands) c.people.items i p at) ∙ ap (λ t. handed i t stands) turns_are;
      lines_are = own_lines i p.lines (ap (λ l. slice_get l i) (sym lines_are) ∙ map-get (λ p. p.lines) c.people.items i p at) ∙ ap (λ t. handed i t lines) calls_are;
      none = all-at (λ p. p.outcomes.items ≡ []) c.people.items none i p at;
    };
  }

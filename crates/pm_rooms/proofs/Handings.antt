-- The steps of the loop that hands items out.
use Rattle.std.specs.Prelude.{option_to_list}
use Rattle.std.proofs.Common.{◌≡◌, ℕ, ◌+◌, ◌<◌, ◌≤◌, List, [], ◌∷◌, ◌++◌, length, map, take, drop, get_or, slice_get, slice_set, Option, Some, refl, sym, ap, ap₂, ◌∙◌, subst, append_assoc, append-nil}
use Rattle.std.proofs.lemmas.List.{take_more, drop_more, map-append}
use Rattle.std.proofs.lemmas.Option.{slice_get-get_or}
use mathlib.Core.Logic.{dite}
use native.Mathlib.Decide.{ℕ_discrete}
use Rattle.pm_rooms.specs.Handed.{handed}
use Rattle.pm_session.proofs.Opening.{drop-past}
use Rattle.pm_workers.proofs.Interleaved.{set-elsewhere}
use Rattle.pm_workers.proofs.MergeLaws.{set-there}
use Rattle.pm_workers.proofs.Unused.{one-of}
use Rattle.pm_rooms.proofs.Dealt.{handed-here, handed-there}

module _ {A B : Type 0} (view : B → List A) (turns : List ℕ) (k : ℕ) (lt : k < length turns) (hands : List B) (whole : ℕ → List A) where
  -- one more item is handed out
  pub hand-next : (was is : B) (items rest : List A) (x : A) → get_or turns k 0 < length hands → was ≡ get_or hands (get_or turns k 0) was → items ≡ x ∷ rest → view is ≡ view was ++ x ∷ []
      → ((i : ℕ) (own : B) → slice_get hands i ≡ Some own → view own ++ handed i (drop k turns) items ≡ whole i)
      → (i : ℕ) (own : B) → slice_get (slice_set hands (get_or turns k 0) is) i ≡ Some own → view own ++ handed i (drop (k + 1) turns) rest ≡ whole i
  hand-next was is items rest x within found front grown h i own at =
      let turn = get_or turns k 0 in
      let later = drop (k + 1) turns in
      let split : drop k turns ≡ turn ∷ later = drop_more turns k 0 lt in
      let there : slice_get hands turn ≡ Some was = slice_get-get_or hands turn was within ∙ ap Some (sym found) in
      dite (ℕ_discrete turn i)
      (λ same.
      let is_own : is ≡ own = one-of is own (sym (set-there hands turn is was there) ∙ subst (λ j. slice_get (slice_set hands turn is) j ≡ Some own) (sym same) at) in
      let here : handed turn (drop k turns) items ≡ x ∷ handed turn later rest = ap₂ (handed turn) split front ∙ handed-here turn turn later x rest refl in
      subst (λ j. view own ++ handed j later rest ≡ whole j) same
      (ap (λ (o : B). view o ++ handed turn later rest) (sym is_own) ∙ ap (λ l. l ++ handed turn later rest) grown ∙ append_assoc (view was) (x ∷ []) (handed turn later rest)
      ∙ ap (λ l. view was ++ l) (sym here) ∙ h turn was there))
      (λ ne.
      let same_own : slice_get hands i ≡ Some own = sym (set-elsewhere hands turn i is ne) ∙ at in
      ap (λ l. view own ++ l) (sym (ap₂ (handed i) split front ∙ handed-there i turn later x rest ne)) ∙ h i own same_own)

-- the item that was taken from the front
pub popped : {A : Type 0} (xs rest : List A) (first : Option A) (x : A) → xs ≡ option_to_list first ++ rest → first ≡ Some x → xs ≡ x ∷ rest
popped xs rest first x e is = e ∙ ap (λ o. option_to_list o ++ rest) is

-- all turns are over
pub hand-done : {A : Type 0} (turns : List ℕ) (k : ℕ) → length turns ≤ k → (i : ℕ) (own items whole : List A) → own ++ handed i (drop k turns) items ≡ whole → own ≡ whole
hand-done turns k past i own items whole h = sym (append-nil own) ∙ ap (λ t. own ++ handed i t items) (sym (drop-past turns k past)) ∙ h

-- one more turn is told
pub turns-next : {A : Type 0} (f : A → ℕ) (xs : List A) (k : ℕ) (x : A) (before after : List ℕ) (turn : ℕ) → k < length xs → x ≡ get_or xs k x → before ≡ map f (take k xs)
    → after ≡ before ++ turn ∷ [] → turn ≡ f x → after ≡ map f (take (k + 1) xs)
turns-next f xs k x before after turn lt at h grown is =
    let front : take (k + 1) xs ≡ take k xs ++ x ∷ [] = take_more xs k x lt ∙ ap (λ y. take k xs ++ y ∷ []) (sym at) in
    grown ∙ ap₂ (λ a b. a ++ b ∷ []) h is ∙ sym (map-append f (take k xs) (x ∷ [])) ∙ ap (map f) (sym front)

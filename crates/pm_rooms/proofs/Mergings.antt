-- The steps of the loop that puts the lines of all rooms together.
use Rattle.std.proofs.Common.{◌≡◌, ℕ, List, [], ◌∷◌, ◌++◌, length, map, slice_get, slice_set, Some, refl, sym, ap, ◌∙◌, arith, append_assoc}
use mathlib.Core.Logic.{dite}
use native.Mathlib.Decide.{ℕ_discrete}
use Rattle.pm_session.specs.declared.line.Line.{Line}
use Rattle.pm_workers.proofs.Interleaved.{set-elsewhere}
use Rattle.pm_workers.proofs.MergeLaws.{map-get, set-there}
use Rattle.pm_workers.proofs.Unused.{one-of}
use Rattle.pm_rooms.specs.declared.line.RoomLine.{RoomLine}
use Rattle.pm_rooms.specs.Lines.{lines_in}
use Rattle.pm_rooms.proofs.Lines.{lines-more, lines-other}

pub none-of : {A : Type 0} (xs : List A) → length xs ≡ 0 → xs ≡ []
none-of [] e = refl
none-of (x ∷ xs) e = absurd (omega (arith, e))

-- two lists with the same views have the same at each place
pub same-view : {A B D : Type 0} (f : A → D) (g : B → D) (xs : List A) (ys : List B) → map f xs ≡ map g ys → (r : ℕ) (x : A) (y : B) → slice_get xs r ≡ Some x → slice_get ys r ≡ Some y → f x ≡ g y
same-view f g xs ys e r x y x_at y_at = one-of (f x) (g y) (sym (map-get f xs r x x_at) ∙ ap (λ l. slice_get l r) e ∙ map-get g ys r y y_at)

-- one more line of some room
pub room-next : {Op C A B : Type 0} (have : A → List (Line Op C)) (view : B → List (Line Op C)) (rooms : List A) (left : List B) (lines : List (RoomLine Op C)) (room : ℕ) (was is : B) (line : RoomLine Op C)
    → slice_get left room ≡ Some was → view was ≡ line.line ∷ view is → line.room ≡ room
    → ((r : ℕ) (own : A) (q : B) → slice_get rooms r ≡ Some own → slice_get left r ≡ Some q → lines_in r lines ++ view q ≡ have own)
    → (r : ℕ) (own : A) (q : B) → slice_get rooms r ≡ Some own → slice_get (slice_set left room is) r ≡ Some q → lines_in r (lines ++ line ∷ []) ++ view q ≡ have own
room-next {Op} {C} have view rooms left lines room was is line there front of h r own q own_at q_at = dite (ℕ_discrete room r)
    (λ e.
    let same : is ≡ q = one-of is q (sym (set-there left room is was there) ∙ ap (slice_get (slice_set left room is)) e ∙ q_at) in
    let before : lines_in r lines ++ view was ≡ have own = h r own was own_at (ap (slice_get left) (sym e) ∙ there) in
    ap (λ l. l ++ view q) (lines-more r lines line (of ∙ e)) ∙ append_assoc (lines_in r lines) (line.line ∷ []) (view q)
    ∙ ap (λ l. lines_in r lines ++ l) (ap (λ b. line.line ∷ view b) (sym same) ∙ sym front) ∙ before)
    (λ ne. ap (λ l. l ++ view q) (lines-other r lines line (λ f. ne (sym of ∙ f))) ∙ h r own q own_at (sym (set-elsewhere left room r is ne) ∙ q_at))

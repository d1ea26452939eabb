-- The outcomes of a session are those of the clients, dealt by its lines.
use Rattle.std.specs.List.{AllByRecursion as Each}
use Rattle.std.proofs.Common.{◌≡◌, ℕ, zero, suc, ◌<◌, List, [], ◌∷◌, ◌++◌, length, map, take, drop, get_or, slice_get, slice_set, Option, None, Some, refl, sym, ap, ap₂, ◌∙◌, subst, arith}
use Rattle.std.specs.Prelude.{option_map}
use Rattle.std.proofs.lemmas.List.{get_or-set_same, get_or-set_other}
use mathlib.Core.Logic.{dite}
use native.Mathlib.Decide.{ℕ_discrete}
use Rattle.pm_session.specs.declared.line.Line.{Line}
use Rattle.pm_workers.specs.Threads.{with_some, in_order, dealt, own_lines, own_outcomes}
use Rattle.pm_workers.proofs.MergeLaws.{length-set}
use Rattle.pm_workers.proofs.Owns.{own-here, own-there}
use Rattle.pm_workers.proofs.Interleaved.{outcomes-here, outcomes-there}

-- two lists of one length with the same at each place
pub same-places : {A : Type 0} (xs ys : List A) → length xs ≡ length ys → ((i : ℕ) (x : A) → slice_get xs i ≡ Some x → slice_get ys i ≡ Some x) → xs ≡ ys
same-places [] [] e h = refl
same-places [] (y ∷ ys) e h = absurd (omega (arith, e))
same-places (x ∷ xs) [] e h = absurd (omega (arith, e))
same-places (x ∷ xs) (y ∷ ys) e h =
    let first : Some y ≡ Some x = h zero x refl in
    let one : x ≡ y = cc in
    ap₂ (λ a b. a ∷ b) one (same-places xs ys (omega (arith, e)) (λ i z at. h (suc i) z at))

-- Where for each client the items of its lines are those that it has to deal, all are dealt.
pub deals : {Op C A : Type 0} (lines : List (Line Op C)) (items : List A) (left : List (List A)) → length items ≡ length lines → Each (λ line. line.client < length left) lines
    → ((i : ℕ) → i < length left → own_outcomes i lines items ≡ get_or left i []) → dealt (map (λ line. line.client) lines) left ≡ items
deals [] [] left e within h = refl
deals [] (o ∷ items) left e within h = absurd (omega (arith, e))
deals (line ∷ lines) [] left e within h = absurd (omega (arith, e))
deals {A = A} (line ∷ lines) (o ∷ items) left e within h =
    let c = line.client in
    let own : get_or left c [] ≡ o ∷ own_outcomes c lines items = sym (h c within.0) ∙ outcomes-here c line lines o items refl in
    let then_left : List (List A) = slice_set left c (own_outcomes c lines items) in
    let length_is : length then_left ≡ length left = length-set left c (own_outcomes c lines items) in
    let more : dealt (map (λ l. l.client) lines) then_left ≡ items = deals lines items then_left (omega (arith, e)) (subst (λ n. Each (λ (x : Line _ _). x.client < n) lines) (sym length_is) within.1)
    (λ i lt. dite (ℕ_discrete c i)
    (λ same. subst (λ k. own_outcomes k lines items ≡ get_or then_left k []) same (sym (get_or-set_same left c (own_outcomes c lines items) [] within.0)))
    (λ ne. sym (outcomes-there i line lines o items ne) ∙ h i (subst (λ n. i < n) length_is lt) ∙ sym (get_or-set_other left c i (own_outcomes c lines items) [] (λ q. ne (sym q))))) in
    ap (λ l. take 1 l ++ dealt (map (λ l. l.client) lines) (slice_set left c (drop 1 l))) own ∙ ap (λ l. o ∷ l) more

own-items : {Op C : Type 0} (i : ℕ) (lines : List (Line Op C)) → own_outcomes i lines lines ≡ own_lines i lines
own-items i [] = refl
own-items i (line ∷ lines) = dite (ℕ_discrete line.client i)
    (λ e. outcomes-here i line lines line lines e ∙ ap (λ l. line ∷ l) (own-items i lines) ∙ sym (own-here i line lines e))
    (λ ne. outcomes-there i line lines line lines ne ∙ own-items i lines ∙ sym (own-there i line lines ne))

-- so the lines are dealt, where each client has to deal its own
pub deals-lines : {Op C : Type 0} (lines : List (Line Op C)) (left : List (List (Line Op C))) → Each (λ line. line.client < length left) lines
    → ((i : ℕ) → i < length left → own_lines i lines ≡ get_or left i []) → dealt (map (λ line. line.client) lines) left ≡ lines
deals-lines lines left within h = deals lines lines left refl within (λ i lt. own-items i lines ∙ h i lt)

map-got : {A B : Type 0} (f : A → B) (items : List A) (k : ℕ) → slice_get (map f items) k ≡ option_map f (slice_get items k)
map-got f [] k = refl
map-got f (x ∷ items) zero = refl
map-got f (x ∷ items) (suc k) = map-got f items k

map-some : {A B : Type 0} (f : A → B) (o : Option A) (items : List A) → map f (with_some o items) ≡ with_some (option_map f o) (map f items)
map-some f None items = refl
map-some f (Some x) items = refl

-- items in an order, each with `f` done to it
pub map-in_order : {A B : Type 0} (f : A → B) (items : List A) (order : List ℕ) → map f (in_order items order) ≡ in_order (map f items) order
map-in_order f items [] = refl
map-in_order f items (k ∷ order) =
    map-some f (slice_get items k) (in_order items order) ∙ ap₂ (λ o l. with_some o l) (sym (map-got f items k)) (map-in_order f items order)

-- The steps of the loops that hand lines out, and that deal what they came to.
use Rattle.std.specs.Prelude.{option_to_list}
use Rattle.std.proofs.Common.{◌≡◌, ℕ, zero, suc, ◌+◌, ◌<◌, List, [], ◌∷◌, ◌++◌, length, map, take, drop, get_or, slice_get, slice_set, Option, None, Some, All, refl, sym, ap, ap₂, ◌∙◌, subst, arith, append_assoc}
use Rattle.std.proofs.lemmas.List.{take_more, drop_more, get_or-map, length-take-le}
use Rattle.std.proofs.lemmas.Option.{slice_get-get_or}
use mathlib.Core.Logic.{dite}
use native.Mathlib.Decide.{ℕ_discrete}
use Rattle.pm_session.specs.declared.line.Line.{Line}
use Rattle.pm_workers.specs.Merges.{ClientLine}
use Rattle.pm_workers.specs.Threads.{presents, by_client, own_lines, with_some, in_order, dealt}
use Rattle.pm_workers.proofs.MergeLaws.{map-set, set-there}
use Rattle.pm_workers.proofs.Interleaved.{set-elsewhere}
use Rattle.pm_workers.proofs.Loops.{filed-more, own-more, own-other}

-- one more item is picked
pub picked-next : {A : Type 0} (items : List A) (order : List ℕ) (k : ℕ) (d : A) (before after whole : List A) → k < length order → get_or order k 0 < length items
    → after ≡ before ++ get_or items (get_or order k 0) d ∷ [] → before ++ in_order items (drop k order) ≡ whole → after ++ in_order items (drop (k + 1) order) ≡ whole
picked-next items order k d before after whole lt within grown h =
    let rest = in_order items (drop (k + 1) order) in
    let place = get_or order k 0 in
    let here : in_order items (drop k order) ≡ get_or items place d ∷ rest =
    ap (λ l. in_order items l) (drop_more order k 0 lt) ∙ ap (λ o. with_some o rest) (slice_get-get_or items place d within) in
    ap (λ l. l ++ rest) grown ∙ append_assoc before (get_or items place d ∷ []) rest ∙ ap (λ l. before ++ l) (sym here) ∙ h

-- what is taken from the front
first-of : {A : Type 0} (xs rest : List A) (first : Option A) → xs ≡ option_to_list first ++ rest → rest ≡ drop 1 xs → take 1 xs ≡ option_to_list first
first-of xs rest (Some x) e d = ap (λ l. take 1 l) e
first-of [] rest None e d = refl
first-of (x ∷ xs) rest None e d = absurd (omega (arith, ap length e, ap length d))

-- one more turn is dealt
pub dealt-next : {A B : Type 0} (view : B → List A) (turns : List ℕ) (k : ℕ) (left : List B) (was is : B) (item : Option A) (before after whole : List A)
    → k < length turns → get_or turns k 0 < length left → was ≡ get_or left (get_or turns k 0) was
    → view was ≡ option_to_list item ++ view is → view is ≡ drop 1 (view was) → after ≡ before ++ option_to_list item
    → before ++ dealt (drop k turns) (map view left) ≡ whole
    → after ++ dealt (drop (k + 1) turns) (map view (slice_set left (get_or turns k 0) is)) ≡ whole
dealt-next view turns k left was is item before after whole lt within found first behind grown h =
    let turn = get_or turns k 0 in
    let later = drop (k + 1) turns in
    let mine : get_or (map view left) turn [] ≡ view was = get_or-map view left turn was [] within ∙ ap view (sym found) in
    let next : map view (slice_set left turn is) ≡ slice_set (map view left) turn (drop 1 (view was)) = map-set view left turn is ∙ ap (λ l. slice_set (map view left) turn l) behind in
    let here : dealt (drop k turns) (map view left) ≡ option_to_list item ++ dealt later (map view (slice_set left turn is)) =
    ap (λ l. dealt l (map view left)) (drop_more turns k 0 lt)
    ∙ ap (λ own. take 1 own ++ dealt later (slice_set (map view left) turn (drop 1 own))) mine
    ∙ ap₂ (λ a b. a ++ dealt later b) (first-of (view was) (view is) item first behind) (sym next) in
    ap (λ l. l ++ dealt later (map view (slice_set left turn is))) grown
    ∙ append_assoc before (option_to_list item) (dealt later (map view (slice_set left turn is))) ∙ ap (λ l. before ++ l) (sym here) ∙ h

-- where no line is filed yet
pub none-filed : (Op C : Type 0) {B : Type 0} (view : B → List ClientLine) (k n : ℕ) (files : List B) → length files ≡ n → All (λ v. view v ≡ []) files
    → map view files ≡ by_client {Op = Op} {C = C} k n []
none-filed Op C view k zero [] e h = refl
none-filed Op C view k zero (x ∷ xs) e h = absurd (omega (arith, e))
none-filed Op C view k (suc n) [] e h = absurd (omega (arith, e))
none-filed Op C view k (suc n) (x ∷ xs) e h =
    ap₂ (λ a b. a ∷ b) (h 0 x (omega arith)) (none-filed Op C view (k + 1) n xs (omega (arith, e)) (λ j d lt. h (suc j) d (omega (arith, lt))))

module _ {Op C B : Type 0} where
  -- one more line is filed
  pub filed-next : (view : B → List ClientLine) (n k : ℕ) (lines : List (Line Op C)) (line : Line Op C) (files : List B) (was is : B)
      → k < length lines → line ≡ get_or lines k line → length files ≡ n → line.client < n → was ≡ get_or files line.client was
      → view is ≡ view was ++ (k, presents line.act) ∷ [] → map view files ≡ by_client 0 n (take k lines)
      → map view (slice_set files line.client is) ≡ by_client 0 n (take (k + 1) lines)
  filed-next view n k lines line files was is lt at count within found grown h =
      let c = line.client in
      let p = presents line.act in
      let files_in : c < length files = omega (arith, count, within) in
      let mine : get_or (map view files) c [] ≡ view was = get_or-map view files c was [] files_in ∙ ap view (sym found) in
      let placed : length (take k lines) ≡ k = length-take-le k lines (omega (arith, lt)) in
      let front : take (k + 1) lines ≡ take k lines ++ line ∷ [] = take_more lines k line lt ∙ ap (λ x. take k lines ++ x ∷ []) (sym at) in
      let whole : view is ≡ get_or (map view files) c [] ++ (length (take k lines), p) ∷ [] =
      grown ∙ ap (λ l. l ++ (k, p) ∷ []) (sym mine) ∙ ap (λ j. get_or (map view files) c [] ++ (j, p) ∷ []) (sym placed) in
      map-set view files c is ∙ ap (λ l. slice_set (map view files) c l) whole
      ∙ ap (λ l. slice_set l c (get_or l c [] ++ (length (take k lines), p) ∷ [])) h
      ∙ sym (filed-more n (take k lines) line within) ∙ ap (λ l. by_client 0 n l) (sym front)

  -- one more line is handed out
  pub handed-next : (view : B → List (Line Op C)) (lines : List (Line Op C)) (line : Line Op C) (hands : List B) (was is : B)
      → line.client < length hands → was ≡ get_or hands line.client was → view is ≡ view was ++ line ∷ []
      → ((i : ℕ) (own : B) → slice_get hands i ≡ Some own → view own ≡ own_lines i lines)
      → (i : ℕ) (own : B) → slice_get (slice_set hands line.client is) i ≡ Some own → view own ≡ own_lines i (lines ++ line ∷ [])
  handed-next view lines line hands was is within found grown h i own at =
      let c = line.client in
      let there : slice_get hands c ≡ Some was = slice_get-get_or hands c was within ∙ ap Some (sym found) in
      dite (ℕ_discrete c i)
      (λ same.
      let new : slice_get (slice_set hands c is) c ≡ Some is = set-there hands c is was there in
      let at_c : slice_get (slice_set hands c is) c ≡ Some own = subst (λ j. slice_get (slice_set hands c is) j ≡ Some own) (sym same) at in
      let one : own ≡ is = cc in
      subst (λ j. view own ≡ own_lines j (lines ++ line ∷ [])) same (ap view one ∙ grown ∙ ap (λ l. l ++ line ∷ []) (h c was there) ∙ sym (own-more c lines line refl)))
      (λ ne. h i own (sym (set-elsewhere hands c i is ne) ∙ at) ∙ sym (own-other i lines line ne))

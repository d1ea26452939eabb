-- What was handed out is dealt back in the same order.
use Rattle.std.specs.List.{AllByRecursion as Each}
use Rattle.std.proofs.Common.{◌≡◌, ◌≢◌, ℕ, zero, suc, ◌<◌, List, [], ◌∷◌, ◌++◌, cond, length, take, drop, get_or, slice_get, slice_set, Some, refl, sym, ap, subst, arith, eq-eqb, ne_eqb}
use Rattle.std.proofs.lemmas.List.{get_or-set_same, get_or-set_other}
use mathlib.Core.Logic.{dite}
use native.Mathlib.Decide.{ℕ_discrete}
use Rattle.pm_workers.proofs.MergeLaws.{length-set}
use Rattle.pm_rooms.specs.Handed.{handed, Matched}
use Rattle.pm_workers.specs.Threads.{dealt}

-- the item at the front is handed out here, or elsewhere
pub handed-here : {A : Type 0} (i turn : ℕ) (turns : List ℕ) (x : A) (xs : List A) → turn ≡ i → handed i (turn ∷ turns) (x ∷ xs) ≡ x ∷ handed i turns xs
handed-here i turn turns x xs e = ap (λ b. cond b (x ∷ handed i turns xs) (handed i turns xs)) (eq-eqb turn i e)

pub handed-there : {A : Type 0} (i turn : ℕ) (turns : List ℕ) (x : A) (xs : List A) → turn ≢ i → handed i (turn ∷ turns) (x ∷ xs) ≡ handed i turns xs
handed-there i turn turns x xs ne = ap (λ b. cond b (x ∷ handed i turns xs) (handed i turns xs)) (ne_eqb turn i ne)

module _ {A B : Type 0} (R : A → B → Type 0) where
  first-matched : (x : A) (xs : List A) (ys : List B) → Matched R (x ∷ xs) ys → (y : B) × (ys ≡ y ∷ drop 1 ys) × R x y × Matched R xs (drop 1 ys)
  first-matched x xs [] h = absurd h
  first-matched x xs (y ∷ ys) h = (y, refl, h.0, h.1)

  -- What became of items, each where it was handed, is dealt back in the order of the items.
  pub dealt-matched : (turns : List ℕ) (xs : List A) (hands : List (List B)) → length xs ≡ length turns → Each (λ turn. turn < length hands) turns
      → ((i : ℕ) → i < length hands → Matched R (handed i turns xs) (get_or hands i [])) → Matched R xs (dealt turns hands)
  dealt-matched [] [] hands e within h = tt
  dealt-matched [] (x ∷ xs) hands e within h = absurd (omega (arith, e))
  dealt-matched (turn ∷ turns) [] hands e within h = absurd (omega (arith, e))
  dealt-matched (turn ∷ turns) (x ∷ xs) hands e within h =
      let own = get_or hands turn [] in
      let f = first-matched x (handed turn turns xs) own (subst (λ l. Matched R l own) (handed-here turn turn turns x xs refl) (h turn within.0)) in
      let left : List (List B) = slice_set hands turn (drop 1 own) in
      let long : length left ≡ length hands = length-set hands turn (drop 1 own) in
      let rest : Matched R xs (dealt turns left) = dealt-matched turns xs left (omega (arith, e)) (subst (λ n. Each (λ t. t < n) turns) (sym long) within.1)
      (λ i lt. dite (ℕ_discrete turn i)
      (λ same. subst (λ k. Matched R (handed k turns xs) (get_or left k [])) same (subst (λ l. Matched R (handed turn turns xs) l) (sym (get_or-set_same hands turn (drop 1 own) [] within.0)) f.3))
      (λ ne. subst (λ l. Matched R l (get_or left i [])) (handed-there i turn turns x xs ne)
      (subst (λ l. Matched R (handed i (turn ∷ turns) (x ∷ xs)) l) (sym (get_or-set_other hands turn i (drop 1 own) [] (λ q. ne (sym q)))) (h i (subst (λ n. i < n) long lt))))) in
      subst (λ l. Matched R (x ∷ xs) (take 1 l ++ dealt turns left)) (sym f.1) (f.2, rest)

  -- two lists of one length where R is so at each place
  pub matched-at : (xs : List A) (ys : List B) → length ys ≡ length xs → ((k : ℕ) (x : A) (y : B) → slice_get xs k ≡ Some x → slice_get ys k ≡ Some y → R x y) → Matched R xs ys
  matched-at [] [] e h = tt
  matched-at [] (y ∷ ys) e h = absurd (omega (arith, e))
  matched-at (x ∷ xs) [] e h = absurd (omega (arith, e))
  matched-at (x ∷ xs) (y ∷ ys) e h = (h zero x y refl refl, matched-at xs ys (omega (arith, e)) (λ k a b p q. h (suc k) a b p q))

  pub at-matched : (xs : List A) (ys : List B) → Matched R xs ys → (k : ℕ) (x : A) (y : B) → slice_get xs k ≡ Some x → slice_get ys k ≡ Some y → R x y
  at-matched [] [] h k x y p q = absurd (cc)
  at-matched [] (b ∷ ys) h k x y p q = absurd h
  at-matched (a ∷ xs) [] h k x y p q = absurd h
  at-matched (a ∷ xs) (b ∷ ys) h zero x y p q = let e : a ≡ x = cc in let f : b ≡ y = cc in subst (λ v. R x v) f (subst (λ v. R v b) e h.0)
  at-matched (a ∷ xs) (b ∷ ys) h (suc k) x y p q = at-matched xs ys h.1 k x y p q

  pub matched-length : (xs : List A) (ys : List B) → Matched R xs ys → length ys ≡ length xs
  matched-length [] [] h = refl
  matched-length [] (b ∷ ys) h = absurd h
  matched-length (a ∷ xs) [] h = absurd h
  matched-length (a ∷ xs) (b ∷ ys) h = ap suc (matched-length xs ys h.1)

  -- what the items of two lists became, apart
  pub matched-front : (xs zs : List A) (ys : List B) → Matched R (xs ++ zs) ys → Matched R xs (take (length xs) ys)
  matched-front [] zs [] h = tt
  matched-front [] zs (y ∷ ys) h = tt
  matched-front (x ∷ xs) zs [] h = absurd h
  matched-front (x ∷ xs) zs (y ∷ ys) h = (h.0, matched-front xs zs ys h.1)

  pub matched-back : (xs zs : List A) (ys : List B) → Matched R (xs ++ zs) ys → Matched R zs (drop (length xs) ys)
  matched-back [] zs [] h = h
  matched-back [] zs (y ∷ ys) h = h
  matched-back (x ∷ xs) zs [] h = absurd h
  matched-back (x ∷ xs) zs (y ∷ ys) h = matched-back xs zs ys h.1

  -- one more on both sides
  pub matched-push : (xs : List A) (ys : List B) (x : A) (y : B) → Matched R xs ys → R x y → Matched R (xs ++ x ∷ []) (ys ++ y ∷ [])
  matched-push [] [] x y h r = (r, tt)
  matched-push [] (b ∷ ys) x y h r = absurd h
  matched-push (a ∷ xs) [] x y h r = absurd h
  matched-push (a ∷ xs) (b ∷ ys) x y h r = (h.0, matched-push xs ys x y h.1 r)

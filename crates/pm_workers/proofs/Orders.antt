-- The merged order's lines: each client's are its own, and the calls' clients are those that made them.
use Rattle.std.specs.List.{AllByRecursion as Each}
use Rattle.std.proofs.Common.{◌≡◌, ◌≢◌, ◌⊎◌, inl, inr, ℕ, zero, suc, ◌<◌, cond, List, [], ◌∷◌, ◌++◌, length, flat_map, get_or, slice_get, slice_set, Some, refl, sym, ap, ap₂, ◌∙◌, subst, arith, append-nil, eq-eqb, ne_eqb}
use Rattle.std.proofs.lemmas.List.{get_or-set_same, get_or-set_other}
use Rattle.std.specs.Prelude.{◌==◌}
use mathlib.Core.Logic.{dite}
use native.Mathlib.Decide.{ℕ_discrete}
use Rattle.pm_session.specs.declared.line.Line.{Line}
use Rattle.pm_session.proofs.SoundLaws.{get-set}
use Rattle.pm_workers.specs.Merges.{ClientLine, numbers, through_call, after_call, merged}
use Rattle.pm_workers.specs.Threads.{callers, in_order, own_lines}
use Rattle.pm_workers.proofs.MergeLaws.{AreOf, get-within, length-set, parted, numbers-append}
use Rattle.pm_workers.proofs.Owns.{IsLineOf, presented_by, each-through, each-after, own-append, callers-append, in-append, own-all, own-none, callers-none, callers-through}

-- how many of these calls are client i's
abbrev pub times : ℕ → List ℕ → ℕ
times i [] = 0
times i (c ∷ calls) = cond (c == i) (suc (times i calls)) (times i calls)

module _ {Op C : Type 0} (lines : List (Line Op C)) where
  -- the numbers at each place are those of lines of the place's client
  abbrev pub AreLines : (ℕ → ℕ) → List (List ClientLine) → Type 0
  AreLines who left = (j : ℕ) (xs : List ClientLine) → slice_get left j ≡ Some xs → Each (IsLineOf lines (who j)) xs

  own-apart : (i : ℕ) (who : ℕ → ℕ) (left : List (List ClientLine)) → AreLines who left → ((j : ℕ) → who j ≢ i) → own_lines i (in_order lines (flat_map numbers left)) ≡ []
  own-apart i who [] are ne = refl
  own-apart i who (xs ∷ left) are ne =
      ap (own_lines i) (in-append lines (numbers xs) (flat_map numbers left)) ∙ own-append i (in_order lines (numbers xs)) (in_order lines (flat_map numbers left))
      ∙ ap₂ (λ a b. a ++ b) (own-none lines i (who zero) (ne zero) xs (are zero xs refl)) (own-apart i (λ j. who (suc j)) left (λ j ys h. are (suc j) ys h) (λ j. ne (suc j)))

  -- client by client
  own-flat : (who : ℕ → ℕ) → ((a b : ℕ) → who a ≡ who b → a ≡ b) → (left : List (List ClientLine)) → AreLines who left
      → (i : ℕ) → own_lines (who i) (in_order lines (flat_map numbers left)) ≡ in_order lines (numbers (get_or left i []))
  own-flat who one [] are i = refl
  own-flat who one (xs ∷ left) are zero =
      ap (own_lines (who zero)) (in-append lines (numbers xs) (flat_map numbers left)) ∙ own-append (who zero) (in_order lines (numbers xs)) (in_order lines (flat_map numbers left))
      ∙ ap₂ (λ a b. a ++ b) (own-all lines (who zero) xs (are zero xs refl))
      (own-apart (who zero) (λ j. who (suc j)) left (λ j ys h. are (suc j) ys h) (λ j same. let e : suc j ≡ zero = one (suc j) zero same in absurd (omega arith)))
      ∙ append-nil (in_order lines (numbers xs))
  own-flat who one (xs ∷ left) are (suc i) =
      ap (own_lines (who (suc i))) (in-append lines (numbers xs) (flat_map numbers left)) ∙ own-append (who (suc i)) (in_order lines (numbers xs)) (in_order lines (flat_map numbers left))
      ∙ ap₂ (λ a b. a ++ b) (own-none lines (who (suc i)) (who zero) (λ same. let e : zero ≡ suc i = one zero (suc i) same in absurd (omega arith)) xs (are zero xs refl))
      (own-flat (λ j. who (suc j)) (λ a b same. let e : suc a ≡ suc b = one (suc a) (suc b) same in omega arith) left (λ j ys h. are (suc j) ys h) i)

  -- where no line is marked, none calls
  callers-flat : (who : ℕ → ℕ) (left : List (List ClientLine)) → AreLines who left → ((i : ℕ) → presented_by (get_or left i []) ≡ 0) → callers (in_order lines (flat_map numbers left)) ≡ []
  callers-flat who [] are none = refl
  callers-flat who (xs ∷ left) are none =
      ap callers (in-append lines (numbers xs) (flat_map numbers left)) ∙ callers-append (in_order lines (numbers xs)) (in_order lines (flat_map numbers left))
      ∙ ap₂ (λ a b. a ++ b) (callers-none lines (who zero) xs (are zero xs refl) (none zero)) (callers-flat (λ j. who (suc j)) left (λ j ys h. are (suc j) ys h) (λ i. none (suc i)))

  abbrev itself : ℕ → ℕ
  itself j = j

  module _ (c : ℕ) (calls : List ℕ) (left : List (List ClientLine)) (are : AreLines itself left) (within : c < length left) where
    abbrev mine : List ClientLine
    mine = get_or left c []

    abbrev then_left : List (List ClientLine)
    then_left = slice_set left c (after_call mine)

    mine-are : Each (IsLineOf lines c) mine
    mine-are = are c mine (get-within left c [] within)

    then-are : AreLines itself then_left
    then-are j xs at = by (get-set left c j (after_call mine) xs at)
      where
        by : ((j ≡ c) × (xs ≡ after_call mine)) ⊎ ((j ≡ c → ⊥) × (slice_get left j ≡ Some xs)) → Each (IsLineOf lines j) xs
        by (inl e) = subst (λ ys. Each (IsLineOf lines j) ys) (sym e.1) (subst (λ k. Each (IsLineOf lines k) (after_call mine)) (sym e.0) (each-after (IsLineOf lines c) mine mine-are))
        by (inr e) = are j xs e.1

    own-next : (i : ℕ) → own_lines i (in_order lines (merged calls then_left)) ≡ in_order lines (numbers (get_or then_left i []))
        → own_lines i (in_order lines (merged (c ∷ calls) left)) ≡ in_order lines (numbers (get_or left i []))
    own-next i more =
        let front = in_order lines (numbers (through_call mine)) in
        let back = in_order lines (merged calls then_left) in
        ap (own_lines i) (in-append lines (numbers (through_call mine)) (merged calls then_left)) ∙ own-append i front back
        ∙ dite (ℕ_discrete c i)
        (λ e. let own : own_lines i front ≡ front = subst (λ k. own_lines k front ≡ front) e (own-all lines c (through_call mine) (each-through (IsLineOf lines c) mine mine-are)) in
        let rest : get_or then_left i [] ≡ after_call mine = subst (λ k. get_or then_left k [] ≡ after_call mine) e (get_or-set_same left c (after_call mine) [] within) in
        ap₂ (λ a b. a ++ b) own (more ∙ ap (λ xs. in_order lines (numbers xs)) rest)
        ∙ sym (in-append lines (numbers (through_call mine)) (numbers (after_call mine)))
        ∙ ap (in_order lines) (sym (numbers-append (through_call mine) (after_call mine)))
        ∙ ap (λ xs. in_order lines (numbers xs)) (parted mine)
        ∙ ap (λ k. in_order lines (numbers (get_or left k []))) e)
        (λ ne. ap₂ (λ a b. a ++ b) (own-none lines i c ne (through_call mine) (each-through (IsLineOf lines c) mine mine-are))
        (more ∙ ap (λ xs. in_order lines (numbers xs)) (get_or-set_other left c i (after_call mine) [] (λ e. ne (sym e)))))

    callers-next : ((i : ℕ) → times i (c ∷ calls) ≡ presented_by (get_or left i []))
        → (((i : ℕ) → times i calls ≡ presented_by (get_or then_left i [])) → callers (in_order lines (merged calls then_left)) ≡ calls)
        → callers (in_order lines (merged (c ∷ calls) left)) ≡ c ∷ calls
    callers-next counts more =
        let one : times c (c ∷ calls) ≡ suc (times c calls) = ap (λ b. cond b (suc (times c calls)) (times c calls)) (eq-eqb c c refl) in
        let first = callers-through lines c (times c calls) mine mine-are (sym (counts c) ∙ one) in
        ap callers (in-append lines (numbers (through_call mine)) (merged calls then_left))
        ∙ callers-append (in_order lines (numbers (through_call mine))) (in_order lines (merged calls then_left))
        ∙ ap₂ (λ a b. a ++ b) first.0 (more (λ i. dite (ℕ_discrete c i)
        (λ e. subst (λ k. times k calls ≡ presented_by (get_or then_left k [])) e (sym first.1 ∙ ap presented_by (sym (get_or-set_same left c (after_call mine) [] within))))
        (λ ne. sym (ap (λ b. cond b (suc (times i calls)) (times i calls)) (ne_eqb c i ne)) ∙ counts i
        ∙ ap presented_by (sym (get_or-set_other left c i (after_call mine) [] (λ e. ne (sym e)))))))

  -- each client's lines stand in the merged order as in the file
  pub own-merged : (calls : List ℕ) (left : List (List ClientLine)) → AreLines itself left → AreOf (length left) calls
      → (i : ℕ) → own_lines i (in_order lines (merged calls left)) ≡ in_order lines (numbers (get_or left i []))
  own-merged [] left are of i = own-flat itself (λ a b e. e) left are i
  own-merged (c ∷ calls) left are of i =
      own-next c calls left are of.0 i
      (own-merged calls (then_left c calls left are of.0) (then-are c calls left are of.0) (rw (length-set left c (after_call (get_or left c []))) of.1) i)

  -- where each client presents as often as it calls, the lines that present are the calls' clients'
  pub callers-merged : (calls : List ℕ) (left : List (List ClientLine)) → AreLines itself left → AreOf (length left) calls
      → ((i : ℕ) → times i calls ≡ presented_by (get_or left i [])) → callers (in_order lines (merged calls left)) ≡ calls
  callers-merged [] left are of counts = callers-flat itself left are (λ i. sym (counts i))
  callers-merged (c ∷ calls) left are of counts =
      callers-next c calls left are of.0 counts
      (λ now. callers-merged calls (then_left c calls left are of.0) (then-are c calls left are of.0) (rw (length-set left c (after_call (get_or left c []))) of.1) now)

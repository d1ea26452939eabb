-- The lines of one client among others.
use Rattle.std.specs.List.{AllByRecursion as Each}
use Rattle.std.proofs.Common.{◌≡◌, ◌≢◌, ℕ, zero, suc, ◌+◌, Bool, true, false, if◌then◌else◌, cond, List, [], ◌∷◌, ◌++◌, Option, None, Some, slice_get, refl, sym, ap, ◌∙◌, subst, arith, eq-eqb, ne_eqb}
use mathlib.Core.Logic.{dite}
use native.Mathlib.Decide.{ℕ_discrete}
use Rattle.pm_session.specs.declared.line.Line.{Line}
use Rattle.pm_workers.specs.Merges.{ClientLine, numbers, through_call, after_call}
use Rattle.pm_workers.specs.Threads.{presents, lines_of, callers, with_some, in_order, own_lines}

-- how many of these lines present a message
abbrev pub presented_by : List ClientLine → ℕ
presented_by [] = 0
presented_by (x ∷ xs) = cond x.1 (suc (presented_by xs)) (presented_by xs)

pub each-through : (P : ClientLine → Type 0) (xs : List ClientLine) → Each P xs → Each P (through_call xs)
each-through P [] h = h
each-through P (x ∷ xs) h = (h.0, by x.1 (each-through P xs h.1))
  where
    by : (b : Bool) → Each P (through_call xs) → Each P (if b then [] else through_call xs)
    by true e = tt
    by false e = e

pub each-after : (P : ClientLine → Type 0) (xs : List ClientLine) → Each P xs → Each P (after_call xs)
each-after P [] h = h
each-after P (x ∷ xs) h = by x.1 (each-after P xs h.1)
  where
    by : (b : Bool) → Each P (after_call xs) → Each P (if b then xs else after_call xs)
    by true e = h.1
    by false e = e

module _ {Op C : Type 0} where
  -- how many of these lines present a message
  abbrev pub presenting : List (Line Op C) → ℕ
  presenting [] = 0
  presenting (line ∷ lines) = cond (presents line.act) (suc (presenting lines)) (presenting lines)

  pub own-here : (i : ℕ) (line : Line Op C) (lines : List (Line Op C)) → line.client ≡ i → own_lines i (line ∷ lines) ≡ line ∷ own_lines i lines
  own-here i line lines e = ap (λ b. cond b (line ∷ own_lines i lines) (own_lines i lines)) (eq-eqb line.client i e)

  pub own-there : (i : ℕ) (line : Line Op C) (lines : List (Line Op C)) → line.client ≢ i → own_lines i (line ∷ lines) ≡ own_lines i lines
  own-there i line lines ne = ap (λ b. cond b (line ∷ own_lines i lines) (own_lines i lines)) (ne_eqb line.client i ne)

  pub own-append : (i : ℕ) (xs ys : List (Line Op C)) → own_lines i (xs ++ ys) ≡ own_lines i xs ++ own_lines i ys
  own-append i [] ys = refl
  own-append i (x ∷ xs) ys = dite (ℕ_discrete x.client i)
      (λ e. own-here i x (xs ++ ys) e ∙ ap (λ l. x ∷ l) (own-append i xs ys) ∙ sym (ap (λ l. l ++ own_lines i ys) (own-here i x xs e)))
      (λ ne. own-there i x (xs ++ ys) ne ∙ own-append i xs ys ∙ sym (ap (λ l. l ++ own_lines i ys) (own-there i x xs ne)))

  pub callers-append : (xs ys : List (Line Op C)) → callers (xs ++ ys) ≡ callers xs ++ callers ys
  callers-append [] ys = refl
  callers-append (x ∷ xs) ys = by (presents x.act) (callers-append xs ys)
    where
      by : (b : Bool) → callers (xs ++ ys) ≡ callers xs ++ callers ys
          → cond b (x.client ∷ callers (xs ++ ys)) (callers (xs ++ ys)) ≡ cond b (x.client ∷ callers xs) (callers xs) ++ callers ys
      by true e = ap (λ l. x.client ∷ l) e
      by false e = e

module _ {Op C : Type 0} (lines : List (Line Op C)) where
  pub in-append : (xs ys : List ℕ) → in_order lines (xs ++ ys) ≡ in_order lines xs ++ in_order lines ys
  in-append [] ys = refl
  in-append (k ∷ xs) ys = by (slice_get lines k) (in-append xs ys)
    where
      by : (o : Option (Line Op C)) → in_order lines (xs ++ ys) ≡ in_order lines xs ++ in_order lines ys
          → with_some o (in_order lines (xs ++ ys)) ≡ with_some o (in_order lines xs) ++ in_order lines ys
      by None e = e
      by (Some line) e = ap (λ l. line ∷ l) e

  -- The number and the mark of a line of client i.
  pub record IsLineOf (i : ℕ) (x : ClientLine) : Type 0 where
    pub line : Line Op C
    pub at : slice_get lines x.0 ≡ Some line
    pub client : line.client ≡ i
    pub mark : presents line.act ≡ x.1

  in-more : (k : ℕ) (ks : List ℕ) (line : Line Op C) → slice_get lines k ≡ Some line → in_order lines (k ∷ ks) ≡ line ∷ in_order lines ks
  in-more k ks line at = ap (λ o. with_some o (in_order lines ks)) at

  -- in a list of lines of client i all are client i's
  pub own-all : (i : ℕ) (xs : List ClientLine) → Each (IsLineOf i) xs → own_lines i (in_order lines (numbers xs)) ≡ in_order lines (numbers xs)
  own-all i [] h = refl
  own-all i (x ∷ xs) h =
      let line = h.0.line in
      let rest = in_order lines (numbers xs) in
      let e : in_order lines (numbers (x ∷ xs)) ≡ line ∷ rest = in-more x.0 (numbers xs) line h.0.at in
      ap (own_lines i) e ∙ own-here i line rest h.0.client ∙ ap (λ l. line ∷ l) (own-all i xs h.1) ∙ sym e

  -- and none is another client's
  pub own-none : (i j : ℕ) → j ≢ i → (xs : List ClientLine) → Each (IsLineOf j) xs → own_lines i (in_order lines (numbers xs)) ≡ []
  own-none i j ne [] h = refl
  own-none i j ne (x ∷ xs) h =
      let line = h.0.line in
      let rest = in_order lines (numbers xs) in
      let e : in_order lines (numbers (x ∷ xs)) ≡ line ∷ rest = in-more x.0 (numbers xs) line h.0.at in
      ap (own_lines i) e ∙ own-there i line rest (λ same. ne (sym h.0.client ∙ same)) ∙ own-none i j ne xs h.1

  -- where none is marked, none presents
  pub callers-none : (i : ℕ) (xs : List ClientLine) → Each (IsLineOf i) xs → presented_by xs ≡ 0 → callers (in_order lines (numbers xs)) ≡ []
  callers-none i [] h none = refl
  callers-none i (x ∷ xs) h none = by x.1 h.0.mark none (callers-none i xs h.1)
    where
      by : (b : Bool) → presents h.0.line.act ≡ b → cond b (suc (presented_by xs)) (presented_by xs) ≡ 0
          → (presented_by xs ≡ 0 → callers (in_order lines (numbers xs)) ≡ []) → callers (in_order lines (numbers (x ∷ xs))) ≡ []
      by true mark none more = absurd (omega (arith, none))
      by false mark none more =
          let line = h.0.line in
          let rest = in_order lines (numbers xs) in
          ap callers (in-more x.0 (numbers xs) line h.0.at) ∙ ap (λ b. cond b (line.client ∷ callers rest) (callers rest)) mark ∙ more none

  -- of the lines up to the first that is marked, that one presents
  pub callers-through : (i k : ℕ) (xs : List ClientLine) → Each (IsLineOf i) xs → presented_by xs ≡ suc k
      → (callers (in_order lines (numbers (through_call xs))) ≡ i ∷ []) × (presented_by (after_call xs) ≡ k)
  callers-through i k [] h some = absurd (omega (arith, some))
  callers-through i k (x ∷ xs) h some = by x.1 h.0.mark some (callers-through i k xs h.1)
    where
      by : (b : Bool) → presents h.0.line.act ≡ b → cond b (suc (presented_by xs)) (presented_by xs) ≡ suc k
          → (presented_by xs ≡ suc k → (callers (in_order lines (numbers (through_call xs))) ≡ i ∷ []) × (presented_by (after_call xs) ≡ k))
          → (callers (in_order lines (numbers (x ∷ (if b then [] else through_call xs)))) ≡ i ∷ []) × (presented_by (if b then xs else after_call xs) ≡ k)
      by true mark some more = (
        ap callers (in-more x.0 [] h.0.line h.0.at) ∙ ap (λ b. cond b (h.0.line.client ∷ []) []) mark ∙ ap (λ c. c ∷ []) h.0.client,
        omega (arith, some),
      )
      by false mark some more =
          let line = h.0.line in
          let rest = in_order lines (numbers (through_call xs)) in
          let e = more some in
          (ap callers (in-more x.0 (numbers (through_call xs)) line h.0.at) ∙ ap (λ b. cond b (line.client ∷ callers rest) (callers rest)) mark ∙ e.0, e.1)

  -- What the numbers of client i's lines tell, where the lines from place k on are these.
  pub record Places (i k : ℕ) (rest : List (Line Op C)) : Type 0 where
    pub are : Each (IsLineOf i) (lines_of i k rest)
    pub in_place : in_order lines (numbers (lines_of i k rest)) ≡ own_lines i rest
    pub marked : presented_by (lines_of i k rest) ≡ presenting (own_lines i rest)

  pub places : (i k : ℕ) (rest : List (Line Op C)) → ((j : ℕ) (line : Line Op C) → slice_get rest j ≡ Some line → slice_get lines (k + j) ≡ Some line) → Places i k rest
  places i k [] at = record { are = tt; in_place = refl; marked = refl }
  places i k (line ∷ rest) at =
      let more = places i (k + 1) rest (λ j l h. subst (λ n. slice_get lines n ≡ Some l) (next j) (at (suc j) l h)) in
      let here : slice_get lines k ≡ Some line = subst (λ n. slice_get lines n ≡ Some line) first (at zero line refl) in
      let xs = lines_of i (k + 1) rest in
      dite (ℕ_discrete line.client i)
      (λ e. let is : lines_of i k (line ∷ rest) ≡ (k, presents line.act) ∷ xs = ap (λ b. cond b ((k, presents line.act) ∷ xs) xs) (eq-eqb line.client i e) in
      record {
        are = subst (λ l. Each (IsLineOf i) l) (sym is) (record { line = line; at = here; client = e; mark = refl }, more.are);
        in_place = ap (λ l. in_order lines (numbers l)) is ∙ in-more k (numbers xs) line here ∙ ap (λ l. line ∷ l) more.in_place ∙ sym (own-here i line rest e);
        marked = ap presented_by is ∙ ap (λ n. cond (presents line.act) (suc n) n) more.marked ∙ sym (ap presenting (own-here i line rest e));
      })
      (λ ne. let is : lines_of i k (line ∷ rest) ≡ xs = ap (λ b. cond b ((k, presents line.act) ∷ xs) xs) (ne_eqb line.client i ne) in
      record {
        are = subst (λ l. Each (IsLineOf i) l) (sym is) more.are;
        in_place = ap (λ l. in_order lines (numbers l)) is ∙ more.in_place ∙ sym (own-there i line rest ne);
        marked = ap presented_by is ∙ more.marked ∙ sym (ap presenting (own-there i line rest ne));
      })
    where
      next : (j : ℕ) → k + suc j ≡ (k + 1) + j
      next j = omega arith

      first : k + zero ≡ k
      first = omega arith

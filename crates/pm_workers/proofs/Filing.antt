-- The order that a history makes of a file's lines: each client's lines stand in it as in the file, and call as in the history.
use Rattle.std.specs.List.{AllByRecursion as Each}
use Rattle.std.specs.Prelude.{nat_lt}
use Rattle.std.proofs.Common.{◌≡◌, ℕ, zero, suc, ◌+◌, ◌<◌, ◌≤◌, Bool, true, false, cond, List, [], ◌∷◌, ◌++◌, length, map, get_or, slice_get, Some, refl, sym, ap, ◌∙◌, subst, arith, eq-eqb, ne_eqb}
use Rattle.std.proofs.lemmas.Bool.{ltb-true, ltb-false}
use Rattle.std.proofs.lemmas.List.{get_or_past}
use Rattle.std.proofs.lemmas.Option.{slice_get_within, get_or_from_slice_get}
use mathlib.Core.Logic.{dite}
use native.Mathlib.Decide.{ℕ_discrete}
use Rattle.pm_desk.specs.declared.history.Past.{Past}
use Rattle.pm_desk.specs.Histories.{calls_of}
use Rattle.pm_session.specs.declared.line.Line.{Line}
use Rattle.pm_session.specs.Suits.{is_forge, AllSuit}
use Rattle.pm_workers.specs.Merges.{ClientLine, numbers, merged}
use Rattle.pm_workers.specs.Threads.{lines_of, by_client, callers, in_order, own_lines}
use Rattle.pm_workers.specs.Works.{answers_of}
use Rattle.pm_workers.proofs.MergeLaws.{AreOf}
use Rattle.pm_workers.proofs.Owns.{IsLineOf, presented_by, presenting, Places, places, own-there}
use Rattle.pm_workers.proofs.Orders.{AreLines, times, own-merged, callers-merged}
use Rattle.pm_workers.proofs.Steps.{answers-here, answers-there, calls-here, calls-there}

-- as often as client i calls
times-calls : {Q : Type 0} (i : ℕ) (h : List (Past Q)) → times i (map (λ e. e.seat) h) ≡ length (calls_of i h)
times-calls i [] = refl
times-calls i (e ∷ h) = dite (ℕ_discrete e.seat i)
    (λ same. ap (λ b. cond b (suc (times i (map (λ e. e.seat) h))) (times i (map (λ e. e.seat) h))) (eq-eqb e.seat i same)
    ∙ ap suc (times-calls i h) ∙ sym (ap (λ b. length (cond b (e.request ∷ calls_of i h) (calls_of i h))) (eq-eqb e.seat i same)))
    (λ ne. ap (λ b. cond b (suc (times i (map (λ e. e.seat) h))) (times i (map (λ e. e.seat) h))) (ne_eqb e.seat i ne)
    ∙ times-calls i h ∙ sym (ap (λ b. length (cond b (e.request ∷ calls_of i h) (calls_of i h))) (ne_eqb e.seat i ne)))

-- an answer for each call
pub answers-calls : {A M R Q : Type 0} (next : R → M → Q → M) (reply : R → M → Q → A) (rules : R) (i : ℕ) (a : M) (h : List (Past Q))
    → length (answers_of next reply rules i a h) ≡ length (calls_of i h)
answers-calls next reply rules i a [] = refl
answers-calls next reply rules i a (e ∷ h) =
    let more = answers-calls next reply rules i (next rules a e.request) h in
    dite (ℕ_discrete e.seat i)
    (λ same. ap length (answers-here next reply rules i a e h same) ∙ ap suc more ∙ sym (ap length (calls-here i e h same)))
    (λ ne. ap length (answers-there next reply rules i a e h ne) ∙ more ∙ sym (ap length (calls-there i e h ne)))

no-calls : {Q : Type 0} (n i : ℕ) (h : List (Past Q)) → Each (λ c. c < n) (map (λ e. e.seat) h) → n ≤ i → times i (map (λ e. e.seat) h) ≡ 0
no-calls n i [] of past = refl
no-calls n i (e ∷ h) of past =
    ap (λ b. cond b (suc (times i (map (λ e. e.seat) h))) (times i (map (λ e. e.seat) h))) (ne_eqb e.seat i (λ same. absurd (omega (arith, of.0, past, same)))) ∙ no-calls n i h of.1 past

module _ {Op C : Type 0} (lines : List (Line Op C)) where
  client-at : (n k i : ℕ) → i < n → slice_get (by_client k n lines) i ≡ Some (lines_of (k + i) 0 lines)
  client-at zero k i lt = absurd (omega (arith, lt))
  client-at (suc n) k zero lt = let e : k ≡ k + zero = omega arith in ap (λ j. Some (lines_of j 0 lines)) e
  client-at (suc n) k (suc i) lt = let e : (k + 1) + i ≡ k + suc i = omega arith in client-at n (k + 1) i (omega (arith, lt)) ∙ ap (λ j. Some (lines_of j 0 lines)) e

  pub clients-count : (n k : ℕ) → length (by_client k n lines) ≡ n
  clients-count zero k = refl
  clients-count (suc n) k = ap suc (clients-count n (k + 1))

  abbrev by_all : ℕ → List (List ClientLine)
  by_all n = by_client 0 n lines

  pub client-is : (n i : ℕ) → i < n → slice_get (by_all n) i ≡ Some (lines_of i 0 lines)
  client-is n i lt = let e : 0 + i ≡ i = omega arith in client-at n 0 i lt ∙ ap (λ j. Some (lines_of j 0 lines)) e

  pub client-or : (n i : ℕ) → i < n → get_or (by_all n) i [] ≡ lines_of i 0 lines
  client-or n i lt = get_or_from_slice_get (by_all n) i (lines_of i 0 lines) [] (client-is n i lt)

  in-place : (i : ℕ) → Places lines i 0 lines
  in-place i = places lines i 0 lines (λ j line at. let e : j ≡ 0 + j = omega arith in subst (λ k. slice_get lines k ≡ Some line) e at)

  are-lines : (n : ℕ) → AreLines lines (λ j. j) (by_all n)
  are-lines n j xs at =
      let lt : j < n = omega (arith, slice_get_within (by_all n) j xs at, clients-count n 0) in
      let e : Some xs ≡ Some (lines_of j 0 lines) = sym at ∙ client-is n j lt in
      let same : lines_of j 0 lines ≡ xs = cc in
      subst (λ l. Each (IsLineOf lines j) l) same (in-place j).are

  own-past : (n i : ℕ) (xs : List (Line Op C)) → Each (λ line. line.client < n) xs → n ≤ i → own_lines i xs ≡ []
  own-past n i [] of past = refl
  own-past n i (line ∷ xs) of past = own-there i line xs (λ same. absurd (omega (arith, of.0, past, same))) ∙ own-past n i xs of.1 past

  -- each client's lines stand in the order as in the file
  pub own-ordered : (n : ℕ) (calls : List ℕ) → AreOf n calls → Each (λ line. line.client < n) lines → (i : ℕ) → own_lines i (in_order lines (merged calls (by_all n))) ≡ own_lines i lines
  own-ordered n calls of within i =
      own-merged lines calls (by_all n) (are-lines n) (subst (λ k. AreOf k calls) (sym (clients-count n 0)) of) i ∙ by (nat_lt i n) refl
    where
      by : (b : Bool) → nat_lt i n ≡ b → in_order lines (numbers (get_or (by_all n) i [])) ≡ own_lines i lines
      by true e = ap (λ l. in_order lines (numbers l)) (client-or n i (ltb-true i n e)) ∙ (in-place i).in_place
      by false e =
          let past : n ≤ i = ltb-false i n e in
          ap (λ l. in_order lines (numbers l)) (get_or_past (by_all n) i [] (omega (arith, past, clients-count n 0))) ∙ sym (own-past n i lines within past)

  -- where each client presents as often as it calls, the lines that present are the calls' clients'
  pub callers-ordered : {Q : Type 0} (n : ℕ) (h : List (Past Q)) → AreOf n (map (λ e. e.seat) h) → ((i : ℕ) → i < n → length (calls_of i h) ≡ presenting (own_lines i lines))
      → callers (in_order lines (merged (map (λ e. e.seat) h) (by_all n))) ≡ map (λ e. e.seat) h
  callers-ordered n h of counts =
      callers-merged lines (map (λ e. e.seat) h) (by_all n) (are-lines n) (subst (λ k. AreOf k (map (λ e. e.seat) h)) (sym (clients-count n 0)) of) (λ i. by i (nat_lt i n) refl)
    where
      by : (i : ℕ) (b : Bool) → nat_lt i n ≡ b → times i (map (λ e. e.seat) h) ≡ presented_by (get_or (by_all n) i [])
      by i true e =
          let lt : i < n = ltb-true i n e in
          times-calls i h ∙ counts i lt ∙ sym (in-place i).marked ∙ sym (ap presented_by (client-or n i lt))
      by i false e =
          let past : n ≤ i = ltb-false i n e in
          no-calls n i h of past ∙ sym (ap presented_by (get_or_past (by_all n) i [] (omega (arith, past, clients-count n 0))))

  pub suit-within : (raw : List Bool) (earlier xs : List (Line Op C)) → AllSuit raw earlier xs → Each (λ line. line.client < length raw) xs
  suit-within raw earlier [] h = tt
  suit-within raw earlier (line ∷ xs) h = (slice_get_within raw line.client (is_forge line.act) h.0.kind, suit-within raw (earlier ++ line ∷ []) xs h.1)

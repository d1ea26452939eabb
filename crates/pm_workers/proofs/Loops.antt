-- Lines filed one after another, and the seats of a whole history.
use Rattle.std.specs.Prelude.{◌==◌}
use Rattle.std.proofs.Common.{◌≡◌, ◌≢◌, inl, inr, ℕ, zero, suc, ◌+◌, ◌<◌, ◌⊎◌, cond, List, [], ◌∷◌, ◌++◌, length, get_or, slice_get, slice_set, Some, All, refl, sym, ap, ◌∙◌, subst, arith, eq-eqb, ne_eqb, append-nil}
use Rattle.std.proofs.lemmas.Option.{slice_get_within}
use mathlib.Core.Logic.{dite}
use mathlib.Core.Option.{some}
use native.Mathlib.Decide.{ℕ_discrete}
use lib.ListN.{get_elem?}
use Rattle.pm_desk.specs.declared.history.Past.{Past}
use Rattle.pm_desk.specs.declared.history.Joined.{Joined}
use Rattle.pm_desk.specs.Desks.{SeatValue, IsWhole}
use Rattle.pm_session.specs.declared.line.Line.{Line}
use Rattle.pm_workers.specs.Merges.{ClientLine}
use Rattle.pm_workers.specs.Threads.{presents, lines_of, by_client, own_lines}
use Rattle.pm_workers.proofs.MergeLaws.{length-set, set-there}
use Rattle.pm_workers.proofs.Owns.{own-here, own-there, own-append}
use Rattle.pm_workers.proofs.Interleaved.{set-elsewhere}
use Rattle.pm_workers.proofs.Filing.{client-is, client-or, clients-count}
use Rattle.pm_workers.proofs.Dealing.{same-places}

module _ {Op C : Type 0} where
  -- one line more of client i
  pub own-more : (i : ℕ) (lines : List (Line Op C)) (line : Line Op C) → line.client ≡ i → own_lines i (lines ++ line ∷ []) ≡ own_lines i lines ++ line ∷ []
  own-more i lines line e = own-append i lines (line ∷ []) ∙ ap (λ l. own_lines i lines ++ l) (own-here i line [] e)

  -- one line more of another client
  pub own-other : (i : ℕ) (lines : List (Line Op C)) (line : Line Op C) → line.client ≢ i → own_lines i (lines ++ line ∷ []) ≡ own_lines i lines
  own-other i lines line ne = own-append i lines (line ∷ []) ∙ ap (λ l. own_lines i lines ++ l) (own-there i line [] ne) ∙ append-nil (own_lines i lines)

  -- the number and the mark of one line more
  lines-more : (i k : ℕ) (lines : List (Line Op C)) (line : Line Op C) → lines_of i k (lines ++ line ∷ []) ≡ lines_of i k lines ++ cond (line.client == i) ((k + length lines, presents line.act) ∷ []) []
  lines-more i k [] line =
      let e : k ≡ k + 0 = omega arith in
      ap (λ n. cond (line.client == i) ((n, presents line.act) ∷ []) []) e
  lines-more i k (x ∷ lines) line =
      let e : (k + 1) + length lines ≡ k + suc (length lines) = omega arith in
      let more : lines_of i (k + 1) (lines ++ line ∷ []) ≡ lines_of i (k + 1) lines ++ cond (line.client == i) ((k + suc (length lines), presents line.act) ∷ []) [] =
      lines-more i (k + 1) lines line ∙ ap (λ n. lines_of i (k + 1) lines ++ cond (line.client == i) ((n, presents line.act) ∷ []) []) e in
      let last = cond (line.client == i) ((k + suc (length lines), presents line.act) ∷ []) [] in
      let here : ClientLine = (k, presents x.act) in
      dite (ℕ_discrete x.client i)
      (λ is. ap (λ b. cond b (here ∷ lines_of i (k + 1) (lines ++ line ∷ [])) (lines_of i (k + 1) (lines ++ line ∷ []))) (eq-eqb x.client i is) ∙ ap (λ l. here ∷ l) more
      ∙ sym (ap (λ b. cond b (here ∷ lines_of i (k + 1) lines) (lines_of i (k + 1) lines) ++ last) (eq-eqb x.client i is)))
      (λ ne. ap (λ b. cond b (here ∷ lines_of i (k + 1) (lines ++ line ∷ [])) (lines_of i (k + 1) (lines ++ line ∷ []))) (ne_eqb x.client i ne) ∙ more
      ∙ sym (ap (λ b. cond b (here ∷ lines_of i (k + 1) lines) (lines_of i (k + 1) lines) ++ last) (ne_eqb x.client i ne)))

  -- one line more is filed at its client
  pub filed-more : (n : ℕ) (lines : List (Line Op C)) (line : Line Op C) → line.client < n
      → by_client 0 n (lines ++ line ∷ []) ≡ slice_set (by_client 0 n lines) line.client (get_or (by_client 0 n lines) line.client [] ++ (length lines, presents line.act) ∷ [])
  filed-more n lines line within =
      let c = line.client in
      let v : List ClientLine = get_or (by_client 0 n lines) c [] ++ (length lines, presents line.act) ∷ [] in
      same-places (by_client 0 n (lines ++ line ∷ [])) (slice_set (by_client 0 n lines) c v)
      (clients-count (lines ++ line ∷ []) n 0 ∙ sym (clients-count lines n 0) ∙ sym (length-set (by_client 0 n lines) c v))
      (λ i xs at.
      let lt : i < n = subst (λ k. i < k) (clients-count (lines ++ line ∷ []) n 0) (slice_get_within (by_client 0 n (lines ++ line ∷ [])) i xs at) in
      let is : Some xs ≡ Some (lines_of i 0 (lines ++ line ∷ [])) = sym at ∙ client-is (lines ++ line ∷ []) n i lt in
      let e : 0 + length lines ≡ length lines = omega arith in
      sym (is ∙ ap Some (lines-more i 0 lines line) ∙ dite (ℕ_discrete c i)
      (λ same. ap (λ b. Some (lines_of i 0 lines ++ cond b ((0 + length lines, presents line.act) ∷ []) [])) (eq-eqb c i same)
      ∙ ap (λ j. Some (lines_of i 0 lines ++ (j, presents line.act) ∷ [])) e
      ∙ ap (λ l. Some (l ++ (length lines, presents line.act) ∷ [])) (sym (client-or lines n i lt))
      ∙ ap (λ j. Some (get_or (by_client 0 n lines) j [] ++ (length lines, presents line.act) ∷ [])) (sym same)
      ∙ sym (subst (λ j. slice_get (slice_set (by_client 0 n lines) c v) j ≡ Some v) same (set-there (by_client 0 n lines) c v (lines_of c 0 lines) (client-is lines n c within))))
      (λ ne. ap (λ b. Some (lines_of i 0 lines ++ cond b ((0 + length lines, presents line.act) ∷ []) [])) (ne_eqb c i ne)
      ∙ ap Some (append-nil (lines_of i 0 lines)) ∙ sym (client-is lines n i lt) ∙ sym (set-elsewhere (by_client 0 n lines) c i v ne))))

-- what is so of each element of a list is so of all
pub all-elements : {A : Type 0} (P : A → Type 0) (xs : List A) → ((k : ℕ) (x : A) → get_elem? xs k ≡ some x → P x) → All P xs
all-elements P [] h k d lt = absurd (omega (arith, lt))
all-elements P (x ∷ xs) h zero d lt = h zero x refl
all-elements P (x ∷ xs) h (suc k) d lt = all-elements P xs (λ j y e. h (suc j) y e) k d (omega (arith, lt))

-- Each call of a whole history is a client's, where the seats that were joined are clients'.
pub whole-seats : {M R Q : Type 0} (own : ℕ → Q → Type 0) (s : SeatValue M R Q) (log : List (Past Q)) (n : ℕ) → 0 < n
    → ((j : ℕ) (x : Joined Q) → get_elem? s.joined j ≡ some x → x.number < n) → IsWhole own s log → All (λ past. past.seat < n) log
whole-seats {Q = Q} own s log n some_one joined h = all-elements (λ past. past.seat < n) log (λ k e at. by e (h.seats k e at))
  where
    by : (e : Past Q) → (e.seat ≡ 0) ⊎ ((j : ℕ) × (x : Joined Q) × (get_elem? s.joined j ≡ some x) × (x.number ≡ e.seat)) → e.seat < n
    by e (inl is) = omega (arith, is, some_one)
    by e (inr is) = let lt = joined is.0 is.1 is.2 in subst (λ k. k < n) is.3 lt

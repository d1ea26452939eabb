-- Histories: the calls of one seat in a longer history, the state after one more call, and beginnings.
use Rattle.std.proofs.Common.{◌≡◌, ◌≢◌, ℕ, eqb, zero, suc, ◌≤◌, List, [], ◌∷◌, ◌++◌, length, cond, true, false, refl, sym, ap, ◌∙◌, eq-eqb, ne_eqb, append_assoc, append-nil, arith}
use mathlib.Core.Logic.{dite}
use mathlib.Core.Option.{some}
use native.Mathlib.Decide.{ℕ_discrete}
use lib.ListN.{get_elem?}
use Rattle.pm_desk.specs.declared.history.Past.{Past}
use Rattle.pm_desk.specs.Histories.{state_at, calls_of, past, StartsWith}

module _ {Q : Type 0} where
  pub calls_of-append : (n : ℕ) (xs ys : List (Past Q)) → calls_of n (xs ++ ys) ≡ calls_of n xs ++ calls_of n ys
  calls_of-append n [] ys = refl
  calls_of-append n (x ∷ xs) ys = dite (ℕ_discrete x.seat n)
      (λ e. rw (eq-eqb x.seat n e) (ap (λ l. x.request ∷ l) (calls_of-append n xs ys)))
      (λ ne. rw (ne_eqb x.seat n ne) (calls_of-append n xs ys))

  -- one more call of the seat
  pub calls_of-own : (n : ℕ) (xs : List (Past Q)) (q : Q) → calls_of n (xs ++ past n q ∷ []) ≡ calls_of n xs ++ q ∷ []
  calls_of-own n xs q = calls_of-append n xs (past n q ∷ []) ∙ ap (λ b. calls_of n xs ++ cond b (q ∷ []) []) (eq-eqb n n refl)

  -- one more call of another seat
  pub calls_of-other : (n : ℕ) (xs : List (Past Q)) (e : Past Q) → e.seat ≢ n → calls_of n (xs ++ e ∷ []) ≡ calls_of n xs
  calls_of-other n xs e ne = calls_of-append n xs (e ∷ []) ∙ (ap (λ b. calls_of n xs ++ cond b (e.request ∷ []) []) (ne_eqb e.seat n ne) ∙ append-nil (calls_of n xs))

  pub state_at-push : {M R : Type 0} (next : R → M → Q → M) (rules : R) (m : M) (xs : List (Past Q)) (e : Past Q) → state_at next rules m (xs ++ e ∷ []) ≡ next rules (state_at next rules m xs) e.request
  state_at-push next rules m [] e = refl
  state_at-push next rules m (x ∷ xs) e = state_at-push next rules (next rules m x.request) xs e

module _ {A : Type 0} where
  pub starts_longer : (ys xs zs : List A) → StartsWith ys xs → StartsWith (ys ++ zs) xs
  starts_longer ys xs zs s = (s.0 ++ zs, ap (λ l. l ++ zs) s.1 ∙ append_assoc xs s.0 zs)

  -- of two beginnings of one list the longer begins with the shorter
  pub starts_between : (log xs ys : List A) → StartsWith log xs → StartsWith log ys → length xs ≤ length ys → StartsWith ys xs
  starts_between log [] ys a b le = (ys, refl)
  starts_between log (x ∷ xs) [] a b le = absurd (omega arith)
  starts_between [] (x ∷ xs) (y ∷ ys) a b le = let e = a.1 in absurd (cc)
  starts_between (l ∷ ls) (x ∷ xs) (y ∷ ys) a b le =
      let ea : l ∷ ls ≡ x ∷ (xs ++ a.0) = a.1 in
      let eb : l ∷ ls ≡ y ∷ (ys ++ b.0) = b.1 in
      let lx : l ≡ x = cc in
      let ly : l ≡ y = cc in
      let tx : ls ≡ xs ++ a.0 = cc in
      let ty : ls ≡ ys ++ b.0 = cc in
      let more = starts_between ls xs ys (a.0, tx) (b.0, ty) (omega arith) in
      (more.0, λ i. (sym ly ∙ lx) i ∷ more.1 i)

  pub starts_same : (xs : List A) → StartsWith xs xs
  starts_same xs = ([], sym (append-nil xs))

module _ {Q : Type 0} where
  -- a seat that made none of the calls
  pub calls_of-none : (n : ℕ) (xs : List (Past Q)) → ((k : ℕ) (e : Past Q) → get_elem? xs k ≡ some e → e.seat ≢ n) → calls_of n xs ≡ []
  calls_of-none n [] not_one = refl
  calls_of-none n (x ∷ xs) not_one = rw (ne_eqb x.seat n (not_one zero x refl)) (calls_of-none n xs (λ k. not_one (suc k)))

  -- of two beginnings of one history the longer has the calls that the shorter has, where it has all
  pub calls_between : (n : ℕ) (log xs ys : List (Past Q)) → StartsWith log xs → StartsWith log ys → length xs ≤ length ys → calls_of n log ≡ calls_of n xs → calls_of n log ≡ calls_of n ys
  calls_between n log [] ys a b le all = all ∙ sym (none_in (calls_of n ys) (calls_of n b.0) (sym (ap (calls_of n) b.1 ∙ calls_of-append n ys b.0) ∙ all))
    where
      none_in : (us vs : List Q) → us ++ vs ≡ [] → us ≡ []
      none_in [] vs e = refl
      none_in (u ∷ us) vs e = absurd (cc)
  calls_between n log (x ∷ xs) [] a b le all = absurd (omega arith)
  calls_between n [] (x ∷ xs) (y ∷ ys) a b le all = let e = a.1 in absurd (cc)
  calls_between n (l ∷ ls) (x ∷ xs) (y ∷ ys) a b le all =
      let ea : l ∷ ls ≡ x ∷ (xs ++ a.0) = a.1 in
      let eb : l ∷ ls ≡ y ∷ (ys ++ b.0) = b.1 in
      let lx : l ≡ x = cc in
      let ly : l ≡ y = cc in
      let tx : ls ≡ xs ++ a.0 = cc in
      let ty : ls ≡ ys ++ b.0 = cc in
      dite (ℕ_discrete l.seat n)
      (λ e. let at_x : eqb x.seat n ≡ true = ap (λ (p : Past Q). eqb p.seat n) (sym lx) ∙ eq-eqb l.seat n e in
      let at_y : eqb y.seat n ≡ true = ap (λ (p : Past Q). eqb p.seat n) (sym ly) ∙ eq-eqb l.seat n e in
      let mine : l.request ∷ calls_of n ls ≡ x.request ∷ calls_of n xs = sym (ap (λ b. cond b (l.request ∷ calls_of n ls) (calls_of n ls)) (eq-eqb l.seat n e)) ∙ (all ∙ ap (λ b. cond b (x.request ∷ calls_of n xs) (calls_of n xs)) at_x) in
      let tail : calls_of n ls ≡ calls_of n xs = cc in
      let more = calls_between n ls xs ys (a.0, tx) (b.0, ty) (omega arith) tail in
      ap (λ b. cond b (l.request ∷ calls_of n ls) (calls_of n ls)) (eq-eqb l.seat n e) ∙ ((λ i. (ly i).request ∷ more i) ∙ sym (ap (λ b. cond b (y.request ∷ calls_of n ys) (calls_of n ys)) at_y)))
      (λ ne. let at_l : eqb l.seat n ≡ false = ne_eqb l.seat n ne in
      let at_x : eqb x.seat n ≡ false = ap (λ (p : Past Q). eqb p.seat n) (sym lx) ∙ at_l in
      let at_y : eqb y.seat n ≡ false = ap (λ (p : Past Q). eqb p.seat n) (sym ly) ∙ at_l in
      let tail : calls_of n ls ≡ calls_of n xs = sym (ap (λ b. cond b (l.request ∷ calls_of n ls) (calls_of n ls)) at_l) ∙ (all ∙ ap (λ b. cond b (x.request ∷ calls_of n xs) (calls_of n xs)) at_x) in
      ap (λ b. cond b (l.request ∷ calls_of n ls) (calls_of n ls)) at_l ∙ (calls_between n ls xs ys (a.0, tx) (b.0, ty) (omega arith) tail ∙ sym (ap (λ b. cond b (y.request ∷ calls_of n ys) (calls_of n ys)) at_y)))

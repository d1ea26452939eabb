-- Putting a mark at its rank, and what holds of each mark after it.
use Rattle.std.proofs.Common.{◌≡◌, ◌≢◌, ℕ, suc, ◌<◌, ◌≤◌, ◌+◌, Bool, true, false, not, cond, nat_lt, List, [], ◌∷◌, ◌++◌, length, refl, ap, sym, subst, arith, ◌∙◌, Some, None}
use Rattle.std.specs.Option.{unwrap_or}
use Rattle.std.specs.List.{filter, insert, position_or_len, AllByRecursion}
use Rattle.std.proofs.lemmas.List.Sums.{prefix_len-le-length}
use Rattle.std.proofs.lemmas.Bool.Decides.{nat_tests}
use Rattle.pm_marks.specs.Rules.{excludes}
use Rattle.pm_marks.specs.Sets.{rank_place, placed}
use Rattle.pm_marks.specs.Together.{StandsBefore}
use Rattle.pm_marks.specs.declared.mark.Mark.{Mark}

-- ---- lists of any items

pub either : {X : Type 0} (P : X → Type 0) (b : Bool) (x y : X) → P x → P y → P (cond b x y)
either P true x y px py = px
either P false x y px py = py

pub either_by : {X : Type 0} (P : X → Type 0) (b : Bool) (x y : X) → (b ≡ true → P x) → (b ≡ false → P y) → P (cond b x y)
either_by P true x y px py = px refl
either_by P false x y px py = py refl

pub all_more : {X : Type 0} (P : X → Type 0) (xs : List X) (y : X) → AllByRecursion P xs → P y → AllByRecursion P (xs ++ y ∷ [])
all_more P [] y h p = (p, tt)
all_more P (x ∷ xs) y h p = (h.0, all_more P xs y h.1 p)

pub all_filter : {X : Type 0} (P : X → Type 0) (test : X → Bool) (xs : List X) → AllByRecursion P xs → AllByRecursion P (filter test xs)
all_filter P test [] h = tt
all_filter P test (x ∷ xs) h = let rest = all_filter P test xs h.1 in either (AllByRecursion P) (test x) _ _ (h.0, rest) rest

-- ---- at its rank

place_at : (n size : ℕ) → n ≤ size → unwrap_or (cond (nat_lt n size) (Some n) None) size ≡ n
place_at n size h = grind (arith, nat_tests)

module _ {A : Type 0} where
  rank_place-is : (ms : List (Mark A)) (m : Mark A) → rank_place ms m ≡ position_or_len (λ y. nat_lt m.kind y.kind) ms
  rank_place-is ms m = place_at (position_or_len (λ y. nat_lt m.kind y.kind) ms) (length ms) (prefix_len-le-length (λ y. not (nat_lt m.kind y.kind)) ms)

  pick_rank : (b : Bool) (n : ℕ) (x m : Mark A) (xs : List (Mark A)) → insert (x ∷ xs) (cond (not b) (1 + n) 0) m ≡ cond b (m ∷ x ∷ xs) (x ∷ insert xs n m)
  pick_rank true n x m xs = refl
  pick_rank false n x m xs = ap (λ k. insert (x ∷ xs) k m) {x = 1 + n} {y = suc n} (omega arith)

  -- before the first mark, where that has the higher rank, or after it
  pub placed-cons : (x m : Mark A) (xs : List (Mark A)) → placed (x ∷ xs) m ≡ cond (nat_lt m.kind x.kind) (m ∷ x ∷ xs) (x ∷ placed xs m)
  placed-cons x m xs =
      ap (λ n. insert (x ∷ xs) n m) (rank_place-is (x ∷ xs) m)
      ∙ pick_rank (nat_lt m.kind x.kind) (position_or_len (λ y. nat_lt m.kind y.kind) xs) x m xs
      ∙ ap (λ n. cond (nat_lt m.kind x.kind) (m ∷ x ∷ xs) (x ∷ insert xs n m)) (sym (rank_place-is xs m))

  pub all_placed : (P : Mark A → Type 0) (xs : List (Mark A)) (m : Mark A) → AllByRecursion P xs → P m → AllByRecursion P (placed xs m)
  all_placed P [] m h p = (p, tt)
  all_placed P (x ∷ xs) m h p =
      subst (AllByRecursion P) (sym (placed-cons x m xs)) (either (AllByRecursion P) (nat_lt m.kind x.kind) (m ∷ x ∷ xs) (x ∷ placed xs m) (p, h) (h.0, all_placed P xs m h.1 p))

-- ---- marks that stand together

module _ {A : Type 0} (table : List (List Bool)) where
  -- each mark stands before each later one
  abbrev pub Ordered : List (Mark A) → Type 0
  Ordered [] = Unit {0}
  Ordered (m ∷ ms) = AllByRecursion (StandsBefore table m) ms × Ordered ms

  -- the marks differ, and neither excludes the other
  pub record Apart (m n : Mark A) : Type 0 where
    pub differ : m ≢ n
    pub lets_second : excludes table m.kind n.kind ≡ false
    pub lets_first : excludes table n.kind m.kind ≡ false

  pub ordered_filter : (test : Mark A → Bool) (ms : List (Mark A)) → Ordered ms → Ordered (filter test ms)
  ordered_filter test [] h = tt
  ordered_filter test (m ∷ ms) h =
      let rest = ordered_filter test ms h.1 in
      either Ordered (test m) (m ∷ filter test ms) (filter test ms) (all_filter (StandsBefore table m) test ms h.0, rest) rest

  -- the new mark stands before all that follow one of higher rank
  before_rest : (m x : Mark A) (xs : List (Mark A)) → m.kind < x.kind → AllByRecursion (StandsBefore table x) xs → AllByRecursion (λ y. Apart y m) xs → AllByRecursion (StandsBefore table m) xs
  before_rest m x [] low h apart = tt
  before_rest m x (y ∷ ys) low h apart =
      let rank = h.0.in_rank in
      (record { in_rank = omega arith; differ = λ e. apart.0.differ (sym e); lets_second = apart.0.lets_first; lets_first = apart.0.lets_second }, before_rest m x ys low h.1 apart.1)

  pub ordered_placed : (ms : List (Mark A)) (m : Mark A) → Ordered ms → AllByRecursion (λ y. Apart y m) ms → Ordered (placed ms m)
  ordered_placed [] m h apart = (tt, tt)
  ordered_placed (x ∷ xs) m h apart =
      let in_front : nat_lt m.kind x.kind ≡ true → Ordered (m ∷ x ∷ xs) = λ e.
      let low : m.kind < x.kind = grind (arith, nat_tests) in
      let first : StandsBefore table m x = record { in_rank = omega arith; differ = λ d. apart.0.differ (sym d); lets_second = apart.0.lets_first; lets_first = apart.0.lets_second } in
      ((first, before_rest m x xs low h.0 apart.1), h) in
      let behind : nat_lt m.kind x.kind ≡ false → Ordered (x ∷ placed xs m) = λ e.
      let high : x.kind ≤ m.kind = grind (arith, nat_tests) in
      let first : StandsBefore table x m = record { in_rank = high; differ = apart.0.differ; lets_second = apart.0.lets_second; lets_first = apart.0.lets_first } in
      (all_placed (StandsBefore table x) xs m h.0 first, ordered_placed xs m h.1 apart.1) in
      subst Ordered (sym (placed-cons x m xs)) (either_by Ordered (nat_lt m.kind x.kind) (m ∷ x ∷ xs) (x ∷ placed xs m) in_front behind)

  -- a mark that all others stand before goes last
  pub placed_last : (ms : List (Mark A)) (m : Mark A) → AllByRecursion (λ y. StandsBefore table y m) ms → placed ms m ≡ ms ++ m ∷ []
  placed_last [] m h = refl
  placed_last (x ∷ xs) m h = placed-cons x m xs ∙ ap (λ b. cond b (m ∷ x ∷ xs) (x ∷ placed xs m)) low ∙ ap (λ ys. x ∷ ys) (placed_last xs m h.1)
    where
      low : nat_lt m.kind x.kind ≡ false
      low = let rank = h.0.in_rank in grind (arith, nat_tests)

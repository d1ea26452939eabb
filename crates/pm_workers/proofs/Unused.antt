-- Seats that have seen nothing, and seats that were joined.
use Rattle.std.proofs.Common.{◌≡◌, ℕ, zero, suc, ◌+◌, ◌<◌, List, [], ◌∷◌, ◌++◌, length, map, slice_get, Some, All, refl, ap, ◌∙◌, subst, arith}
use mathlib.Core.Option.{some}
use lib.ListN.{get_elem?}
use Rattle.pm_desk.specs.declared.history.Past.{Past}
use Rattle.pm_desk.specs.declared.history.Joined.{Joined}
use Rattle.pm_desk.specs.Desks.{DeskValue, SeatValue, IsSeatOf, first_seat}
use Rattle.pm_desk.specs.Histories.{calls_of, StartsWith}
use Rattle.pm_workers.specs.Seatings.{unused_seats, seats_for, as_joined, IsCovered}
use Rattle.pm_workers.proofs.Loops.{all-elements}

module _ {M R Q : Type 0} (d : DeskValue M R) where
  abbrev unused : ℕ → SeatValue M R Q
  unused k = record (first_seat d) { number = k }

  -- one seat more
  pub unused-more : (k n : ℕ) → unused_seats {Q = Q} d k (suc n) ≡ unused_seats {Q = Q} d k n ++ unused (k + n) ∷ []
  unused-more k zero = let e : k ≡ k + zero = omega arith in ap (λ j. unused j ∷ []) e
  unused-more k (suc n) =
      let e : (k + 1) + n ≡ k + suc n = omega arith in
      ap (λ l. unused k ∷ l) (unused-more (k + 1) n) ∙ ap (λ j. unused k ∷ unused_seats {Q = Q} d (k + 1) n ++ unused j ∷ []) e

  pub unused-next : (n : ℕ) → unused_seats {Q = Q} d 1 (n + 1) ≡ unused_seats {Q = Q} d 1 n ++ unused (n + 1) ∷ []
  unused-next n =
      let e : n + 1 ≡ suc n = omega arith in
      let f : 1 + n ≡ n + 1 = omega arith in
      ap (unused_seats {Q = Q} d 1) e ∙ unused-more 1 n ∙ ap (λ j. unused_seats {Q = Q} d 1 n ++ unused j ∷ []) f

-- the iterator gives what it holds
pub same-items : {A : Type 0} (xs : List A) → map (λ (y : A). y) xs ≡ xs
same-items [] = refl
same-items (x ∷ xs) = ap (λ l. x ∷ l) (same-items xs)

module _ {M R Q : Type 0} where
  get-mapped : (ss : List (SeatValue M R Q)) (k : ℕ) (s : SeatValue M R Q) → get_elem? ss k ≡ some s → get_elem? (map as_joined ss) k ≡ some (as_joined s)
  get-mapped [] k s h = absurd (cc)
  get-mapped (x ∷ ss) zero s h = let e : x ≡ s = cc in ap (λ v. some (as_joined v)) e
  get-mapped (x ∷ ss) (suc k) s h = get-mapped ss k s h

  -- a history that covers the seats that were joined covers the seats themselves
  pub all-covered : (log : List (Past Q)) (js : List (Joined Q)) (ss : List (SeatValue M R Q)) → js ≡ map as_joined ss
      → ((k : ℕ) (x : Joined Q) → get_elem? js k ≡ some x → StartsWith log x.seen × (calls_of x.number log ≡ calls_of x.number x.seen)) → All (λ s. IsCovered log s) ss
  all-covered log js ss is h = all-elements (λ s. IsCovered log s) ss (λ k s at.
      let one = h k (as_joined s) (ap (λ l. get_elem? l k) is ∙ get-mapped ss k s at) in
      record { begins = one.0; calls = one.1 })

  -- where each seat that was joined has one of the first numbers, each number that was joined is one of them
  pub joined-within : (n : ℕ) (ss : List (SeatValue M R Q)) → All (λ s. s.number < n) ss → (j : ℕ) (x : Joined Q) → get_elem? (map as_joined ss) j ≡ some x → x.number < n
  joined-within n [] h j x at = absurd (cc)
  joined-within n (s ∷ ss) h zero x at = let e : as_joined s ≡ x = cc in subst (λ (y : Joined Q). y.number < n) e (h 0 s (omega arith))
  joined-within n (s ∷ ss) h (suc j) x at = joined-within n ss (λ k d lt. h (suc k) d (omega (arith, lt))) j x at

-- as many seats as clients
pub seats-count : {M R : Type 0} (Q : Type 0) (d : DeskValue M R) (n : ℕ) → length (seats_for {Q = Q} d n) ≡ n
seats-count Q d zero = refl
seats-count Q d (suc n) = ap suc (count 1 n)
  where
    count : (k n : ℕ) → length (unused_seats {Q = Q} d k n) ≡ n
    count k zero = refl
    count k (suc n) = ap suc (count (k + 1) n)

pub one-of : {A : Type 0} (x y : A) → Some x ≡ Some y → x ≡ y
one-of x y e = cc

module _ {M R Q : Type 0} (d : DeskValue M R) where
  -- a seat of the desk with this number, which has seen nothing and to which none is joined
  pub record Fresh (i : ℕ) (s : SeatValue M R Q) : Type 0 where
    pub seat : IsSeatOf d s
    pub number : s.number ≡ i
    pub seen : s.seen ≡ []
    pub joined : s.joined ≡ []

  unused-at : (k n i : ℕ) (s : SeatValue M R Q) → slice_get (unused_seats d k n) i ≡ Some s → Fresh (k + i) s
  unused-at k zero i s h = absurd (cc)
  unused-at k (suc n) zero s h =
      let e : record (first_seat d) { number = k } ≡ s = one-of (record (first_seat d) { number = k }) s h in
      let f : k ≡ k + zero = omega arith in
      subst (λ t. Fresh (k + zero) t) e (record { seat = (refl, refl); number = f; seen = refl; joined = refl })
  unused-at k (suc n) (suc i) s h = let e : (k + 1) + i ≡ k + suc i = omega arith in subst (λ j. Fresh j s) e (unused-at (k + 1) n i s h)

  fresh-at : (n i : ℕ) (s : SeatValue M R Q) → slice_get (record (first_seat d) { splits = n } ∷ unused_seats d 1 n) i ≡ Some s → Fresh i s
  fresh-at n zero s h =
      let e : record (first_seat d) { splits = n } ≡ s = one-of (record (first_seat d) { splits = n }) s h in
      subst (λ t. Fresh zero t) e (record { seat = (refl, refl); number = refl; seen = refl; joined = refl })
  fresh-at n (suc i) s h = let e : 1 + i ≡ suc i = omega arith in subst (λ j. Fresh j s) e (unused-at 1 n i s h)

  -- each client's seat has the client's number and has seen nothing
  pub fresh-seat : (n i : ℕ) (s : SeatValue M R Q) → slice_get (seats_for d n) i ≡ Some s → Fresh i s
  fresh-seat zero i s h = absurd (cc)
  fresh-seat (suc n) i s h = fresh-at n i s h

  -- the first seat counts the others
  pub first-splits : (n : ℕ) (s : SeatValue M R Q) → slice_get (seats_for d n) zero ≡ Some s → s.splits + 1 ≡ n
  first-splits zero s h = absurd (cc)
  first-splits (suc n) s h =
      let e : n ≡ s.splits = ap (λ (t : SeatValue M R Q). t.splits) (one-of (record (first_seat d) { splits = n }) s h) in
      omega (arith, e)

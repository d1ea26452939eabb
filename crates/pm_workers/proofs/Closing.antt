-- The seats of a desk that is to be closed: the first one, and the others in order.
use Rattle.std.specs.Prelude.{insert}
use Rattle.std.proofs.Common.{◌≡◌, ℕ, zero, suc, ◌+◌, ◌<◌, List, [], ◌∷◌, ◌++◌, length, get_or, take, drop, All, refl, sym, ap₂, ◌∙◌, subst, arith}
use Rattle.std.proofs.lemmas.Option.{slice_get-get_or}
use Rattle.pm_desk.specs.declared.history.Past.{Past}
use Rattle.pm_desk.specs.Desks.{DeskValue, SeatValue, IsSeatOf}
use Rattle.pm_workers.specs.Seatings.{AreSeats, IsCovered}
use Rattle.pm_workers.proofs.Working.{take-none, drop-none}

-- the first of a list, and what it leaves
pub removed : {A : Type 0} (xs rest : List A) (x : A) → x ≡ get_or xs 0 x → rest ≡ take 0 xs ++ drop 1 xs → 0 < length xs → x ∷ rest ≡ xs
removed [] rest x e f lt = absurd (omega (arith, lt))
removed (y ∷ ys) rest x e f lt = ap₂ (λ a b. a ∷ b) e (f ∙ drop-none ys)

-- one more at the front
pub in-front : {A : Type 0} (xs : List A) (x : A) → insert xs 0 x ≡ x ∷ xs
in-front xs x = ap₂ (λ a b. a ++ x ∷ b) (take-none xs) (drop-none xs)

module _ {M R Q : Type 0} (d : DeskValue M R) (first : SeatValue M R Q) (rest : List (SeatValue M R Q)) where
  pub record Closing : Type 0 where
    pub seat : IsSeatOf d first
    pub number : first.number ≡ 0
    pub none_joined : first.joined ≡ []
    pub of_desk : All (λ s. IsSeatOf d s) rest
    pub all : length rest ≡ first.splits
    pub numbers : All (λ s. s.number < suc (length rest)) rest

  closing-of : AreSeats d (first ∷ rest) → Closing
  closing-of h =
      let split : first.splits + 1 ≡ suc (length rest) = h.splits first refl in
      record {
        seat = h.of_desk 0 first (omega arith);
        number = h.numbered 0 first refl;
        none_joined = h.none_joined first refl;
        of_desk = λ k e lt. h.of_desk (suc k) e (omega (arith, lt));
        all = omega (arith, split);
        numbers = λ k e lt.
            let is : (get_or rest k e).number ≡ suc k = h.numbered (suc k) (get_or rest k e) (slice_get-get_or rest k e lt) in
            omega (arith, is, lt);
      }

  pub closing : (ss : List (SeatValue M R Q)) → first ∷ rest ≡ ss → AreSeats d ss → Closing
  closing ss is h = closing-of (subst (λ l. AreSeats d l) (sym is) h)

  pub cover-all : (log : List (Past Q)) (ss : List (SeatValue M R Q)) → first ∷ rest ≡ ss → IsCovered log first → All (λ s. IsCovered log s) rest → All (λ s. IsCovered log s) ss
  cover-all log ss is one others = subst (λ l. All (λ s. IsCovered log s) l) is (λ k e lt. by k e lt)
    where
      by : (k : ℕ) (e : SeatValue M R Q) → k < suc (length rest) → IsCovered log (get_or (first ∷ rest) k e)
      by zero e lt = one
      by (suc k) e lt = others k e (omega (arith, lt))

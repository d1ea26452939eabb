-- The seats of one desk, one for each client.
use Rattle.std.specs.Prelude.{◌≡◌, ℕ, zero, suc, ◌+◌, ◌<◌, List, [], ◌∷◌, length, slice_get, Some, All}
use Rattle.pm_desk.specs.declared.history.Past.{Past}
use Rattle.pm_desk.specs.declared.history.Joined.{Joined}
use Rattle.pm_desk.specs.Desks.{DeskValue, SeatValue, IsSeatOf, first_seat}
use Rattle.pm_desk.specs.Histories.{calls_of, StartsWith}

module _ {M R Q : Type 0} where
  -- n seats that have seen nothing, with the numbers from k on
  abbrev pub unused_seats : DeskValue M R → ℕ → ℕ → List (SeatValue M R Q)
  unused_seats d k zero = []
  unused_seats d k (suc n) = record (first_seat d) { number = k } ∷ unused_seats d (k + 1) n

  -- the seats of n clients of a desk, number by number: nobody has called, and the first seat counts that the others were split
  abbrev pub seats_for : DeskValue M R → ℕ → List (SeatValue M R Q)
  seats_for d zero = []
  seats_for d (suc n) = record (first_seat d) { splits = n } ∷ unused_seats d 1 n

  -- a seat that was joined, as the first seat keeps it
  abbrev pub as_joined : SeatValue M R Q → Joined Q
  as_joined s = record { number = s.number; seen = s.seen }

  -- The history begins with what the seat has seen, and has no other call of it.
  pub record IsCovered (log : List (Past Q)) (s : SeatValue M R Q) : Type 0 where
    pub begins : StartsWith log s.seen
    pub calls : calls_of s.number log ≡ calls_of s.number s.seen

  -- All seats of a desk that was split, each at the place of its number. None is joined yet.
  pub record AreSeats (d : DeskValue M R) (ss : List (SeatValue M R Q)) : Type 0 where
    pub some : 0 < length ss
    pub of_desk : All (λ s. IsSeatOf d s) ss
    pub numbered : (i : ℕ) (s : SeatValue M R Q) → slice_get ss i ≡ Some s → s.number ≡ i
    pub splits : (s : SeatValue M R Q) → slice_get ss 0 ≡ Some s → s.splits + 1 ≡ length ss
    pub none_joined : (s : SeatValue M R Q) → slice_get ss 0 ≡ Some s → s.joined ≡ []
